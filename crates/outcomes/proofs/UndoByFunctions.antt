-- Demand 3 by functions: in class 0, every run of refinements by functions, from a mesh whose refined cells are covered by
-- deactivated functions of their level, is undone by its own function lists. Assumes nothing.
use mathlib.Core.Path.{◌≡◌, refl, sym, ap, ◌∙◌, subst}
use mathlib.Core.Bool.{Bool, true, false, not, ◌&&◌, ◌||◌, beq}
use mathlib.Core.List.{List, [], ◌∷◌}
use Prim.Native.Nat.{ℕ, zero, suc, ◌<◌, ◌≤◌}
use native.Mathlib.Omega.{arith}
use lib.Dec.{T, eqb, eqb→eq}
use lib.ListN.{get_or}
use Rattle.facts.specs.Bounded.{implies, some, every}
use Rattle.facts.specs.Numbers.{elem}
use Rattle.facts.proofs.Tests.{and_i, and_l, and_r, or_l, or_r, or_e, not_i, not_e, cases, same, eqb_of, T_true, T_false, implies_i, implies_e}
use Rattle.facts.proofs.Bounded.{some_i, some_e, every_i, every_e}
use Rattle.facts.proofs.Numbers.{listed→, →listed}
use Rattle.hierarchy.specs.Hierarchy.{Cells, closure}
use Rattle.hierarchy.proofs.Sets.{Admissible}
use Rattle.hierarchy.proofs.Closure.{closure_same}
use Rattle.grid.specs.declared.Plan.{Plan}
use Rattle.grid.specs.Plan.{cell_total, function_total, supported, hierarchy}
use Rattle.grid.proofs.Laws.{lawful, near_places}
use Rattle.mesh.specs.Mesh.{absent, active, refined, deactivated, reactivable, label_of, labels, check}
use Rattle.mesh.proofs.Bridge.{Good, check_good, get_d_labels, reactivable_is, byte_at_most, deactivated_e, deactivated_i, deactivated_grow}
use Rattle.outcomes.specs.Calls.{refine, coarsen, functions, eligible, is_too_deep, under_marked, under_kept, selected, changed, new_cells}
use Rattle.outcomes.specs.Runs.{Tables, LentLists, Call, result, after, entry, log, backwards, LongEnough, Undone, covered, RefinesByFunctions, end, and}
use Rattle.outcomes.proofs.Sets.{put, differs, May, changed_may}
use Rattle.outcomes.proofs.Marks.{Fits}
use Rattle.outcomes.proofs.Results.{may, new_good, new_refined, refining_keeps}
use Rattle.outcomes.proofs.Runs.{Each, done, next, run_undone}
use Rattle.outcomes.proofs.Undo.{Undoable, Turn, turn, call_undoes, call_checked, After, as_before, as_made, after_is}

-- ---- class 0: every set is admissible

module _ (p : Plan) (zero-class : p.class ≡ 0) (cs : List ℕ) (G : Good p cs) where
  ungraded : (X : Cells) → Admissible (hierarchy p) X
  ungraded X q c i s n = absurd ((near_places p G.range q c n).graded zero-class)

  pub closure_is : (X : Cells) (c : ℕ) → c < cell_total p → closure (hierarchy p) X c ≡ X c
  closure_is X c i = closure_same (hierarchy p) (lawful p G.range) X (ungraded X) c i

-- ---- labels as facts

module _ (p : Plan) (cs : List ℕ) (f : ℕ) (i : f < function_total p) where
  pub label_e : T (deactivated (labels p cs) f) → (c : ℕ) → c < cell_total p → T (supported p f c) → T (refined cs c)
  unfolding refined
  label_e t = deactivated_e p cs f (subst (λ n. T (eqb n 2)) (get_d_labels p cs f i) t)

  pub label_i : ((c : ℕ) → c < cell_total p → T (supported p f c) → T (refined cs c)) → T (deactivated (labels p cs) f)
  unfolding refined
  label_i h = subst (λ n. T (eqb n 2)) (sym (get_d_labels p cs f i)) (deactivated_i p cs f h)

  -- a function that is not deactivated has a cell that is not refined
  pub not_label : (T (deactivated (labels p cs) f) → ⊥) → (c : ℕ) × (c < cell_total p) × T (supported p f c) × (T (refined cs c) → ⊥)
  not_label n =
      let test : ℕ → Bool = λ c. supported p f c && not (refined cs c) in
      cases (some (cell_total p) test)
      (λ t. let (c, j, u) = some_e (cell_total p) test t in (c, j, and_l (supported p f c) _ u, not_e (refined cs c) (and_r (supported p f c) _ u)))
      (λ t. absurd (n (label_i (λ c j s. cases (refined cs c) (λ r. r) (λ r.
      absurd (not_e (some (cell_total p) test) t (some_i (cell_total p) test c j (and_i (supported p f c) (not (refined cs c)) s r))))))))

  -- the cells of an active function are present
  pub active_present : T (active (labels p cs) f) → (c : ℕ) → c < cell_total p → T (supported p f c) → T (absent cs c) → ⊥
  unfolding active label_of
  active_present t c j s a =
      let test : ℕ → Bool = λ c. supported p f c && absent cs c in
      let e : some (cell_total p) test ≡ true = T_true (some (cell_total p) test) (some_i (cell_total p) test c j (and_i (supported p f c) (absent cs c) s a)) in
      let o : label_of p cs f ≡ 1 = sym (get_d_labels p cs f i) ∙ eqb→eq (get_or (labels p cs) f 0) 1 t in
      let z : ◌≡◌ {A = ℕ} 0 1 = rw e at o in
      omega arith

  -- a function is active where none of its cells is absent and not all are refined
  pub active_label : ((c : ℕ) → c < cell_total p → T (supported p f c) → T (absent cs c) → ⊥) → (T (deactivated (labels p cs) f) → ⊥) → T (active (labels p cs) f)
  unfolding active label_of
  active_label h n =
      let test : ℕ → Bool = λ c. supported p f c && absent cs c in
      let a : some (cell_total p) test ≡ false = T_false (some (cell_total p) test) (λ t. let (c, j, u) = some_e (cell_total p) test t in h c j (and_l (supported p f c) _ u) (and_r (supported p f c) _ u)) in
      let r : every (cell_total p) (λ c. implies (supported p f c) (refined cs c)) ≡ false = T_false _ (λ t. n (label_i (λ c j s. implies_e (supported p f c) (refined cs c) (every_e (cell_total p) (λ c. implies (supported p f c) (refined cs c)) t c j) s))) in
      eqb_of _ _ (get_d_labels p cs f i ∙ rw (a, r) refl)

  pub active_not : T (active (labels p cs) f) → T (deactivated (labels p cs) f) → ⊥
  unfolding active refined
  active_not a r = omega (arith, eqb→eq (get_or (labels p cs) f 0) 1 a, eqb→eq (get_or (labels p cs) f 0) 2 r)

-- a cell that is neither absent nor refined is active
pub present_active : (p : Plan) (cs : List ℕ) → Good p cs → (c : ℕ) → c < cell_total p → (T (absent cs c) → ⊥) → (T (refined cs c) → ⊥) → T (active cs c)
unfolding absent refined active
present_active p cs G c i a r = go (get_or cs c 0) (byte_at_most p cs G c i) a r
  where
    go : (n : ℕ) → n ≤ 2 → (T (eqb n 0) → ⊥) → (T (eqb n 2) → ⊥) → T (eqb n 1)
    go zero h a r = absurd (a tt)
    go (suc zero) h a r = tt
    go (suc (suc zero)) h a r = absurd (r tt)
    go (suc (suc (suc n))) h a r = absurd (omega arith)

changed_bits : (a b : Bool) → (T a → T b) → T (not (beq a b)) → T b × (T a → ⊥)
changed_bits a b h t = let u : T (b && not a) = subst T (differs a b h) t in (and_l b _ u, not_e a (and_r b _ u))

bits_changed : (a b : Bool) → T b → (T a → ⊥) → T (not (beq a b))
bits_changed a b t n = subst T (sym (differs a b (λ u. absurd (n u)))) (and_i b (not a) t (not_i a n))

-- ---- an accepted refinement by functions in class 0

module _ (p : Plan) (zero-class : p.class ≡ 0) (cs marks : List ℕ) (G : Good p cs)
    (fit : (x : ℕ) → T (elem x marks) → Fits refine functions p cs (labels p cs) x) where
  abbrev fs : List ℕ
  fs = labels p cs

  abbrev new : List ℕ
  new = new_cells refine functions p cs fs marks

  abbrev fs' : List ℕ
  fs' = labels p new

  abbrev M : Cells
  M = selected refine functions p cs fs marks

  abbrev N : Good p new
  N = new_good refine functions p cs fs marks G fit

  new_cells_lem : (c : ℕ) → c < cell_total p → refined new c ≡ refined cs c || M c
  new_cells_lem c i = ap (λ X. X c) (new_refined refine functions p cs fs marks G fit) ∙ closure_is p zero-class cs G (put refine (refined cs) M) c i

  deactivated_stays : (f : ℕ) → f < function_total p → T (deactivated fs f) → T (deactivated fs' f)
  deactivated_stays = deactivated_grow p cs new (refining_keeps functions p cs fs marks G fit)

  -- what was added was selected, and is reactivable
  added_selected : (c : ℕ) → c < cell_total p → T (refined new c) → (T (refined cs c) → ⊥) → T (M c)
  added_selected c i t n = or_e (refined cs c) (M c) (subst T (new_cells_lem c i) t) (λ r. absurd (n r)) (λ m. m)

  added_reactivable : (c : ℕ) → c < cell_total p → T (refined new c) → (T (refined cs c) → ⊥) → T (reactivable p new c)
  added_reactivable c i t n =
      let H = hierarchy p in
      let r = new_refined refine functions p cs fs marks G fit in
      let R : Cells = closure H (put refine (refined cs) M) in
      let u : T (R c && not (refined cs c)) = and_i (R c) (not (refined cs c)) (subst (λ X. T (X c)) r t) (not_i (refined cs c) n) in
      subst T (sym (reactivable_is p new N c i))
      (subst (λ X. May coarsen H X c) (sym r) (changed_may H (lawful p G.range) (refined cs) M G.admissible G.mesh refine (may refine functions p cs fs marks G fit) c i u))

  -- a marked function is deactivated afterwards, and was not before
  pub marked_done : (f : ℕ) → T (elem f marks) → (f < function_total p) × T (deactivated fs' f) × (T (deactivated fs f) → ⊥)
  unfolding eligible selected under_marked
  marked_done f m =
      let k = fit f m in
      let i = k.inside in (
        i,
        label_i p new f i (λ c j s. subst T (sym (new_cells_lem c j)) (cases (refined cs c)
            (λ r. or_l (refined cs c) (M c) r)
            (λ r. or_r (refined cs c) (M c) (and_i (active cs c) _
            (present_active p cs G c j (active_present p cs f i k.kind c j s) (not_e (refined cs c) r))
            (some_i (function_total p) (λ f. elem f marks && supported p f c) f i (and_i (elem f marks) (supported p f c) m s)))))),
        active_not p cs f i k.kind,
      )

  -- ---- the function list

  abbrev df : List ℕ
  df = changed (function_total p) fs fs'

  df→ : (f : ℕ) → T (elem f df) → (f < function_total p) × T (deactivated fs' f) × (T (deactivated fs f) → ⊥)
  unfolding changed
  df→ f t =
      let (i, u) = listed→ (function_total p) (λ x. not (beq (deactivated fs x) (deactivated fs' x))) f t in
      let (a, b) = changed_bits (deactivated fs f) (deactivated fs' f) (deactivated_stays f i) u in
      (i, a, b)

  →df : (f : ℕ) → f < function_total p → T (deactivated fs' f) → (T (deactivated fs f) → ⊥) → T (elem f df)
  unfolding changed
  →df f i t n = →listed (function_total p) (λ x. not (beq (deactivated fs x) (deactivated fs' x))) f i (bits_changed (deactivated fs f) (deactivated fs' f) t n)

  df_fits : (f : ℕ) → T (elem f df) → Fits coarsen functions p new fs' f
  unfolding eligible is_too_deep
  df_fits f t =
      let (i, a, n) = df→ f t in
      let (c, j, s, o) = not_label p cs f i n in
      record {
        inside = i;
        kind = and_i (deactivated fs' f) _ a (some_i (cell_total p) (λ c. supported p f c && reactivable p new c) c j
            (and_i (supported p f c) (reactivable p new c) s (added_reactivable c j (label_e p new f i a c j s) o)));
        shallow = λ t. t;
      }

  -- ---- the cells that the list means are the added ones (document 000, proposition 10)

  abbrev back_selected : Cells
  back_selected = selected coarsen functions p new fs' df

  added_back : (c : ℕ) → c < cell_total p → T (refined new c) → (T (refined cs c) → ⊥) → T (back_selected c)
  unfolding selected under_marked under_kept
  added_back c j t n =
      let (f, i, u) = some_e (function_total p) (λ f. elem f marks && supported p f c) (and_r (active cs c) _ (added_selected c j t n)) in
      let (i', a, b) = marked_done f (and_l (elem f marks) _ u) in
      let kept : ℕ → Bool = λ f. not (elem f df) && (deactivated fs' f && supported p f c) in
      and_i (reactivable p new c) _ (added_reactivable c j t n)
      (and_i (under_marked p df c) _
      (some_i (function_total p) (λ f. elem f df && supported p f c) f i (and_i (elem f df) (supported p f c) (→df f i a b) (and_r (elem f marks) _ u)))
      (not_i (some (function_total p) kept) (λ w.
      let (g, k, v) = some_e (function_total p) kept w in
      let x : T (deactivated fs' g && supported p g c) = and_r (not (elem g df)) _ v in
      n (label_e p cs g k (cases (deactivated fs g) (λ r. r) (λ r. absurd (not_e (elem g df) (and_l (not (elem g df)) _ v) (→df g k (and_l (deactivated fs' g) _ x) (not_e (deactivated fs g) r)))))
      c j (and_r (deactivated fs' g) (supported p g c) x)))))

  module _ (K : T (covered p cs fs)) where
    cover : (c : ℕ) → c < cell_total p → T (refined cs c) → (g : ℕ) × (g < function_total p) × T (deactivated fs g) × T (supported p g c)
    unfolding covered
    cover c j r =
        let (g, k, v) = some_e (function_total p) (λ f. deactivated fs f && supported p f c)
        (implies_e (refined cs c) _ (every_e (cell_total p) (λ c. implies (refined cs c) (some (function_total p) (λ f. deactivated fs f && supported p f c))) K c j) r) in
        (g, k, and_l (deactivated fs g) _ v, and_r (deactivated fs g) (supported p g c) v)

    old_not_selected : (c : ℕ) → c < cell_total p → T (refined cs c) → T (back_selected c) → ⊥
    unfolding selected under_kept
    old_not_selected c j r m =
        let (g, k, a, s) = cover c j r in
        let kept : ℕ → Bool = λ f. not (elem f df) && (deactivated fs' f && supported p f c) in
        not_e (some (function_total p) kept) (and_r (under_marked p df c) _ (and_r (reactivable p new c) _ m))
        (some_i (function_total p) kept g k (and_i (not (elem g df)) _ (not_i (elem g df) (λ t. (df→ g t).2 a)) (and_i (deactivated fs' g) (supported p g c) (deactivated_stays g k a) s)))

    pub functions_undoable : Undoable functions refine p cs new G N
    functions_undoable = record {
      fit = df_fits;
      back = λ c i. closure_is p zero-class cs G (put coarsen (refined new) (selected coarsen functions p new fs' df)) c i
          ∙ same _ (refined cs c)
          (λ t. cases (refined cs c) (λ r. r) (λ r. absurd (not_e (back_selected c) (and_r (refined new c) (not (back_selected c)) t)
          (added_back c i (and_l (refined new c) _ t) (not_e (refined cs c) r)))))
          (λ r. and_i (refined new c) _ (refining_keeps functions p cs fs marks G fit c i r) (not_i (back_selected c) (old_not_selected c i r)));
    }

    -- the premise is kept
    pub covered_kept : T (covered p new fs')
    unfolding covered selected under_marked
    covered_kept = every_i (cell_total p) _ (λ c j. implies_i (refined new c) _ (λ t. cases (refined cs c)
        (λ r. let (g, k, a, s) = cover c j r in
        some_i (function_total p) (λ f. deactivated fs' f && supported p f c) g k (and_i (deactivated fs' g) (supported p g c) (deactivated_stays g k a) s))
        (λ r. let (f, i, u) = some_e (function_total p) (λ f. elem f marks && supported p f c) (and_r (active cs c) _ (added_selected c j t (not_e (refined cs c) r))) in
        some_i (function_total p) (λ f. deactivated fs' f && supported p f c) f i
        (and_i (deactivated fs' f) (supported p f c) (marked_done f (and_l (elem f marks) _ u)).1 (and_r (elem f marks) _ u)))))

-- ---- the run

-- each call refines by functions
pub data Refines : Call → Type 0 where
  refines : {marks : List ℕ} {room : LentLists} → Refines (record { direction = refine; by = functions; marks = marks; room = room })

each : {run : List Call} → RefinesByFunctions run → Each Refines run
each end = done
each (and r) = next refines (each r)

module _ (p : Plan) (zero-class : p.class ≡ 0) where
  -- what each call finds
  pub record Found (t : Tables) : Type 0 where
    pub passes : check p t.cells t.functions ≡ 0
    pub covers : T (covered p t.cells t.functions)

  module _ (t : Tables) (marks : List ℕ) (covers : T (covered p t.cells t.functions)) (G : Good p t.cells) (l : t.functions ≡ labels p t.cells) where
    undoable : (fit : (x : ℕ) → T (elem x marks) → Fits refine functions p t.cells t.functions x)
        → Undoable functions refine p t.cells (new_cells refine functions p t.cells t.functions marks) G
        (new_good refine functions p t.cells t.functions marks G fit)
    undoable = subst (λ (f : List ℕ). (fit : (x : ℕ) → T (elem x marks) → Fits refine functions p t.cells f x)
        → Undoable functions refine p t.cells (new_cells refine functions p t.cells f marks) G (new_good refine functions p t.cells f marks G fit)) (sym l)
        (λ fit. functions_undoable p zero-class t.cells marks G fit (subst (λ f. T (covered p t.cells f)) l covers))

    covers_new : (fit : (x : ℕ) → T (elem x marks) → Fits refine functions p t.cells t.functions x)
        → let new = new_cells refine functions p t.cells t.functions marks in T (covered p new (labels p new))
    covers_new = subst (λ (f : List ℕ). (fit : (x : ℕ) → T (elem x marks) → Fits refine functions p t.cells f x)
        → let new = new_cells refine functions p t.cells f marks in T (covered p new (labels p new))) (sym l)
        (λ fit. covered_kept p zero-class t.cells marks G fit (subst (λ f. T (covered p t.cells f)) l covers))

  pub by_functions : (t : Tables) (a : Call) → Found t → Refines a → Turn functions p t a.direction (result p t a)
  by_functions t a F (refines {marks = marks}) = turn p t a functions (λ G fit l. undoable t marks F.covers G l fit) F.passes

  pub stays_found : (t : Tables) (a : Call) → Found t → Refines a → Found (after p t a)
  stays_found t a F (refines {marks = marks} {room = room}) =
      let (G, l) = check_good p t.cells t.functions F.passes in
      record {
        passes = call_checked functions p t a (by_functions t a F refines);
        covers = go G l (after_is p t (record { direction = refine; by = functions; marks = marks; room = room }));
      }
    where
      b : Call
      b = record { direction = refine; by = functions; marks = marks; room = room }

      go : Good p t.cells → t.functions ≡ labels p t.cells → After p t b → T (covered p (after p t b).cells (after p t b).functions)
      go G l (as_before e) = subst (λ s. T (covered p s.cells s.functions)) (sym e) F.covers
      go G l (as_made fit e) = subst (λ s. T (covered p s.cells s.functions)) (sym e) (covers_new t marks F.covers G l fit)

  -- In class 0, from a mesh that check passes and whose refined cells are covered, every run of refinements by functions, refused
  -- ones included: the copied function lists, last first, given to coarsen by functions with lists long enough, are accepted,
  -- name the same cells and functions, and restore both tables
  pub undone_by_functions_lem : (t : Tables) (run : List Call) (rooms : List LentLists) → check p t.cells t.functions ≡ 0
      → T (covered p t.cells t.functions) → RefinesByFunctions run → LongEnough (backwards (log p t run)) rooms → Undone functions p t run rooms
  undone_by_functions_lem t run rooms k c r l =
      run_undone (λ t. t) (after p) (λ t a. entry p t a ∷ []) functions p Found Refines stays_found (λ t a F f. call_undoes functions p t a (by_functions t a F f))
      run t rooms (record { passes = k; covers = c }) (each r) l
