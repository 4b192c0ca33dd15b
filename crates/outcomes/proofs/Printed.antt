-- An accepted refinement does what algorithms 1 to 6 of document 000 print. Assumes nothing.
use mathlib.Core.Path.{◌≡◌, refl, sym, ap, ap₂, ◌∙◌, subst}
use mathlib.Core.Bool.{Bool, true, false, not, ◌&&◌, ◌||◌}
use mathlib.Core.List.{List}
use Prim.Native.Nat.{ℕ, suc, ◌<◌}
use native.Mathlib.Omega.{arith}
use lib.Dec.{T, eqb, eqb→eq}
use lib.ListN.{get_or}
use Rattle.facts.specs.Bounded.{implies, some}
use Rattle.facts.specs.Numbers.{elem}
use Rattle.facts.proofs.Tests.{and_i, and_l, and_r, or_l, or_r, or_e, not_i, not_e, cases, same, positive, implies_i, implies_e}
use Rattle.facts.proofs.Bounded.{some_i, some_e, every_i, every_e}
use Rattle.hierarchy.specs.Hierarchy.{closure}
use Rattle.hierarchy.proofs.Sets.{◌∪◌}
use Rattle.hierarchy.proofs.Undo as undo
use Rattle.grid.specs.declared.Plan.{Plan}
use Rattle.grid.specs.Plan.{cell_total, function_total, cell_level, parent, supported, hierarchy}
use Rattle.grid.proofs.Laws.{lawful, parent_lt}
use Rattle.mesh.specs.Mesh.{absent, active, refined, deactivated, labels}
use Rattle.mesh.proofs.Bridge.{Good, check_good, rooted, present_of_lem, active_is, apart_bytes, deactivated_grow, refined_not_absent}
use Rattle.outcomes.specs.Calls.{refine, By, cells, functions, under_marked, selected, changed, Outcome, refused, new_cells, outcome}
use Rattle.outcomes.specs.Printed.{is_new, is_active_cell, is_deactivated_cell, is_to_deactivate, is_neighbor, is_to_deactivate_near, is_to_deactivate_by, is_candidate, is_active_function, is_deactivated_function, cells_of, functions_of, AsPrinted}
use Rattle.outcomes.proofs.Sets.{differs}
use Rattle.outcomes.proofs.Marks.{Fits, refusal_e}
use Rattle.outcomes.proofs.Results.{may, new_good, new_refined, refining_keeps, accepted, Made, refusal_of, accepted_as, made, written_take}
use Rattle.outcomes.proofs.Undo.{elem_changed}
use Rattle.outcomes.proofs.UndoByFunctions.{closure_is, label_e, label_i, not_label, active_present, active_label, active_not, present_active, marked_done}

active_not_absent : (cs : List ℕ) (c : ℕ) → T (absent cs c) → T (active cs c) → ⊥
unfolding absent active
active_not_absent cs c a r = omega (arith, eqb→eq (get_or cs c 0) 0 a, eqb→eq (get_or cs c 0) 1 r)

-- a cell is present just where it is of level 0 or its parent is refined
module _ (p : Plan) (cs : List ℕ) (G : Good p cs) (c : ℕ) (i : c < cell_total p) where
  present_rooted : (T (absent cs c) → ⊥) → T (rooted p (refined cs) c)
  present_rooted a = subst T (present_of_lem p cs G c i) (not_i (absent cs c) a)

  rooted_present : T (rooted p (refined cs) c) → T (absent cs c) → ⊥
  rooted_present t = not_e (absent cs c) (subst T (sym (present_of_lem p cs G c i)) t)

-- ---- a mesh cs, a refined mesh cs', and the list ME of what was refined, all of it active before

module _ (p : Plan) (cs cs' ME : List ℕ) (G : Good p cs) (N : Good p cs')
    (keeps : (c : ℕ) → c < cell_total p → T (refined cs c) → T (refined cs' c))
    (added : (c : ℕ) → c < cell_total p → T (refined cs' c) → (T (refined cs c) → ⊥) → T (active cs c))
    (is : (c : ℕ) → c < cell_total p → elem c ME ≡ refined cs' c && not (refined cs c)) where
  -- ---- cells

  module _ (c : ℕ) (i : c < cell_total p) where
    me_e : T (elem c ME) → T (refined cs' c) × (T (refined cs c) → ⊥)
    me_e t = let u = subst T (is c i) t in (and_l (refined cs' c) _ u, not_e (refined cs c) (and_r (refined cs' c) _ u))

    me_i : T (refined cs' c) → (T (refined cs c) → ⊥) → T (elem c ME)
    me_i r n = subst T (sym (is c i)) (and_i (refined cs' c) _ r (not_i (refined cs c) n))

    -- what was present is present
    stays : (T (absent cs c) → ⊥) → T (absent cs' c) → ⊥
    stays a = rooted_present p cs' N c i (cases (eqb (cell_level p c) 0)
        (λ z. or_l (eqb (cell_level p c) 0) _ z)
        (λ z. or_r (eqb (cell_level p c) 0) _ (or_e (eqb (cell_level p c) 0) (refined cs (parent p c)) (present_rooted p cs G c i a)
        (λ y. absurd (not_e (eqb (cell_level p c) 0) z y))
        (keeps (parent p c) (parent_lt p G.range c i (positive (cell_level p c) z))))))

    -- a child of a cell that was refined was absent, and is active
    new_cell_e : T (is_new p ME c) → T (absent cs c) × T (active cs' c)
    unfolding is_new
    new_cell_e t =
        let z = and_l (not (eqb (cell_level p c) 0)) _ t in
        let l = positive (cell_level p c) z in
        let j = parent_lt p G.range c i l in
        let u = subst T (is (parent p c) j) (and_r (not (eqb (cell_level p c) 0)) _ t) in
        let n = not_e (refined cs (parent p c)) (and_r (refined cs' (parent p c)) _ u) in
        let a : (T (absent cs c) → ⊥) → ⊥ = λ h. or_e (eqb (cell_level p c) 0) (refined cs (parent p c)) (present_rooted p cs G c i h) (not_e (eqb (cell_level p c) 0) z) n in
        let was_absent : T (absent cs c) = cases (absent cs c) (λ h. h) (λ h. absurd (a (not_e (absent cs c) h))) in (
          was_absent,
          present_active p cs' N c i (rooted_present p cs' N c i (or_r (eqb (cell_level p c) 0) _ (and_l (refined cs' (parent p c)) _ u)))
              (λ r. active_not_absent cs c was_absent (added c i r (refined_not_absent cs c was_absent))),
        )

    -- and what appears is such a child
    new_cell_i : T (absent cs c) → (T (absent cs' c) → ⊥) → T (is_new p ME c)
    unfolding is_new
    new_cell_i a b =
        let z : T (eqb (cell_level p c) 0) → ⊥ = λ y. rooted_present p cs G c i (or_l (eqb (cell_level p c) 0) _ y) a in
        let y = not_i (eqb (cell_level p c) 0) z in
        let j = parent_lt p G.range c i (positive (cell_level p c) y) in
        let r = or_e (eqb (cell_level p c) 0) (refined cs' (parent p c)) (present_rooted p cs' N c i b) (λ y. absurd (z y)) (λ u. u) in
        and_i (not (eqb (cell_level p c) 0)) _ y
        (subst T (sym (is (parent p c) j)) (and_i (refined cs' (parent p c)) _ r (not_i (refined cs (parent p c)) (λ s. rooted_present p cs G c i (or_r (eqb (cell_level p c) 0) _ s) a))))

    pub deactivated_cell : refined cs' c ≡ is_deactivated_cell cs ME c
    unfolding is_deactivated_cell
    deactivated_cell = same _ _
        (λ r. cases (refined cs c) (or_l (refined cs c) _) (λ n. or_r (refined cs c) _ (me_i r (not_e (refined cs c) n))))
        (λ t. or_e (refined cs c) (elem c ME) t (keeps c i) (λ u. (me_e u).0))

    pub active_cell : active cs' c ≡ is_active_cell p cs ME c
    unfolding is_active_cell
    active_cell = same _ _
        (λ a. and_i (active cs c || is_new p ME c) _
        (cases (absent cs c)
        (λ h. or_r (active cs c) _ (new_cell_i h (λ b. active_not_absent cs' c b a)))
        (λ h. or_l (active cs c) _ (present_active p cs G c i (not_e (absent cs c) h) (λ r. apart_bytes p cs' N c a (keeps c i r)))))
        (not_i (elem c ME) (λ u. apart_bytes p cs' N c a (me_e u).0)))
        (λ t. let n = not_e (elem c ME) (and_r (active cs c || is_new p ME c) _ t) in
        or_e (active cs c) (is_new p ME c) (and_l (active cs c || is_new p ME c) _ t)
        (λ a. present_active p cs' N c i (stays (λ h. active_not_absent cs c h a)) (λ r. n (me_i r (apart_bytes p cs G c a))))
        (λ u. (new_cell_e u).1))

  -- ---- functions

  module _ (f : ℕ) (j : f < function_total p) where
    abbrev fs : List ℕ
    fs = labels p cs

    abbrev fs' : List ℕ
    fs' = labels p cs'

    stays_deactivated : T (deactivated fs f) → T (deactivated fs' f)
    stays_deactivated = deactivated_grow p cs cs' keeps f j

    abbrev under_refined : ℕ → Bool
    under_refined c = supported p f c && elem c ME

    abbrev under_active : ℕ → Bool
    under_active c = supported p f c && active cs' c

    -- MF: what becomes deactivated
    pub to_deactivate_i : T (deactivated fs' f) → (T (deactivated fs f) → ⊥) → T (is_to_deactivate p cs' fs ME f)
    unfolding is_to_deactivate
    to_deactivate_i d n =
        let all = label_e p cs' f j d in
        let (c, i, s, r) = not_label p cs f j n in
        and_i (some (cell_total p) under_refined) _ (some_i (cell_total p) under_refined c i (and_i (supported p f c) _ s (me_i c i (all c i s) r)))
        (and_i (active fs f) _
        (active_label p cs f j (λ c i s a. active_not_absent cs c a (added c i (all c i s) (refined_not_absent cs c a))) n)
        (not_i (some (cell_total p) under_active) (λ t. let (c, i, u) = some_e (cell_total p) under_active t in
        apart_bytes p cs' N c (and_r (supported p f c) _ u) (all c i (and_l (supported p f c) _ u)))))

    -- an active function without an active cell of the refined mesh becomes deactivated
    pub without_active_cells : T (active fs f) → (T (some (cell_total p) under_active) → ⊥) → T (deactivated fs' f)
    without_active_cells a none = label_i p cs' f j (λ c i s. cases (refined cs' c) (λ r. r) (λ r.
        absurd (none (some_i (cell_total p) under_active c i (and_i (supported p f c) _ s
        (present_active p cs' N c i (stays c i (active_present p cs f j a c i s)) (not_e (refined cs' c) r)))))))

    pub to_deactivate_e : T (is_to_deactivate p cs' fs ME f) → T (deactivated fs' f) × (T (deactivated fs f) → ⊥)
    unfolding is_to_deactivate
    to_deactivate_e t =
        let u = and_r (some (cell_total p) under_refined) _ t in
        let a = and_l (active fs f) _ u in
        (without_active_cells a (not_e (some (cell_total p) under_active) (and_r (active fs f) _ u)), active_not p cs f j a)

    pub deactivated_function_lem : deactivated fs' f ≡ is_deactivated_function p cs' fs ME f
    unfolding is_deactivated_function
    deactivated_function_lem = same _ _
        (λ d. cases (deactivated fs f) (or_l (deactivated fs f) _) (λ n. or_r (deactivated fs f) _ (to_deactivate_i d (not_e (deactivated fs f) n))))
        (λ t. or_e (deactivated fs f) (is_to_deactivate p cs' fs ME f) t stays_deactivated (λ u. (to_deactivate_e u).0))

    abbrev under_absent : ℕ → Bool
    under_absent c = supported p f c && absent cs c

    abbrev under_new : ℕ → Bool
    under_new c = supported p f c && is_new p ME c

    abbrev whole : ℕ → Bool
    whole c = implies (supported p f c) (active cs' c || refined cs' c)

    -- F^C: what was passive and is active
    candidate_i : T (active fs' f) → (T (active fs f) → ⊥) → T (is_candidate p cs' fs ME f)
    unfolding is_candidate
    candidate_i a n =
        let new = active_present p cs' f j a in
        and_i (some (cell_total p) under_new) _
        (cases (some (cell_total p) under_absent)
        (λ t. let (c, i, u) = some_e (cell_total p) under_absent t in
        let s = and_l (supported p f c) _ u in
        some_i (cell_total p) under_new c i (and_i (supported p f c) _ s (new_cell_i c i (and_r (supported p f c) _ u) (new c i s))))
        (λ t. absurd (n (active_label p cs f j
        (λ c i s h. not_e (some (cell_total p) under_absent) t (some_i (cell_total p) under_absent c i (and_i (supported p f c) _ s h)))
        (λ d. active_not p cs' f j a (stays_deactivated d))))))
        (and_i (not (active fs f)) _ (not_i (active fs f) n)
        (every_i (cell_total p) whole (λ c i. implies_i (supported p f c) _ (λ s. cases (refined cs' c)
        (or_r (active cs' c) (refined cs' c))
        (λ r. or_l (active cs' c) _ (present_active p cs' N c i (new c i s) (not_e (refined cs' c) r)))))))

    candidate_e : T (is_candidate p cs' fs ME f) → T (active fs' f)
    unfolding is_candidate
    candidate_e t =
        let (c, i, u) = some_e (cell_total p) under_new (and_l (some (cell_total p) under_new) _ t) in
        let w = and_r (not (active fs f)) _ (and_r (some (cell_total p) under_new) _ t) in
        active_label p cs' f j
        (λ c i s h. or_e (active cs' c) (refined cs' c) (implies_e (supported p f c) _ (every_e (cell_total p) whole w c i) s) (active_not_absent cs' c h) (refined_not_absent cs' c h))
        (λ d. apart_bytes p cs' N c (new_cell_e c i (and_r (supported p f c) _ u)).1 (label_e p cs' f j d c i (and_l (supported p f c) _ u)))

    pub active_function_lem : active fs' f ≡ is_active_function p cs' fs ME f
    unfolding is_active_function
    active_function_lem = same _ _
        (λ a. and_i (active fs f || is_candidate p cs' fs ME f) _
        (cases (active fs f) (or_l (active fs f) _) (λ n. or_r (active fs f) _ (candidate_i a (not_e (active fs f) n))))
        (not_i (is_to_deactivate p cs' fs ME f) (λ u. active_not p cs' f j a (to_deactivate_e u).0)))
        (λ t. let n = not_e (is_to_deactivate p cs' fs ME f) (and_r (active fs f || is_candidate p cs' fs ME f) _ t) in
        or_e (active fs f) (is_candidate p cs' fs ME f) (and_l (active fs f || is_candidate p cs' fs ME f) _ t)
        (λ a. active_label p cs' f j (λ c i s. stays c i (active_present p cs f j a c i s)) (λ d. n (to_deactivate_i d (active_not p cs f j a))))
        candidate_e)

    pub to_deactivate_lem : elem f (changed (function_total p) fs fs') ≡ is_to_deactivate p cs' fs ME f
    to_deactivate_lem = elem_changed (function_total p) fs fs' f j ∙ differs (deactivated fs f) (deactivated fs' f) stays_deactivated
        ∙ same _ _
        (λ t. to_deactivate_i (and_l (deactivated fs' f) _ t) (not_e (deactivated fs f) (and_r (deactivated fs' f) _ t)))
        (λ u. and_i (deactivated fs' f) _ (to_deactivate_e u).0 (not_i (deactivated fs f) (to_deactivate_e u).1))

    -- algorithm 5, where the marked functions become deactivated and ME are the active cells under them
    module _ (marks : List ℕ) (done : T (elem f marks) → T (deactivated fs' f) × (T (deactivated fs f) → ⊥))
        (means : (c : ℕ) → c < cell_total p → elem c ME ≡ active cs c && under_marked p marks c) where
      abbrev shared : ℕ → Bool
      shared c = supported p f c && under_marked p marks c

      abbrev from_neighbors : Bool
      from_neighbors = is_neighbor p marks f && (active fs f && (not (elem f marks) && not (some (cell_total p) under_active)))

      pub near_is : is_to_deactivate p cs' fs ME f ≡ is_to_deactivate_near p cs' fs marks f
      unfolding is_to_deactivate is_neighbor is_to_deactivate_near
      near_is = same _ _
          (λ t. let (c, i, u) = some_e (cell_total p) under_refined (and_l (some (cell_total p) under_refined) _ t) in
          let v = and_r (some (cell_total p) under_refined) _ t in
          let under = and_r (active cs c) _ (subst T (means c i) (and_r (supported p f c) _ u)) in
          cases (elem f marks) (or_r from_neighbors (elem f marks)) (λ n. or_l from_neighbors (elem f marks)
          (and_i (is_neighbor p marks f) _ (some_i (cell_total p) shared c i (and_i (supported p f c) _ (and_l (supported p f c) _ u) under))
          (and_i (active fs f) _ (and_l (active fs f) _ v) (and_i (not (elem f marks)) _ n (and_r (active fs f) _ v))))))
          (λ t. or_e from_neighbors (elem f marks) t
          (λ u. let v = and_r (is_neighbor p marks f) _ u in
          let a = and_l (active fs f) _ v in
          to_deactivate_i (without_active_cells a (not_e (some (cell_total p) under_active) (and_r (not (elem f marks)) _ (and_r (active fs f) _ v)))) (active_not p cs f j a))
          (λ m. let (d, n) = done m in to_deactivate_i d n))

-- ---- an accepted refinement

module _ (by : By) (p : Plan) (cs fs marks : List ℕ) (G : Good p cs) (fit : (x : ℕ) → T (elem x marks) → Fits refine by p cs fs x) where
  abbrev M : ℕ → Bool
  M = selected refine by p cs fs marks

  abbrev cs₁ : List ℕ
  cs₁ = new_cells refine by p cs fs marks

  refined_is : (c : ℕ) → refined cs₁ c ≡ closure (hierarchy p) (refined cs ∪ M) c
  refined_is c = ap (λ X. X c) (new_refined refine by p cs fs marks G fit)

  added_active : (c : ℕ) → c < cell_total p → T (refined cs₁ c) → (T (refined cs c) → ⊥) → T (active cs c)
  added_active c i r n = subst T (sym (active_is p cs G c i))
      (undo.refine_added (hierarchy p) (lawful p G.range) (refined cs) M G.admissible G.mesh (may refine by p cs fs marks G fit) c i
      (and_i (closure (hierarchy p) (refined cs ∪ M) c) _ (subst T (refined_is c) r) (not_i (refined cs c) n))).0

  listed_is : (c : ℕ) → c < cell_total p → elem c (changed (cell_total p) cs cs₁) ≡ refined cs₁ c && not (refined cs c)
  listed_is c i = elem_changed (cell_total p) cs cs₁ c i ∙ differs (refined cs c) (refined cs₁ c) (refining_keeps by p cs fs marks G fit c i)

  marked_bits : (s m : Bool) → (T m → T s → ⊥) → (s || m) && not s ≡ m
  marked_bits true true h = absurd (h tt tt)
  marked_bits true false h = refl
  marked_bits false true h = refl
  marked_bits false false h = refl

  marked_is : p.class ≡ 0 → (c : ℕ) → c < cell_total p → elem c (changed (cell_total p) cs cs₁) ≡ M c
  marked_is z c i =
      listed_is c i ∙ ap (λ b. b && not (refined cs c)) (refined_is c ∙ closure_is p z cs G (refined cs ∪ M) c i)
      ∙ marked_bits (refined cs c) (M c) (λ m. apart_bytes p cs G c (subst T (sym (active_is p cs G c i)) (may refine by p cs fs marks G fit c i m).0))

-- ---- algorithm 1, lines 7 to 11, in class 0

module _ (p : Plan) (cs fs marks : List ℕ) (G : Good p cs) (labelled : fs ≡ labels p cs) (zero-class : p.class ≡ 0) where
  deactivated_by : (by : By) (fit : (x : ℕ) → T (elem x marks) → Fits refine by p cs fs x) (f : ℕ) → f < function_total p
      → is_to_deactivate p (new_cells refine by p cs fs marks) (labels p cs) (changed (cell_total p) cs (new_cells refine by p cs fs marks)) f
      ≡ is_to_deactivate_by by p (new_cells refine by p cs fs marks) (labels p cs) (changed (cell_total p) cs (new_cells refine by p cs fs marks)) marks f
  unfolding is_to_deactivate_by selected
  deactivated_by cells fit f j = refl
  deactivated_by functions fit f j =
      near_is p cs (new_cells refine functions p cs fs marks) (changed (cell_total p) cs (new_cells refine functions p cs fs marks)) G (new_good refine functions p cs fs marks G fit)
      (refining_keeps functions p cs fs marks G fit) (added_active functions p cs fs marks G fit) (listed_is functions p cs fs marks G fit) f j marks
      (λ m. becomes m fs labelled fit) (marked_is functions p cs fs marks G fit zero-class)
    where
      becomes : T (elem f marks) → (v : List ℕ) → v ≡ labels p cs → ((x : ℕ) → T (elem x marks) → Fits refine functions p cs v x)
          → T (deactivated (labels p (new_cells refine functions p cs v marks)) f) × (T (deactivated (labels p cs) f) → ⊥)
      becomes m v e = rw e (λ fit. let (_, d, n) = marked_done p zero-class cs marks G fit f m in (d, n))

-- ---- the claim

module _ (by : By) (p : Plan) (cs fs marks : List ℕ) (G : Good p cs) (fit : (x : ℕ) → T (elem x marks) → Fits refine by p cs fs x) (labelled : fs ≡ labels p cs) where
  abbrev new : List ℕ
  new = new_cells refine by p cs fs marks

  abbrev ME : List ℕ
  ME = changed (cell_total p) cs new

  module _ (o : Outcome) (ec : o.cells ≡ new) (ef : o.functions ≡ labels p new) (lc : cells_of o ≡ ME) (lf : functions_of o ≡ changed (function_total p) fs (labels p new)) where
    N : Good p new
    N = new_good refine by p cs fs marks G fit

    abbrev keeps : (c : ℕ) → c < cell_total p → T (refined cs c) → T (refined new c)
    keeps = refining_keeps by p cs fs marks G fit

    added : (c : ℕ) → c < cell_total p → T (refined new c) → (T (refined cs c) → ⊥) → T (active cs c)
    added = added_active by p cs fs marks G fit

    is : (c : ℕ) → c < cell_total p → elem c ME ≡ refined new c && not (refined cs c)
    is = listed_is by p cs fs marks G fit

    -- from the labels of the old cells to the old functions, and to what the outcome holds
    held : (test : List ℕ → List ℕ → List ℕ → Bool) → test new (labels p cs) ME ≡ test o.cells fs (cells_of o)
    held test = ap (λ v. test new v ME) (sym labelled) ∙ ap₂ (λ u m. test u fs m) (sym ec) (sym lc)

    listed_4 : (f : ℕ) → f < function_total p → elem f (functions_of o) ≡ is_to_deactivate p new (labels p cs) ME f
    listed_4 f i = ap (elem f) (lf ∙ ap (λ v. changed (function_total p) v (labels p new)) labelled) ∙ to_deactivate_lem p cs new ME G N keeps added is f i

    printed : AsPrinted by p cs fs marks o
    printed = record {
      marked = λ z c i. ap (elem c) lc ∙ marked_is by p cs fs marks G fit z c i;
      active_cells = λ c i. ap (λ u. active u c) ec ∙ active_cell p cs new ME G N keeps added is c i ∙ held (λ u v m. is_active_cell p cs m c);
      deactivated_cells = λ c i. ap (λ u. refined u c) ec ∙ deactivated_cell p cs new ME G N keeps added is c i ∙ held (λ u v m. is_deactivated_cell cs m c);
      to_deactivate_by = λ z f i. listed_4 f i ∙ deactivated_by p cs fs marks G labelled z by fit f i ∙ held (λ u v m. is_to_deactivate_by by p u v m marks f);
      to_deactivate = λ f i. listed_4 f i ∙ held (λ u v m. is_to_deactivate p u v m f);
      active_functions = λ f i. ap (λ u. active u f) ef ∙ active_function_lem p cs new ME G N keeps added is f i ∙ held (λ u v m. is_active_function p u v m f);
      deactivated_functions = λ f i. ap (λ u. deactivated u f) ef ∙ deactivated_function_lem p cs new ME G N keeps added is f i ∙ held (λ u v m. is_deactivated_function p u v m f);
    }

module _ (by : By) (p : Plan) (cs fs marks cl fl : List ℕ) where
  made_printed : (o : Outcome) → Made refine by p cs fs marks cl fl o → o.answer.number ≡ 0 → AsPrinted by p cs fs marks o
  unfolding accepted refused
  made_printed o (refusal_of n e) z = absurd (let k : suc n ≡ 0 = ap (λ o. o.answer.number) (sym e) ∙ z in omega arith)
  made_printed o (accepted_as cs' fs' ec ef r a b e) z =
      let (k, fit) = refusal_e refine by p cs fs marks r in
      let (G, l) = check_good p cs fs k in
      let n : fs' ≡ labels p (new_cells refine by p cs fs marks) = ef ∙ ap (labels p) ec in
      printed by p cs fs marks G fit l o (ap (λ o. o.cells) e ∙ ec) (ap (λ o. o.functions) e ∙ n)
      (ap cells_of e ∙ written_take (changed (cell_total p) cs cs') cl ∙ ap (changed (cell_total p) cs) ec)
      (ap functions_of e ∙ written_take (changed (function_total p) fs fs') fl ∙ ap (changed (function_total p) fs) n)

  pub call_as_printed : (outcome refine by p cs fs marks cl fl).answer.number ≡ 0 → AsPrinted by p cs fs marks (outcome refine by p cs fs marks cl fl)
  call_as_printed = made_printed (outcome refine by p cs fs marks cl fl) (made refine by p cs fs marks cl fl)
