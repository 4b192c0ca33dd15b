-- What each call makes of its input: demand 2 of one call, and the laws that the undo of a run rests on. Assumes nothing.
use mathlib.Core.Path.{◌≡◌, refl, sym, ap, ◌∙◌, subst}
use mathlib.Core.Bool.{Bool, true, false, not, ◌&&◌, beq}
use mathlib.Core.Logic.{◌≢◌}
use mathlib.Core.List.{List}
use Prim.Native.Nat.{ℕ, suc, pred, ◌≤◌, ◌<◌}
use native.Mathlib.Omega.{arith}
use lib.Dec.{T, eqb, eqb→eq, ltb, ltb→lt, nltb→le}
use borrow.Author.Tests.{le-ltb, lt-ltb}
use lib.ListN.{length, take, drop, length-append, length-drop}
use lib.Seq.{take-append_seam, drop-append_seam}
use Rattle.facts.specs.Numbers.{elem, first}
use Rattle.facts.proofs.Tests.{and_i, and_l, and_r, not_e, cases, T_true, T_false, eqb_of, differ}
use Rattle.facts.proofs.Numbers.{listed→, →listed, listed_rising}
use Rattle.hierarchy.specs.Hierarchy.{Cells, closure}
use Rattle.hierarchy.proofs.Sets.{Inside}
use Rattle.hierarchy.proofs.Closure.{closure_in, closure_admissible, closure_least}
use Rattle.hierarchy.proofs.Undo.{refine_keeps}
use Rattle.grid.specs.declared.Plan.{Plan}
use Rattle.grid.specs.Plan.{cell_total, function_total, hierarchy}
use Rattle.grid.proofs.Laws.{lawful}
use Rattle.mesh.specs.Mesh.{refined, deactivated, table_of, labels, check}
use Rattle.mesh.proofs.Bridge.{Good, check_good, good_check, good_table, refined_table_of, admissible_of, is_mesh_lem, is_admissible_lem, deactivated_grow}
use Rattle.outcomes.specs.Calls.{Direction, refine, coarsen, By, mark_refusal, selected, base, smallest, changed, written, Outcome, refused, settle, new_cells, refusal, outcome}
use Rattle.outcomes.specs.Demands.{Smallest, turned, Exact, Accepted, Refused}
use Rattle.outcomes.proofs.Sets.{put, difference, differs, beq_sym, May, result_mesh, difference_is, put_has}
use Rattle.outcomes.proofs.Marks.{Fits, refusal_check, refusal_mark, refusal_e, selected_may, smallest_is}

-- ---- the new cells

pub base_is : (d : Direction) (cs : List ℕ) (M : Cells) → base d cs M ≡ put d (refined cs) M
unfolding base
base_is refine cs M = refl
base_is coarsen cs M = refl

module _ (d : Direction) (by : By) (p : Plan) (cs fs marks : List ℕ) (G : Good p cs) (fit : (x : ℕ) → T (elem x marks) → Fits d by p cs fs x) where
  abbrev S : Cells
  S = refined cs

  abbrev M : Cells
  M = selected d by p cs fs marks

  -- the refined cells afterwards
  abbrev R : Cells
  R = closure (hierarchy p) (put d S M)

  pub may : (c : ℕ) → c < cell_total p → T (M c) → May d (hierarchy p) S c
  may = selected_may p cs fs marks G d by fit

  pub new_is : new_cells d by p cs fs marks ≡ table_of p R
  unfolding new_cells
  new_is = ap (smallest p) (base_is d cs M) ∙ smallest_is p G.range (put d S M)

  inside : Inside (hierarchy p) R
  inside = closure_in (hierarchy p) (lawful p G.range) (put d S M)

  pub new_good : Good p (new_cells d by p cs fs marks)
  new_good = rw new_is (good_table p G.range R inside G.small (result_mesh (hierarchy p) (lawful p G.range) S M G.admissible G.mesh d may)
      (closure_admissible (hierarchy p) (lawful p G.range) (put d S M)))

  pub new_refined : refined (new_cells d by p cs fs marks) ≡ R
  new_refined = ap refined new_is ∙ refined_table_of p G.range R inside

  -- a cell that differs is one that was added, or taken
  pub new_difference : (c : ℕ) → c < cell_total p → not (beq (refined cs c) (refined (new_cells d by p cs fs marks) c)) ≡ difference d S R c
  new_difference c i = ap (λ X. not (beq (S c) (X c))) new_refined
      ∙ difference_is (hierarchy p) (lawful p G.range) S M G.admissible G.mesh d may c i

-- refining keeps what was refined
pub refining_keeps : (by : By) (p : Plan) (cs fs marks : List ℕ) (G : Good p cs) (fit : (x : ℕ) → T (elem x marks) → Fits refine by p cs fs x)
    → (c : ℕ) → c < cell_total p → T (refined cs c) → T (refined (new_cells refine by p cs fs marks) c)
refining_keeps by p cs fs marks G fit c i r =
    subst (λ X. T (X c)) (sym (new_refined refine by p cs fs marks G fit))
    (refine_keeps (hierarchy p) (lawful p G.range) (refined cs) (selected refine by p cs fs marks) G.admissible G.mesh (may refine by p cs fs marks G fit) c i r)

-- ---- smallest

module _ (d : Direction) (by : By) (p : Plan) (cs fs marks : List ℕ) (G : Good p cs) (fit : (x : ℕ) → T (elem x marks) → Fits d by p cs fs x) where
  abbrev new : List ℕ
  new = new_cells d by p cs fs marks

  abbrev D : Cells
  D = put d (refined cs) (selected d by p cs fs marks)

  pub new_smallest : Smallest d p cs (selected d by p cs fs marks) new
  new_smallest =
      let N = new_good d by p cs fs marks G fit in
      let L = lawful p G.range in
      let e = base_is d cs (selected d by p cs fs marks) in
      let r = new_refined d by p cs fs marks G fit in
      record {
        one = record {
          sized = N.sized;
          mesh = is_mesh_lem p new N;
          admissible = is_admissible_lem p new N;
          has = λ c i t. subst (λ X. T (X c)) (sym r) (put_has (hierarchy p) L (refined cs) (selected d by p cs fs marks) G.admissible G.mesh d c i (subst (λ X. T (X c)) e t));
        };
        least = λ v h c i t. closure_least (hierarchy p) L D (refined v) (admissible_of p G.range v h.admissible)
            (λ x j u. h.has x j (subst (λ X. T (X x)) (sym e) u)) c (subst (λ X. T (X c)) r t);
      }

-- ---- lists

none_lost→ : (s r : Bool) → (T (s && not r) → ⊥) → T s → T r
none_lost→ s r h t = cases r (λ u. u) (λ n. absurd (h (and_i s (not r) t n)))

none_lost : (s r : Bool) → not (beq s r) ≡ r && not s → T (s && not r) → ⊥
none_lost true true e t = t
none_lost true false e t = subst T e tt
none_lost false r e t = t

-- where nothing turned the other way, what differs is what turned; and back
turned_is : (d : Direction) (o w : List ℕ) (x : ℕ) → (T (turned d w o x) → ⊥) → not (beq (refined o x) (refined w x)) ≡ turned d o w x
turned_is refine o w x h = differs (refined o x) (refined w x) (none_lost→ (refined o x) (refined w x) h)
turned_is coarsen o w x h = ap not (beq_sym (refined o x) (refined w x)) ∙ differs (refined w x) (refined o x) (none_lost→ (refined w x) (refined o x) h)

one_way : (d : Direction) (o w : List ℕ) (x : ℕ) → not (beq (refined o x) (refined w x)) ≡ turned d o w x → T (turned d w o x) → ⊥
one_way refine o w x e = none_lost (refined o x) (refined w x) e
one_way coarsen o w x e = none_lost (refined w x) (refined o x) (ap not (beq_sym (refined w x) (refined o x)) ∙ e)

exact : (d : Direction) (n : ℕ) (o w : List ℕ) → ((x : ℕ) → x < n → T (turned d w o x) → ⊥) → Exact d n o w (changed n o w)
unfolding changed
exact d n o w h = record {
  rises = listed_rising n _;
  only = λ x t. let (i, u) = listed→ n (λ x. not (beq (refined o x) (refined w x))) x t in (i, subst T (turned_is d o w x (h x i)) u);
  all = λ x i t. →listed n (λ x. not (beq (refined o x) (refined w x))) x i (subst T (sym (turned_is d o w x (h x i))) t);
  none = h;
}

grows : (d : Direction) (p : Plan) (o w : List ℕ) → ((c : ℕ) → c < cell_total p → T (turned d w o c) → ⊥) → (f : ℕ) → f < function_total p
    → T (turned d (labels p w) (labels p o) f) → ⊥
grows refine p o w h f i t =
    not_e (deactivated (labels p w) f) (and_r (deactivated (labels p o) f) _ t)
    (deactivated_grow p o w (λ c j. none_lost→ (refined o c) (refined w c) (h c j)) f i (and_l (deactivated (labels p o) f) _ t))
grows coarsen p o w h f i t =
    not_e (deactivated (labels p o) f) (and_r (deactivated (labels p w) f) _ t)
    (deactivated_grow p w o (λ c j. none_lost→ (refined w c) (refined o c) (h c j)) f i (and_l (deactivated (labels p w) f) _ t))

-- ---- the outcome of an accepted call

unfoldable pub accepted : Plan → List ℕ → List ℕ → List ℕ → List ℕ → List ℕ → List ℕ → Outcome
accepted p cs fs cl fl cs' fs' =
    let dc = changed (cell_total p) cs cs' in
    let df = changed (function_total p) fs fs' in
    record {
      answer = record { number = 0; cells = length dc; functions = length df };
      cells = cs';
      functions = fs';
      cell_list = written dc cl;
      function_list = written df fl;
    }

-- a call is refused, or accepted with room for the changes
pub data Made (d : Direction) (by : By) (p : Plan) (cs fs marks cl fl : List ℕ) (o : Outcome) : Type 0 where
  refusal_of : (n : ℕ) → o ≡ refused (suc n) cs fs cl fl → Made d by p cs fs marks cl fl o
  accepted_as : (cs' fs' : List ℕ) → cs' ≡ new_cells d by p cs fs marks → fs' ≡ labels p cs' → refusal d by p cs fs marks ≡ 0
      → length (changed (cell_total p) cs cs') ≤ length cl → length (changed (function_total p) fs fs') ≤ length fl
      → o ≡ accepted p cs fs cl fl cs' fs' → Made d by p cs fs marks cl fl o

module _ (p : Plan) (cs fs cl fl cs' fs' : List ℕ) where
  abbrev dc : ℕ
  dc = length (changed (cell_total p) cs cs')

  abbrev df : ℕ
  df = length (changed (function_total p) fs fs')

  -- 10, 11, or room for both
  pub settle_room : dc ≤ length cl → df ≤ length fl → settle p cs fs cl fl cs' fs' ≡ accepted p cs fs cl fl cs' fs'
  unfolding settle accepted
  settle_room a b = rw (le-ltb (length cl) dc a, le-ltb (length fl) df b) refl

  pub settle_10 : length cl < dc → settle p cs fs cl fl cs' fs' ≡ refused 10 cs fs cl fl
  unfolding settle
  settle_10 a = rw (lt-ltb (length cl) dc a) refl

  pub settle_11 : dc ≤ length cl → length fl < df → settle p cs fs cl fl cs' fs' ≡ refused 11 cs fs cl fl
  unfolding settle
  settle_11 a b = rw (le-ltb (length cl) dc a, lt-ltb (length fl) df b) refl

module _ (d : Direction) (by : By) (p : Plan) (cs fs marks cl fl : List ℕ) where
  abbrev cs₁ : List ℕ
  cs₁ = new_cells d by p cs fs marks

  abbrev fs₁ : List ℕ
  fs₁ = labels p cs₁

  pub outcome_settled : refusal d by p cs fs marks ≡ 0 → outcome d by p cs fs marks cl fl ≡ settle p cs fs cl fl cs₁ fs₁
  unfolding outcome
  outcome_settled e = rw (T_true (eqb (refusal d by p cs fs marks) 0) (eqb_of _ _ e)) refl

  pub outcome_accepted : refusal d by p cs fs marks ≡ 0 → length (changed (cell_total p) cs cs₁) ≤ length cl → length (changed (function_total p) fs fs₁) ≤ length fl
      → outcome d by p cs fs marks cl fl ≡ accepted p cs fs cl fl cs₁ fs₁
  outcome_accepted e a b = outcome_settled e ∙ settle_room p cs fs cl fl cs₁ fs₁ a b

  pub outcome_refused : refusal d by p cs fs marks ≢ 0 → outcome d by p cs fs marks cl fl ≡ refused (refusal d by p cs fs marks) cs fs cl fl
  unfolding outcome
  outcome_refused n = rw (T_false (eqb (refusal d by p cs fs marks) 0) (λ t. n (eqb→eq _ _ t))) refl

  -- the first refusal gives the number
  pub outcome_check : check p cs fs ≢ 0 → outcome d by p cs fs marks cl fl ≡ refused (check p cs fs) cs fs cl fl
  outcome_check n = outcome_refused (λ z. n (sym e ∙ z)) ∙ ap (λ m. refused m cs fs cl fl) e
    where
      e : refusal d by p cs fs marks ≡ check p cs fs
      e = refusal_check d by p cs fs marks n

  pub outcome_mark : check p cs fs ≡ 0 → first (mark_refusal d by p cs fs) marks ≢ 0
      → outcome d by p cs fs marks cl fl ≡ refused (first (mark_refusal d by p cs fs) marks) cs fs cl fl
  outcome_mark k n = outcome_refused (λ z. n (sym e ∙ z)) ∙ ap (λ m. refused m cs fs cl fl) e
    where
      e : refusal d by p cs fs marks ≡ first (mark_refusal d by p cs fs) marks
      e = refusal_mark d by p cs fs marks k

  pub made : Made d by p cs fs marks cl fl (outcome d by p cs fs marks cl fl)
  made = cases (eqb (refusal d by p cs fs marks) 0)
      (λ z. let e : refusal d by p cs fs marks ≡ 0 = eqb→eq _ _ z in
      cases (ltb (length cl) (length (changed (cell_total p) cs cs₁)))
      (λ t. refusal_of 9 (outcome_settled e ∙ settle_10 p cs fs cl fl cs₁ fs₁ (ltb→lt _ _ t)))
      (λ t. cases (ltb (length fl) (length (changed (function_total p) fs fs₁)))
      (λ u. refusal_of 10 (outcome_settled e ∙ settle_11 p cs fs cl fl cs₁ fs₁ (nltb→le _ _ t) (ltb→lt _ _ u)))
      (λ u. accepted_as cs₁ fs₁ refl refl e (nltb→le _ _ t) (nltb→le _ _ u) (outcome_accepted e (nltb→le _ _ t) (nltb→le _ _ u)))))
      (λ z. let n : refusal d by p cs fs marks ≢ 0 = differ _ _ z in
      let k : suc (pred (refusal d by p cs fs marks)) ≡ refusal d by p cs fs marks = omega arith in
      refusal_of (pred (refusal d by p cs fs marks)) (outcome_refused n ∙ ap (λ m. refused m cs fs cl fl) (sym k)))

-- ---- written lists

pub written_take : (changes list : List ℕ) → take (length changes) (written changes list) ≡ changes
unfolding written
written_take changes list = take-append_seam changes (drop (length changes) list)

written_drop : (changes list : List ℕ) → drop (length changes) (written changes list) ≡ drop (length changes) list
unfolding written
written_drop changes list = drop-append_seam changes (drop (length changes) list)

written_length : (changes list : List ℕ) → length changes ≤ length list → length (written changes list) ≡ length list
unfolding written
written_length changes list h = omega (arith, length-append changes (drop (length changes) list), length-drop (length changes) list)

-- ---- demand 2, and what a refusal keeps

difference_turned : (d : Direction) (o w : List ℕ) (x : ℕ) → difference d (refined o) (refined w) x ≡ turned d o w x
difference_turned refine o w x = refl
difference_turned coarsen o w x = refl

module _ (d : Direction) (by : By) (p : Plan) (cs fs marks cl fl : List ℕ) where
  -- the cells turn one way only
  pub cells_one_way : (G : Good p cs) (fit : (x : ℕ) → T (elem x marks) → Fits d by p cs fs x) → (c : ℕ) → c < cell_total p
      → T (turned d (new_cells d by p cs fs marks) cs c) → ⊥
  cells_one_way G fit c i = one_way d cs (new_cells d by p cs fs marks) c
      (new_difference d by p cs fs marks G fit c i
      ∙ ap (λ X. difference d (refined cs) X c) (sym (new_refined d by p cs fs marks G fit))
      ∙ difference_turned d cs (new_cells d by p cs fs marks) c)

  number_refused : (n : ℕ) → (refused n cs fs cl fl).answer.number ≡ n
  unfolding refused
  number_refused n = refl

  claims : (o : Outcome) → Made d by p cs fs marks cl fl o → o.answer.number ≡ 0 → Accepted d by p cs fs marks cl fl o
  unfolding accepted
  claims o (refusal_of n e) z = absurd (let k : suc n ≡ 0 = sym (number_refused (suc n)) ∙ ap (λ o. o.answer.number) (sym e) ∙ z in omega arith)
  claims o (accepted_as cs' fs' ec ef r a b e) z =
      let (k, fit) = refusal_e d by p cs fs marks r in
      let (G, l) = check_good p cs fs k in
      let w : (c : ℕ) → c < cell_total p → T (turned d cs' cs c) → ⊥ = λ c i t. cells_one_way G fit c i (subst (λ u. T (turned d u cs c)) ec t) in
      let N : Good p cs' = subst (Good p) (sym ec) (new_good d by p cs fs marks G fit) in
      rw e (record {
        smallest = rw ec (new_smallest d by p cs fs marks G fit);
        checked = rw ef (good_check p cs' N);
        cell_list = rw (written_take (changed (cell_total p) cs cs') cl) (exact d (cell_total p) cs cs' w);
        function_list = rw (written_take (changed (function_total p) fs fs') fl) (exact d (function_total p) fs fs' (rw (l, ef) (grows d p cs cs' w)));
        cell_tail = written_drop (changed (cell_total p) cs cs') cl;
        function_tail = written_drop (changed (function_total p) fs fs') fl;
        cell_room = written_length (changed (cell_total p) cs cs') cl a;
        function_room = written_length (changed (function_total p) fs fs') fl b;
      })

  keeps : (o : Outcome) → Made d by p cs fs marks cl fl o → o.answer.number ≢ 0 → Refused cs fs cl fl o
  unfolding accepted refused
  keeps o (refusal_of n e) z = rw e (record { cells = refl; functions = refl; cell_list = refl; function_list = refl; no_cells = refl; no_functions = refl })
  keeps o (accepted_as cs' fs' ec ef r a b e) z = absurd (z (ap (λ o. o.answer.number) e))

  -- Every accepted call: the smallest admissible mesh with the old and the selected cells, or the old without them; labels and
  -- lists as fixed; check passes. Every refused call: nothing written
  pub call_accepted : (outcome d by p cs fs marks cl fl).answer.number ≡ 0 → Accepted d by p cs fs marks cl fl (outcome d by p cs fs marks cl fl)
  call_accepted = claims (outcome d by p cs fs marks cl fl) (made d by p cs fs marks cl fl)

  pub call_refused : (outcome d by p cs fs marks cl fl).answer.number ≢ 0 → Refused cs fs cl fl (outcome d by p cs fs marks cl fl)
  call_refused = keeps (outcome d by p cs fs marks cl fl) (made d by p cs fs marks cl fl)
