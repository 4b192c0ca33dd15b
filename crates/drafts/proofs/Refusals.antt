-- What each call on a draft, and each call with one, leaves, by its refusals. Assumes nothing.
use mathlib.Core.Path.{◌≡◌, refl, sym, ap, ◌∙◌}
use mathlib.Core.Bool.{Bool, true, false, cond}
use mathlib.Core.List.{List}
use mathlib.Core.Logic.{◌≢◌}
use Prim.Native.Nat.{ℕ, suc, pred, ◌+◌, ◌≤◌}
use native.Mathlib.Omega.{arith}
use lib.Dec.{eqb, eqb→eq, ltb, nltb→le}
use lib.IntN.{ℤ}
use lib.ListN.{length}
use borrow.Author.Tests.{ne_eqb}
use Rattle.facts.specs.Numbers.{first}
use Rattle.facts.specs.Writing.{written_at}
use Rattle.facts.proofs.Tests.{cases, differ, not_i}
use Rattle.grid.specs.declared.Plan.{Plan}
use Rattle.mesh.specs.Mesh.{check}
use Rattle.mesh.proofs.Bridge.{chain, stop}
use Rattle.outcomes.specs.Calls.{Direction, refine, By, cells, mark_refusal, Outcome, refused, outcome}
use Rattle.outcomes.proofs.Results.{outcome_check}
use Rattle.refining.specs.Refining.{tables_refusal, refused_with, outcome_with_heights}
use Rattle.refining.proofs.Outcomes.{whole_tables}
use Rattle.drafts.specs.declared.Draft.{Draft}
use Rattle.drafts.specs.Drafts.{is_open, marks_of, refusal18, refusal19, add_refusal, Added, add_marks, ended_by, close_draft, outcome_with_draft, outcome_with_heights_and_draft}

-- ---- 18 and 19

module _ (p : Plan) (cs fs : List ℕ) (d : Draft) (dl : List ℕ) where
  pub check_18 : check p cs fs ≢ 0 → refusal18 p cs fs d dl ≡ check p cs fs
  unfolding refusal18
  check_18 n = rw (ne_eqb (check p cs fs) 0 n)

  pub open_18 : check p cs fs ≡ 0 → is_open d dl ≡ true → refusal18 p cs fs d dl ≡ 18
  unfolding refusal18
  open_18 e o = rw (e, o)

  pub none_18 : check p cs fs ≡ 0 → is_open d dl ≡ false → refusal18 p cs fs d dl ≡ 0
  unfolding refusal18
  none_18 e o = rw (e, o)

  pub check_19 : check p cs fs ≢ 0 → refusal19 p cs fs d dl ≡ check p cs fs
  unfolding refusal19
  check_19 n = rw (ne_eqb (check p cs fs) 0 n)

  pub open_19 : check p cs fs ≡ 0 → is_open d dl ≡ true → refusal19 p cs fs d dl ≡ 0
  unfolding refusal19
  open_19 e o = rw (e, o)

  pub none_19 : check p cs fs ≡ 0 → is_open d dl ≡ false → refusal19 p cs fs d dl ≡ 19
  unfolding refusal19
  none_19 e o = rw (e, o)

  -- where 1 to 6 do not refuse, nor 18, or 19, the tables pass; and in the second case the draft is open
  pub passes_18 : refusal18 p cs fs d dl ≡ 0 → check p cs fs ≡ 0
  unfolding refusal18
  passes_18 e = (chain (check p cs fs) _ e).0

  pub passes_19 : refusal19 p cs fs d dl ≡ 0 → (check p cs fs ≡ 0) × (is_open d dl ≡ true)
  unfolding refusal19
  passes_19 e =
      let (k, o) = chain (check p cs fs) _ e in
      (k, opened (is_open d dl) o)
    where
      opened : (b : Bool) → ◌≡◌ {A = ℕ} (cond b 0 19) 0 → b ≡ true
      opened true e = refl
      opened false e = absurd (omega arith)

-- ---- the other calls

module _ (way : Direction) (by : By) (p : Plan) (cs fs : List ℕ) (d : Draft) (dl marks cl fl : List ℕ) where
  pub change_refused : refusal18 p cs fs d dl ≢ 0 → outcome_with_draft way by p cs fs d dl marks cl fl ≡ refused (refusal18 p cs fs d dl) cs fs cl fl
  unfolding outcome_with_draft
  change_refused n = rw (ne_eqb (refusal18 p cs fs d dl) 0 n)

  pub change_taken : refusal18 p cs fs d dl ≡ 0 → outcome_with_draft way by p cs fs d dl marks cl fl ≡ outcome way by p cs fs marks cl fl
  unfolding outcome_with_draft
  change_taken e = rw e

  pub change_not_open : is_open d dl ≡ false → outcome_with_draft way by p cs fs d dl marks cl fl ≡ outcome way by p cs fs marks cl fl
  change_not_open o = cases (eqb (check p cs fs) 0)
      (λ z. change_taken (none_18 p cs fs d dl (eqb→eq _ _ z) o))
      (λ z. let n = differ (check p cs fs) 0 z in
      let e = check_18 p cs fs d dl n in
      change_refused (λ w. n (sym e ∙ w)) ∙ ap (λ m. refused m cs fs cl fl) e ∙ sym (outcome_check way by p cs fs marks cl fl n))

  pub change_open : check p cs fs ≡ 0 → is_open d dl ≡ true → outcome_with_draft way by p cs fs d dl marks cl fl ≡ refused 18 cs fs cl fl
  change_open k o =
      let e = open_18 p cs fs d dl k o in
      change_refused (λ w. let z : 18 ≡ 0 = sym e ∙ w in absurd (omega arith)) ∙ ap (λ m. refused m cs fs cl fl) e

module _ (by : By) (p : Plan) (cs fs : List ℕ) (hs : List ℤ) (d : Draft) (dl marks cl fl : List ℕ) where
  pub carry_refused : refusal18 p cs fs d dl ≢ 0 → outcome_with_heights_and_draft by p cs fs hs d dl marks cl fl ≡ refused_with (refusal18 p cs fs d dl) cs fs hs cl fl
  unfolding outcome_with_heights_and_draft
  carry_refused n = rw (ne_eqb (refusal18 p cs fs d dl) 0 n)

  pub carry_taken : refusal18 p cs fs d dl ≡ 0 → outcome_with_heights_and_draft by p cs fs hs d dl marks cl fl ≡ outcome_with_heights by p cs fs hs marks cl fl
  unfolding outcome_with_heights_and_draft
  carry_taken e = rw e

  -- 1 to 6 come first with heights too
  tables_first : check p cs fs ≢ 0 → tables_refusal p cs fs hs ≡ check p cs fs
  unfolding tables_refusal
  tables_first n = rw (ne_eqb (check p cs fs) 0 n)

  pub carry_not_open : is_open d dl ≡ false → outcome_with_heights_and_draft by p cs fs hs d dl marks cl fl ≡ outcome_with_heights by p cs fs hs marks cl fl
  carry_not_open o = cases (eqb (check p cs fs) 0)
      (λ z. carry_taken (none_18 p cs fs d dl (eqb→eq _ _ z) o))
      (λ z. let n = differ (check p cs fs) 0 z in
      let e = check_18 p cs fs d dl n in
      let t = tables_first n in
      carry_refused (λ w. n (sym e ∙ w)) ∙ ap (λ m. refused_with m cs fs hs cl fl) (e ∙ sym t) ∙ sym (whole_tables by p cs fs hs marks cl fl (λ w. n (sym t ∙ w))))

  pub carry_open : check p cs fs ≡ 0 → is_open d dl ≡ true → outcome_with_heights_and_draft by p cs fs hs d dl marks cl fl ≡ refused_with 18 cs fs hs cl fl
  carry_open k o =
      let e = open_18 p cs fs d dl k o in
      carry_refused (λ w. let z : 18 ≡ 0 = sym e ∙ w in absurd (omega arith)) ∙ ap (λ m. refused_with m cs fs hs cl fl) e

-- ---- closing

module _ (p : Plan) (cs fs : List ℕ) (d : Draft) (dl cl fl : List ℕ) where
  abbrev one : Outcome
  one = outcome refine cells p cs fs (marks_of d dl) cl fl

  pub close_refused : refusal19 p cs fs d dl ≢ 0 → close_draft p cs fs d dl cl fl ≡ record { outcome = refused (refusal19 p cs fs d dl) cs fs cl fl; draft = d }
  unfolding close_draft
  close_refused n = rw (ne_eqb (refusal19 p cs fs d dl) 0 n)

  pub close_taken : refusal19 p cs fs d dl ≡ 0 → close_draft p cs fs d dl cl fl ≡ record { outcome = one; draft = ended_by one.answer.number d }
  unfolding close_draft
  close_taken e = rw e

-- ---- adding

module _ (p : Plan) (cs fs : List ℕ) (d : Draft) (dl marks : List ℕ) where
  abbrev more : Draft
  more = record { «open» = d.«open»; marks = d.marks + length marks }

  pub data AddCase (o : Added) : Type 0 where
    taken : d.marks + length marks ≤ length dl → is_open d dl ≡ true → first (mark_refusal refine cells p cs fs) marks ≡ 0 → o ≡ record { answer = record { number = 0; draft = more }; list = written_at dl d.marks marks } → AddCase o
    left_out : (n : ℕ) → o ≡ record { answer = record { number = suc n; draft = d }; list = dl } → AddCase o

  pub add_taken : add_refusal p cs fs d dl marks ≡ 0 → add_marks p cs fs d dl marks ≡ record { answer = record { number = 0; draft = more }; list = written_at dl d.marks marks }
  unfolding add_marks
  add_taken e = rw e

  pub add_refused : add_refusal p cs fs d dl marks ≢ 0 → add_marks p cs fs d dl marks ≡ record { answer = record { number = add_refusal p cs fs d dl marks; draft = d }; list = dl }
  unfolding add_marks
  add_refused n = rw (ne_eqb (add_refusal p cs fs d dl marks) 0 n)

  pub add_none : add_refusal p cs fs d dl marks ≡ 0 → (refusal19 p cs fs d dl ≡ 0) × (first (mark_refusal refine cells p cs fs) marks ≡ 0) × (d.marks + length marks ≤ length dl)
  unfolding add_refusal
  add_none e =
      let (a, r) = chain (refusal19 p cs fs d dl) _ e in
      let (b, s) = chain (first (mark_refusal refine cells p cs fs) marks) _ r in
      let (n, _) = stop (ltb (length dl) (d.marks + length marks)) 9 0 s in
      (a, b, nltb→le (length dl) (d.marks + length marks) (not_i (ltb (length dl) (d.marks + length marks)) n))

  pub add_case : AddCase (add_marks p cs fs d dl marks)
  add_case = cases (eqb (add_refusal p cs fs d dl marks) 0)
      (λ z. let e = eqb→eq (add_refusal p cs fs d dl marks) 0 z in
      let (a, m, l) = add_none e in
      taken l (passes_19 p cs fs d dl a).1 m (add_taken e))
      (λ z. let n : add_refusal p cs fs d dl marks ≢ 0 = differ _ _ z in
      let k : add_refusal p cs fs d dl marks ≡ suc (pred (add_refusal p cs fs d dl marks)) = omega arith in
      left_out (pred (add_refusal p cs fs d dl marks)) (add_refused n ∙ ap (λ m. record { answer = record { number = m; draft = d }; list = dl }) k))
