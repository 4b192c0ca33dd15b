-- What the code answers is what the definitions say, case by case. Assumes nothing.
use mathlib.Core.Path.{◌≡◌, refl, sym, ap, ◌∙◌}
use mathlib.Core.Bool.{true, not, ◌&&◌}
use mathlib.Core.List.{List}
use mathlib.Core.Logic.{◌≢◌}
use Prim.Native.Nat.{ℕ, ◌+◌, ◌≤◌, ◌<◌}
use native.Mathlib.Omega.{arith}
use lib.Dec.{eqb, leb, leb→le}
use lib.IntN.{ℤ}
use lib.ListN.{length}
use borrow.Author.Tests.{ne_eqb, lt-ltb, le-ltb}
use Rattle.facts.specs.Numbers.{first}
use Rattle.facts.specs.Writing.{written_at}
use Rattle.facts.proofs.Tests.{and_r, true_T}
use Rattle.grid.specs.declared.Plan.{Plan}
use Rattle.outcomes.specs.Calls.{Direction, refine, By, cells, mark_refusal, Outcome, refused, outcome}
use Rattle.outcomes.specs.Meets.{outcome_of}
use Rattle.refining.specs.Refining.{WithHeights, refused_with, outcome_with_heights}
use Rattle.drafts.specs.declared.Draft.{Draft}
use Rattle.drafts.specs.Drafts.{is_open, no_draft, marks_of, refusal18, refusal19, open_draft, drop_draft, add_refusal, Added, add_marks, ended_by, close_draft, outcome_with_draft, outcome_with_heights_and_draft}
use Rattle.drafts.proofs.Refusals.{passes_19, change_refused, change_taken, carry_refused, carry_taken, close_refused, close_taken, add_taken, add_refused}

pub open_fits : (d : Draft) (dl : List ℕ) → is_open d dl ≡ true → d.marks ≤ length dl
unfolding is_open
open_fits d dl o = leb→le d.marks (length dl) (and_r (not (eqb d.«open» 0)) (leb d.marks (length dl)) (true_T (not (eqb d.«open» 0) && leb d.marks (length dl)) o))

module _ (p : Plan) (cs fs : List ℕ) (d : Draft) (dl : List ℕ) where
  -- where 19 does not refuse, the draft's marks fit its list
  pub marks_fit : refusal19 p cs fs d dl ≡ 0 → d.marks ≤ length dl
  marks_fit e = open_fits d dl (passes_19 p cs fs d dl e).1

  -- ---- opening and dropping

  pub opens_not : {n : ℕ} → n ≡ refusal18 p cs fs d dl → n ≢ 0 → record { number = n; draft = d } ≡ open_draft p cs fs d dl
  unfolding open_draft
  opens_not e z = rw (ne_eqb (refusal18 p cs fs d dl) 0 (λ w. z (e ∙ w)), e) refl

  pub opens : refusal18 p cs fs d dl ≡ 0 → record { number = 0; draft = record { «open» = 1; marks = 0 } } ≡ open_draft p cs fs d dl
  unfolding open_draft
  opens e = rw e refl

  pub drops_not : {n : ℕ} → n ≡ refusal19 p cs fs d dl → n ≢ 0 → record { number = n; draft = d } ≡ drop_draft p cs fs d dl
  unfolding drop_draft
  drops_not e z = rw (ne_eqb (refusal19 p cs fs d dl) 0 (λ w. z (e ∙ w)), e) refl

  pub drops : refusal19 p cs fs d dl ≡ 0 → {d' : Draft} → d' ≡ no_draft → record { number = 0; draft = d' } ≡ drop_draft p cs fs d dl
  unfolding drop_draft
  drops e f = rw (e, f) refl

  -- ---- adding

  module _ (marks : List ℕ) where
    abbrev left_as : ℕ → Added
    left_as n = record { answer = record { number = n; draft = d }; list = dl }

    refused_as : {n : ℕ} → n ≡ add_refusal p cs fs d dl marks → n ≢ 0 → left_as n ≡ add_marks p cs fs d dl marks
    refused_as e z = ap left_as e ∙ sym (add_refused p cs fs d dl marks (λ w. z (e ∙ w)))

    pub adds_19 : {n : ℕ} → n ≡ refusal19 p cs fs d dl → n ≢ 0 → left_as n ≡ add_marks p cs fs d dl marks
    unfolding add_refusal
    adds_19 {n} e z = refused_as (rw (ne_eqb (refusal19 p cs fs d dl) 0 (λ w. z (e ∙ w))) e) z

    module _ (e : refusal19 p cs fs d dl ≡ 0) where
      pub adds_judged : {m : ℕ} → m ≡ first (mark_refusal refine cells p cs fs) marks → m ≢ 0 → left_as m ≡ add_marks p cs fs d dl marks
      unfolding add_refusal
      adds_judged {m} q w = refused_as (rw (e, ne_eqb (first (mark_refusal refine cells p cs fs) marks) 0 (λ v. w (q ∙ v))) q) w

      module _ (q : first (mark_refusal refine cells p cs fs) marks ≡ 0) where
        pub adds_short : length dl < d.marks + length marks → left_as 10 ≡ add_marks p cs fs d dl marks
        unfolding add_refusal
        adds_short l = refused_as (rw (e, q, lt-ltb (length dl) (d.marks + length marks) l) refl) (λ v. absurd (omega arith))

        pub adds : d.marks + length marks ≤ length dl → {dl' : List ℕ} → dl' ≡ written_at dl d.marks marks
            → record { answer = record { number = 0; draft = record { «open» = d.«open»; marks = d.marks + length marks } }; list = dl' } ≡ add_marks p cs fs d dl marks
        unfolding add_refusal
        adds l f =
            ap (λ x. record { answer = record { number = 0; draft = record { «open» = d.«open»; marks = d.marks + length marks } }; list = x }) f
            ∙ sym (add_taken p cs fs d dl marks (rw (e, q, le-ltb (length dl) (d.marks + length marks) l) refl))

-- ---- closing

-- a refused call leaves what it found
abbrev no : ℕ → List ℕ → List ℕ → List ℕ → List ℕ → Outcome
no n cs fs cl fl = outcome_of (record { number = n; cells = 0; functions = 0 }) cs fs cl fl

module _ (p : Plan) (cs fs : List ℕ) (d : Draft) (dl cl fl : List ℕ) where
  pub closes_not : {n : ℕ} → n ≡ refusal19 p cs fs d dl → n ≢ 0 → record { outcome = no n cs fs cl fl; draft = ended_by n d } ≡ close_draft p cs fs d dl cl fl
  unfolding refused
  closes_not {n} q z =
      rw (ne_eqb n 0 z) (ap (λ m. record { outcome = refused m cs fs cl fl; draft = d }) q)
      ∙ sym (close_refused p cs fs d dl cl fl (λ w. z (q ∙ w)))

  pub closes : refusal19 p cs fs d dl ≡ 0 → {o : Outcome} → o ≡ outcome refine cells p cs fs (marks_of d dl) cl fl
      → record { outcome = o; draft = ended_by o.answer.number d } ≡ close_draft p cs fs d dl cl fl
  closes z e = ap (λ (u : Outcome). record { outcome = u; draft = ended_by u.answer.number d }) e ∙ sym (close_taken p cs fs d dl cl fl z)

-- ---- the other calls

module _ (way : Direction) (by : By) (p : Plan) (cs fs : List ℕ) (d : Draft) (dl marks cl fl : List ℕ) where
  pub changes_not : {n : ℕ} → n ≡ refusal18 p cs fs d dl → n ≢ 0 → no n cs fs cl fl ≡ outcome_with_draft way by p cs fs d dl marks cl fl
  unfolding refused
  changes_not q z = ap (λ m. refused m cs fs cl fl) q ∙ sym (change_refused way by p cs fs d dl marks cl fl (λ w. z (q ∙ w)))

  pub changes : {n : ℕ} → n ≡ refusal18 p cs fs d dl → n ≡ 0 → {o : Outcome} → o ≡ outcome way by p cs fs marks cl fl → o ≡ outcome_with_draft way by p cs fs d dl marks cl fl
  changes q z e = e ∙ sym (change_taken way by p cs fs d dl marks cl fl (sym q ∙ z))

module _ (by : By) (p : Plan) (cs fs : List ℕ) (hs : List ℤ) (d : Draft) (dl marks cl fl : List ℕ) where
  pub carries_not : {n : ℕ} → n ≡ refusal18 p cs fs d dl → n ≢ 0 → record { outcome = no n cs fs cl fl; heights = hs } ≡ outcome_with_heights_and_draft by p cs fs hs d dl marks cl fl
  unfolding refused refused_with
  carries_not q z = ap (λ m. refused_with m cs fs hs cl fl) q ∙ sym (carry_refused by p cs fs hs d dl marks cl fl (λ w. z (q ∙ w)))

-- by is the kind of marks that the code found
module _ {by kind : By} (b : by ≡ kind) (p : Plan) (cs fs : List ℕ) (hs : List ℤ) (d : Draft) (dl marks cl fl : List ℕ) where
  pub carries : {n : ℕ} → n ≡ refusal18 p cs fs d dl → n ≡ 0 → {o : WithHeights} → o ≡ outcome_with_heights kind p cs fs hs marks cl fl
      → o ≡ outcome_with_heights_and_draft by p cs fs hs d dl marks cl fl
  carries q z e = e ∙ ap (λ k. outcome_with_heights k p cs fs hs marks cl fl) (sym b) ∙ sym (carry_taken by p cs fs hs d dl marks cl fl (sym q ∙ z))
