-- What a call with heights leaves, by its refusals. Assumes nothing.
use mathlib.Core.Path.{◌≡◌, refl, sym, ap, ◌∙◌}
use mathlib.Core.Bool.{Bool, true, false}
use mathlib.Core.Logic.{◌≢◌}
use mathlib.Core.List.{List}
use Prim.Native.Nat.{ℕ}
use lib.Dec.{eqb, eqb→eq, ltb}
use lib.IntN.{ℤ}
use lib.ListN.{length}
use borrow.Author.Tests.{ne_eqb}
use Rattle.facts.proofs.Tests.{cases, not_e, differ, T_true, T_false}
use Rattle.grid.specs.declared.Plan.{Plan}
use Rattle.grid.specs.Plan.{cell_total, function_total}
use Rattle.mesh.specs.Mesh.{labels, check}
use Rattle.mesh.proofs.Bridge.{chain}
use Rattle.outcomes.specs.Calls.{By, refine, changed, new_cells, refusal, refused, settle, Outcome, outcome}
use Rattle.outcomes.specs.Steps.{room_refusal}
use Rattle.outcomes.proofs.Results.{outcome_settled, outcome_refused}
use Rattle.heights.specs.Heights.{all_low, heights_refusal}
use Rattle.carry.specs.Carry.{carry}
use Rattle.refining.specs.Refining.{WithHeights, tables_refusal, refused_with, carry_into, outcome_with_heights}
use Rattle.refining.specs.Steps.{make_refusal}

-- ---- 1 to 6, then those of the heights

module _ (p : Plan) (cs fs : List ℕ) (hs : List ℤ) where
  pub tables_check : {n : ℕ} → n ≡ check p cs fs → n ≢ 0 → n ≡ tables_refusal p cs fs hs
  unfolding tables_refusal
  tables_check e z = rw (ne_eqb (check p cs fs) 0 (λ w. z (e ∙ w)), e)

  pub tables_heights : check p cs fs ≡ 0 → {n : ℕ} → n ≡ heights_refusal p fs hs → n ≡ tables_refusal p cs fs hs
  unfolding tables_refusal
  tables_heights z e = rw (z, e)

  pub tables_none : tables_refusal p cs fs hs ≡ 0 → (check p cs fs ≡ 0) × (heights_refusal p fs hs ≡ 0)
  unfolding tables_refusal
  tables_none = chain (check p cs fs) (heights_refusal p fs hs)

-- ---- 7 to 11

module _ (p : Plan) (cs fs cl fl cs' : List ℕ) where
  abbrev room : ℕ
  room = room_refusal p cs fs (length cl) (length fl) cs'

  abbrev ten : Bool
  ten = ltb (length cl) (length (changed (cell_total p) cs cs'))

  abbrev eleven : Bool
  eleven = ltb (length fl) (length (changed (function_total p) fs (labels p cs')))

  settle_refused : room ≢ 0 → settle p cs fs cl fl cs' (labels p cs') ≡ refused room cs fs cl fl
  unfolding settle room_refusal
  settle_refused n = cases ten
      (λ a. rw (T_true ten a) refl)
      (λ a. cases eleven
      (λ b. rw (T_false ten (not_e ten a), T_true eleven b) refl)
      (λ b. absurd (n (rw (T_false ten (not_e ten a), T_false eleven (not_e eleven b)) refl))))

module _ (by : By) (p : Plan) (cs fs marks : List ℕ) (cell_room function_room : ℕ) where
  pub make_room : refusal refine by p cs fs marks ≡ 0 → make_refusal by p cs fs marks cell_room function_room ≡ room_refusal p cs fs cell_room function_room (new_cells refine by p cs fs marks)
  unfolding make_refusal
  make_room e = rw e

  pub make_mark : refusal refine by p cs fs marks ≢ 0 → make_refusal by p cs fs marks cell_room function_room ≡ refusal refine by p cs fs marks
  unfolding make_refusal
  make_mark n = rw (ne_eqb (refusal refine by p cs fs marks) 0 n)

  pub make_none : make_refusal by p cs fs marks cell_room function_room ≡ 0
      → (refusal refine by p cs fs marks ≡ 0) × (room_refusal p cs fs cell_room function_room (new_cells refine by p cs fs marks) ≡ 0)
  unfolding make_refusal
  make_none = chain (refusal refine by p cs fs marks) _

-- ---- the call

module _ (by : By) (p : Plan) (cs fs : List ℕ) (hs : List ℤ) (marks cl fl : List ℕ) where
  abbrev without : Outcome
  without = outcome refine by p cs fs marks cl fl

  abbrev made : ℕ
  made = make_refusal by p cs fs marks (length cl) (length fl)

  abbrev whole : WithHeights
  whole = outcome_with_heights by p cs fs hs marks cl fl

  pub without_refused : made ≢ 0 → without ≡ refused made cs fs cl fl
  without_refused n = cases (eqb (refusal refine by p cs fs marks) 0)
      (λ z. let e : refusal refine by p cs fs marks ≡ 0 = eqb→eq _ _ z in
      let m = make_room by p cs fs marks (length cl) (length fl) e in
      outcome_settled refine by p cs fs marks cl fl e ∙ settle_refused p cs fs cl fl (new_cells refine by p cs fs marks) (λ w. n (m ∙ w)) ∙ ap (λ m. refused m cs fs cl fl) (sym m))
      (λ z. let k : refusal refine by p cs fs marks ≢ 0 = differ _ _ z in
      outcome_refused refine by p cs fs marks cl fl k ∙ ap (λ m. refused m cs fs cl fl) (sym (make_mark by p cs fs marks (length cl) (length fl) k)))

  pub whole_tables : tables_refusal p cs fs hs ≢ 0 → whole ≡ refused_with (tables_refusal p cs fs hs) cs fs hs cl fl
  unfolding outcome_with_heights
  whole_tables n = rw (ne_eqb (tables_refusal p cs fs hs) 0 n) refl

  pub whole_refused : tables_refusal p cs fs hs ≡ 0 → without.answer.number ≢ 0 → whole ≡ record { outcome = without; heights = hs }
  unfolding outcome_with_heights
  whole_refused e n = rw (e, ne_eqb without.answer.number 0 n) refl

  pub whole_carried : tables_refusal p cs fs hs ≡ 0 → without.answer.number ≡ 0 → whole ≡ carry_into p cs fs hs cl fl without
  unfolding outcome_with_heights
  whole_carried e z = rw (e, z) refl

-- 17, or the new heights
module _ (p : Plan) (cs fs : List ℕ) (hs : List ℤ) (cl fl : List ℕ) (o : Outcome) where
  abbrev hs' : List ℤ
  hs' = carry p fs o.functions hs

  pub carry_high : all_low p o.functions hs' ≡ false → carry_into p cs fs hs cl fl o ≡ refused_with 17 cs fs hs cl fl
  unfolding carry_into
  carry_high e = rw e refl

  pub carry_low : all_low p o.functions hs' ≡ true → carry_into p cs fs hs cl fl o ≡ record { outcome = o; heights = hs' }
  unfolding carry_into
  carry_low e = rw e refl
