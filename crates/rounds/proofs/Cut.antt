-- What an accepted call wrote, cut by the lengths, are the rounds. Assumes nothing.
use mathlib.Core.Path.{◌≡◌, refl, ap, ap₂, ◌∙◌, subst}
use mathlib.Core.Bool.{Bool, true, false, not, ◌||◌, cond}
use mathlib.Core.List.{List, [], ◌∷◌, map, flatten}
use mathlib.Core.Logic.{◌≢◌}
use Prim.Native.Nat.{ℕ}
use native.Mathlib.Omega.{arith}
use lib.Dec.{T, eqb, ltb}
use lib.ListN.{length, take, length-map}
use lib.Seq.{take-append_seam, drop-append_seam}
use Rattle.facts.proofs.Tests.{differ}
use Rattle.grid.specs.declared.Plan.{Plan}
use Rattle.outcomes.specs.Calls.{written}
use Rattle.outcomes.proofs.Results.{written_take}
use Rattle.rounds.specs.Rounds.{rounds, refusal, RoundsOutcome, refused, filled, find_rounds}
use Rattle.rounds.specs.Demands.{cut_by, today}

cut_all : (all : List (List ℕ)) → cut_by (map length all) (flatten all) ≡ all
unfolding cut_by flatten
cut_all [] = refl
cut_all (m ∷ ms) = ap₂ ◌∷◌ (take-append_seam m (flatten ms)) (ap (cut_by (map length ms)) (drop-append_seam m (flatten ms)) ∙ cut_all ms)

-- the lengths that are read are those of the rounds
lengths_read : (all : List (List ℕ)) (ll : List ℕ) → take (length all) (written (map length all) ll) ≡ map length all
lengths_read all ll = subst (λ n. take n (written (map length all) ll) ≡ map length all) (length-map all length) (written_take (map length all) ll)

abbrev CutInto : List (List ℕ) → RoundsOutcome → Type 0
CutInto all o = o.answer.number ≡ 0 → cut_by (take o.answer.rounds o.lengths) (take o.answer.marks o.marks) ≡ all

-- a refusal is not 0
module _ (all : List (List ℕ)) (ml ll : List ℕ) where
  refused_cut : (n : ℕ) → n ≢ 0 → CutInto all (refused n ml ll)
  unfolding refused
  refused_cut n z e = absurd (z e)

  either_cut : (b : Bool) (o o' : RoundsOutcome) → CutInto all o → (T (not b) → CutInto all o') → CutInto all (cond b o o')
  either_cut true o o' h g = h
  either_cut false o o' h g = g tt

  filled_cut : CutInto all (filled all ml ll)
  unfolding filled
  filled_cut = either_cut (ltb (length ml) (length (flatten all)) || ltb (length ll) (length all)) (refused 10 ml ll) _ (refused_cut 10 (λ e. absurd (omega arith)))
      (λ _ _. ap₂ cut_by (lengths_read all ll) (written_take (flatten all) ml) ∙ cut_all all)

pub cut : (p : Plan) (cs fs ws wf ml ll : List ℕ) → CutInto (rounds p (today p cs fs ws wf) ws) (find_rounds p cs fs ws wf ml ll)
unfolding find_rounds
cut p cs fs ws wf ml ll =
    let n = refusal p cs fs ws wf in
    let all = rounds p (today p cs fs ws wf) ws in
    either_cut all ml ll (eqb n 0) (filled all ml ll) (refused n ml ll) (filled_cut all ml ll) (λ z. refused_cut all ml ll n (differ n 0 z))
