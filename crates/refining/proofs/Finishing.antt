-- What is written: what `finish` may rely on and leaves. Assumes nothing.
use mathlib.Core.Path.{◌≡◌, sym, ap, ◌∙◌}
use mathlib.Core.Bool.{true, false}
use mathlib.Core.List.{List}
use Prim.Native.Nat.{ℕ, ◌≤◌}
use native.Mathlib.Omega.{arith}
use lib.IntN.{ℤ, pos}
use lib.ListN.{length, take, replicate, length-replicate}
use lib.Seq.{length-take-le}
use Rattle.grid.specs.declared.Plan.{Plan}
use Rattle.grid.specs.Plan.{function_total}
use Rattle.grid.specs.Range.{InRange}
use Rattle.grid.proofs.Totals.{functions_bound}
use Rattle.mesh.proofs.Bridge.{Passed, check_passed, length_labels}
use Rattle.outcomes.specs.declared.Answer.{Answer}
use Rattle.outcomes.specs.Calls.{changed, written, refused, settle}
use Rattle.outcomes.specs.Meets.{outcome_of}
use Rattle.outcomes.proofs.Results.{settle_room, accepted}
use Rattle.changes.specs.Changes.{ListRoom}
use Rattle.heights.specs.Heights.{all_low}
use Rattle.heights.proofs.Refusals.{fine}
use Rattle.carry.specs.Carry.{only_active, carried, carry}
use Rattle.carry.specs.Steps.{most_heights, Allowed, NoneLast, carried_on}
use Rattle.carry.proofs.NewHeights.{only_low, allowed}
use Rattle.carry.proofs.Kept.{only_length, none_last}
use Rattle.carry.proofs.Most.{most_heights_lem}
use Rattle.carry.proofs.Small.{carried_length}
use Rattle.refining.specs.Refining.{refused_with}
use Rattle.refining.specs.Steps.{Ready, finished}
use Rattle.refining.proofs.Outcomes.{carry_high, carry_low}

-- ---- the first n of m heights of 0

pub no_heights : (m n : ℕ) → n ≤ m → n ≡ length {A = ℤ} (take n (replicate m (pos 0)))
no_heights m n h = sym (length-take-le {A = ℤ} n (replicate m (pos 0)) (rw length-replicate h))

pub heights_part : (m n : ℕ) {t : ℕ} → n ≡ t → t ≤ m → length {A = ℤ} (take n (replicate m (pos 0))) ≡ t
heights_part m n e h = sym (no_heights m n (rw e h)) ∙ e

-- ---- all of it is written

module _ {p : Plan} {cs fs : List ℕ} {hs : List ℤ} {cl fl cs' fs' : List ℕ} (R : Ready p cs fs hs cl fl cs' fs') where
  passed : Passed p cs fs
  passed = check_passed p cs fs R.checked

  pub in_range_lem : InRange p
  in_range_lem = passed.range

  is_allowed : Allowed p
  is_allowed = allowed p fs hs in_range_lem R.allowed

  pub few : function_total p ≤ most_heights
  few = most_heights_lem p is_allowed

  pub old_functions : length fs ≡ function_total p
  old_functions = passed.functions

  pub new_functions : length fs' ≡ function_total p
  new_functions = ap length R.labelled ∙ length_labels p cs'

  pub old_heights : length hs ≡ function_total p
  old_heights = (fine p fs hs R.allowed).sized

  pub none_deactivated : NoneLast p fs'
  none_deactivated = rw R.labelled (none_last p is_allowed cs' R.grows.after)

  pub cell_room_lem : ListRoom cs cs' cl
  cell_room_lem = record {
    same = passed.cells ∙ sym R.sized;
    small = omega (arith, passed.cells, passed.small);
    room = rw passed.cells R.cells≤;
  }

  pub function_room_lem : ListRoom fs fs' fl
  function_room_lem = record {
    same = old_functions ∙ sym new_functions;
    small = omega (arith, old_functions, functions_bound p in_range_lem passed.small);
    room = rw old_functions R.functions≤;
  }

  is_accepted : settle p cs fs cl fl cs' fs' ≡ accepted p cs fs cl fl cs' fs'
  is_accepted = settle_room p cs fs cl fl cs' fs' R.cells≤ R.functions≤

  -- 17, or the new heights, of which those of the active functions are kept
  module _ {hs₁ : List ℤ} (e : hs₁ ≡ carried_on p fs fs' hs) where
    same_low : all_low p fs' (carry p fs fs' hs) ≡ all_low p fs' hs₁
    unfolding carry carried_on
    same_low =
        let l : length (only_active fs hs) ≡ function_total p = only_length fs hs ∙ old_heights in
        rw e (only_low p fs' (carried p fs' (function_total p) (only_active fs hs)) (carried_length p fs' (function_total p) (only_active fs hs) l))

    pub too_high : all_low p fs' hs₁ ≡ false → {r : Answer} → r ≡ record { number = 17; cells = 0; functions = 0 }
        → record { outcome = outcome_of r cs fs cl fl; heights = hs } ≡ finished p cs fs hs cl fl cs' fs'
    unfolding finished refused_with refused accepted
    too_high l a = rw (a, is_accepted) (sym (carry_high p cs fs hs cl fl (accepted p cs fs cl fl cs' fs') (same_low ∙ l)))

    pub ends : all_low p fs' hs₁ ≡ true → {n m : ℕ} {cs₁ fs₁ cl₁ fl₁ : List ℕ} {hs₂ : List ℤ}
        → n ≡ length (changed (length cs) cs cs') → m ≡ length (changed (length fs) fs fs') → cs₁ ≡ cs' → fs₁ ≡ fs'
        → cl₁ ≡ written (changed (length cs) cs cs') cl → fl₁ ≡ written (changed (length fs) fs fs') fl → hs₂ ≡ only_active fs₁ hs₁
        → record { outcome = outcome_of (record { number = 0; cells = n; functions = m }) cs₁ fs₁ cl₁ fl₁; heights = hs₂ } ≡ finished p cs fs hs cl fl cs' fs'
    unfolding finished accepted carry carried_on
    ends l en em ec ef ecl efl eh =
        rw (en, em, ec, ecl, efl, eh, ef, passed.cells, old_functions, e, is_accepted) (sym (carry_low p cs fs hs cl fl (accepted p cs fs cl fl cs' fs') (same_low ∙ l)))
