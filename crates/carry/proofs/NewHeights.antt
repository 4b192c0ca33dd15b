-- Heights that are not refused may be carried, and only those of active functions count: what `carry_beside` may rely on and leaves.
-- Assumes nothing.
use mathlib.Core.Path.{◌≡◌, refl, ap, ◌∙◌}
use mathlib.Core.Bool.{Bool, true, false, cond}
use mathlib.Core.List.{List}
use Prim.Native.Nat.{ℕ, ◌*◌, ◌^◌, ◌≤◌, ◌<◌}
use native.Mathlib.Omega.{arith}
use lib.Dec.{T, leb→le, ltb, ltb→lt, nltb→le}
use lib.IntN.{ℤ, pos, nat_abs}
use lib.ListN.{length}
use Rattle.facts.specs.Bounded.{implies}
use Rattle.facts.proofs.Tests.{cases}
use Rattle.facts.proofs.Bounded.{every_e, every_same}
use Rattle.grid.specs.declared.Plan.{Plan}
use Rattle.grid.specs.Plan.{function_total, function_level}
use Rattle.grid.specs.Range.{InRange}
use Rattle.mesh.specs.Mesh.{active}
use Rattle.heights.specs.Heights.{low, low_on, low_at, all_low, heights_refusal}
use Rattle.heights.proofs.Refusals.{Fine, fine}
use Rattle.carry.specs.Carry.{at, only_active, carried}
use Rattle.carry.specs.Steps.{Allowed, Started, carried_on, Carriable}
use Rattle.carry.proofs.Lists.{at_none}
use Rattle.carry.proofs.Kept.{only_length, only_at}
use Rattle.carry.proofs.Small.{carried_length}

-- the others may have any height
pub only_low : (p : Plan) (fs : List ℕ) (hs : List ℤ) → length hs ≡ function_total p → all_low p fs (only_active fs hs) ≡ all_low p fs hs
unfolding all_low low_on
only_low p fs hs s = every_same (function_total p) _ _ (λ f l.
    ap (λ h. implies (active fs f) (low (function_level p f) h)) (only_at fs hs f (omega arith)) ∙ same (active fs f) (function_level p f) (at hs f))
  where
    same : (b : Bool) (k : ℕ) (h : ℤ) → implies b (low k (cond b h (pos 0))) ≡ implies b (low k h)
    same true k h = refl
    same false k h = refl

-- ---- what the refusals of heights leave

module _ (p : Plan) (fs : List ℕ) (hs : List ℤ) (range : InRange p) (none : heights_refusal p fs hs ≡ 0) where
  is_fine : Fine p fs hs
  is_fine = fine p fs hs none

  pub allowed : Allowed p
  allowed = let k = is_fine.exact in record { range = range; across≤ = k.across≤; up≤ = k.up≤; levels≤ = k.levels≤ }

  at_most : (b : Bool) (k : ℕ) (h : ℤ) → T (implies b (low k h)) → nat_abs (cond b h (pos 0)) ≤ 65536 * 16 ^ k
  unfolding low
  at_most true k h t = leb→le (nat_abs h) (65536 * 16 ^ k) t
  at_most false k h t = omega arith

  active_low : (g : ℕ) → g < function_total p → nat_abs (at (only_active fs hs) g) ≤ 65536 * 16 ^ function_level p g
  unfolding all_low low_on
  active_low g l = rw (only_at fs hs g (omega (arith, is_fine.sized))) (at_most (active fs g) (function_level p g) (at hs g) (every_e (function_total p) (low_at p fs hs) is_fine.low g l))

  pub started : Started p (only_active fs hs)
  started = record {
    allowed = allowed;
    sized = only_length fs hs ∙ is_fine.sized;
    low = λ g. cases (ltb g (function_total p))
        (λ l. active_low g (ltb→lt _ _ l))
        (λ l. let n : function_total p ≤ g = nltb→le _ _ l in
        let k : length (only_active fs hs) ≤ g = omega (arith, only_length fs hs, is_fine.sized) in
        rw (at_none (only_active fs hs) g k) (omega arith));
  }

-- ---- the new heights

module _ {p : Plan} {old new : List ℕ} {heights room : List ℤ} (C : Carriable p old new heights room) where
  pub may : Allowed p
  may = allowed p old heights C.range C.allowed

  pub heights_are : length heights ≡ function_total p
  heights_are = (fine p old heights C.allowed).sized

  module _ {hs₁ : List ℤ} (active : hs₁ ≡ only_active old heights) where
    pub starts : Started p hs₁
    starts = rw active (started p old heights C.range C.allowed)

    module _ {hs₂ : List ℤ} (passed : hs₂ ≡ carried p new (function_total p) hs₁) where
      pub carries : hs₂ ≡ carried_on p old new heights
      unfolding carried_on
      carries = passed ∙ ap (carried p new (function_total p)) active

      pub carried_are : length hs₂ ≡ function_total p
      carried_are = ap length passed ∙ carried_length p new (function_total p) hs₁ starts.sized
