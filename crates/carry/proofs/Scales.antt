-- Formula 2 holds between the levels of a plan that heights allow. Assumes nothing.
use mathlib.Core.Path.{◌≡◌, refl}
use Prim.Native.Nat.{ℕ, suc, ◌*◌}
use native.Mathlib.Nat.{pow-suc}
use native.Mathlib.Omega.{arith}
use Rattle.grid.specs.declared.Plan.{Plan}
use Rattle.grid.specs.Plan.{ratio, grown, across_at, up_at}
use Rattle.grid.proofs.Laws.{across_sized, up_sized}
use Rattle.twoscale.specs.Claims.{Halved}
use Rattle.twoscale.proofs.Results.{two_scale}
use Rattle.carry.specs.Steps.{Allowed, Scales}

-- a level has twice as many columns (or rows) as the one before
twice : (p : Plan) (b k : ℕ) → grown (ratio p) b (suc k) ≡ 2 * grown (ratio p) b k
unfolding grown ratio
twice p b k = rw (pow-suc 2 k) (omega arith)

module _ (p : Plan) (a : Allowed p) (k : ℕ) where
  across : Halved (across_at p k) (across_at p (suc k))
  across = record {
    sized = across_sized p a.range k;
    degree≤ = a.across≤;
    degree = refl;
    cells = twice p p.columns k;
    base = refl;
    unit = twice p 1 k;
    corners = refl;
  }

  up : Halved (up_at p k) (up_at p (suc k))
  up = record {
    sized = up_sized p a.range k;
    degree≤ = a.up≤;
    degree = refl;
    cells = twice p p.rows k;
    base = refl;
    unit = twice p 1 k;
    corners = refl;
  }

pub scales : (p : Plan) → Allowed p → Scales p
scales p a = record {
  across = λ k l. two_scale (across_at p k) (across_at p (suc k)) (across p a k);
  up = λ k l. two_scale (up_at p k) (up_at p (suc k)) (up p a k);
}
