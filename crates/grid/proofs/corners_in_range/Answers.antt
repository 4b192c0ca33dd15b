-- `corners_in_range` meets its contract: the shift loses no bit. Assumes nothing.
use mathlib.Core.Path.{ap}
use mathlib.Core.Bool.{◌&&◌}
use Prim.Native.Nat.{ℕ, ◌%◌}
use lib.Dec.{eqb, ltb}
use native.Mathlib.Omega.{arith}
use Rattle.grid.specs.Plan.{corners_in_range}
use Rattle.grid.proofs.Turns.{power}
use Rattle.grid.proofs.corners_in_range.Goals as goal

pub returns : goal.returns
unfolding corners_in_range
returns c = ap (λ (m : ℕ). ltb c.args.corners m && eqb (c.args.corners % 2) 0) (power c.args.count (omega (arith, c.requires)))
