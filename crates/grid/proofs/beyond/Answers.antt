-- `beyond` meets its contract. Assumes nothing.
use mathlib.Core.Path.{refl}
use Prim.Native.Nat.{◌-◌, ◌*◌, ◌≤◌}
use native.Mathlib.Omega.{arith}
use Rattle.grid.specs.Knots.{corners_to, beyond}
use Rattle.grid.proofs.Sides.{beyond_small}
use Rattle.grid.proofs.beyond.Goals as goal

small : (c : goal.After-corners_to) → let a = c.args in (a.degree - 1) * corners_to a.corners (a.base - 1) ≤ 45
small c = let s = c in beyond_small s.args.degree s.args.corners s.args.base s.requires.le_degree.1 s.requires.le_base.1

pub overflow_mul-result : goal.overflow_mul-result
overflow_mul-result c = rw c.corners_to.ensures (omega (arith, small c))

pub overflow_add-result : goal.overflow_add-result
overflow_add-result c = rw c.corners_to.ensures (omega (arith, small c))

pub returns : goal.returns
unfolding beyond
returns c = rw c.corners_to.ensures refl
