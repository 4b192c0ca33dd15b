-- `Side::functions` meets its contract. Assumes nothing.
use mathlib.Core.Path.{◌≡◌, refl}
use Prim.Native.Nat.{◌+◌}
use native.Mathlib.Omega.{arith}
use Rattle.grid.specs.Knots.{beyond, functions}
use Rattle.grid.proofs.Sides.{functions_small}
use Rattle.grid.proofs.Side.functions.Goals as goal

of : (c : goal.After-struct_known-1) → let s = c.args.self in s.cells + beyond s.degree s.corners s.base ≡ functions s
unfolding functions
of c = refl

pub overflow_add-result : goal.overflow_add-result
overflow_add-result c = let s = c in rw c.beyond.ensures (omega (arith, of c, functions_small s.args.self s.requires))

pub returns : goal.returns
returns c = rw c.beyond.ensures (of c)
