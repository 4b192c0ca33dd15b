-- `Side::firsts` meets its contract. Assumes nothing.
use mathlib.Core.Path.{ap}
use Prim.Native.Nat.{◌-◌}
use native.Mathlib.Omega.{arith}
use Rattle.grid.specs.Knots.{functions, beyond}
use Rattle.grid.specs.Side.{firsts}
use Rattle.grid.proofs.Side.firsts.Goals as goal

pub overflow_sub-result : goal.overflow_sub-result
unfolding functions beyond
overflow_sub-result c = omega (arith, c.functions.ensures)

pub returns : goal.returns
unfolding firsts
returns c = ap (λ n. n - c.args.self.degree) c.functions.ensures
