-- `Plan::wide` meets its contract. Assumes nothing.
use native.Mathlib.Omega.{arith}
use Rattle.grid.proofs.Small.{grown_small}
use Rattle.grid.proofs.Plan.wide.Goals as goal

pub overflow_add-result : goal.overflow_add-result
overflow_add-result c = omega (arith, grown_small c.args.self c.requires.base_bound c.requires.level_bound)
