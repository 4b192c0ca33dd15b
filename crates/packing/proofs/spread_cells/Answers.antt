-- `packing::spread_cells` meets its contract. Assumes nothing.
use native.Mathlib.Omega.{arith}
use Rattle.packing.proofs.Four.{spread_small}
use Rattle.packing.proofs.spread_cells.Goals as goal

pub overflow_add-result : goal.overflow_add-result
overflow_add-result c = omega (arith, c.spread.ensures, c.spread-2.ensures, spread_small c.args.present, spread_small c.args.refined)
