-- `Plan::area` meets its contract: the product fits. Assumes nothing.
use native.Mathlib.Omega.{arith}
use Rattle.grid.proofs.Small.{area_small}
use Rattle.grid.proofs.Plan.area.Goals as goal

pub overflow_mul-result : goal.overflow_mul-result
overflow_mul-result c = let d = c in
    rw (c.wide.ensures, c.wide-2.ensures) (omega (arith, area_small d.args.self d.requires.in_range d.args.across d.args.up d.requires.beyond d.args.level d.requires.level_lt_levels))
