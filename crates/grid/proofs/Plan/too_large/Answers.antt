-- `Plan::too_large` meets its contract. Assumes nothing.
use mathlib.Core.Path.{ap}
use lib.Dec.{ltb}
use Rattle.grid.specs.Plan.{too_large}
use Rattle.grid.specs.Bounds.{most_cells}
use Rattle.grid.proofs.Plan.too_large.Goals as goal

pub returns : goal.returns
unfolding too_large
returns c = ap (ltb most_cells) c.cell_total.ensures
