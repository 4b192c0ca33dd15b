-- `Plan::ratio` meets its contract. Assumes nothing.
use mathlib.Core.Path.{refl}
use Rattle.grid.specs.Plan.{ratio}
use Rattle.grid.proofs.Plan.ratio.Goals as goal

pub returns : goal.returns
unfolding ratio
returns c = refl
