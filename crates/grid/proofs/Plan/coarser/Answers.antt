-- `Plan::coarser` meets its contract. Assumes nothing.
use Rattle.grid.proofs.Small.{shifted_down}
use Rattle.grid.proofs.Plan.coarser.Goals as goal

pub returns : goal.returns
returns c = shifted_down c.args.self c.args.x c.args.levels
