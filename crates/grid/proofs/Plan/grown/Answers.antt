-- `Plan::grown` meets its contract: the shift loses no bit. Assumes nothing.
use Rattle.grid.proofs.Small.{shifted}
use Rattle.grid.proofs.Plan.grown.Goals as goal

pub returns : goal.returns
returns c = shifted c.args.self c.requires.base_bound c.requires.levels_bound
