-- `most_of` meets its contract. Assumes nothing.
use Rattle.heights.proofs.Lows.{most_is}
use Rattle.heights.proofs.limits.most_of.Goals as goal

pub returns : goal.returns
returns c = most_is c.args.level c.requires
