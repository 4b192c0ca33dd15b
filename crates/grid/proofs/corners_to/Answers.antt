-- `corners_to` meets its contract. Assumes nothing.
use Rattle.grid.proofs.Turns.{power, ones_corners}
use Rattle.grid.proofs.corners_to.Goals as goal

pub returns : goal.returns
returns c = rw (power c.args.c c.requires) (ones_corners c.args.corners c.args.c)
