-- `line_at` meets its contract. Assumes nothing.
use Rattle.projector.specs.Projector.{line_at}
use Rattle.projector.proofs.line_at.Goals as goal

pub returns : goal.returns
unfolding line_at
returns c = c.grown.ensures
