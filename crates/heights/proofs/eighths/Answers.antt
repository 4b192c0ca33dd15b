-- `eighths` meets its contract. Assumes nothing.
use native.Mathlib.Omega.{arith}
use Rattle.grid.specs.Plan.{grown}
use Rattle.heights.specs.Heights.{eighths}
use Rattle.heights.proofs.Points.{eighths_small}
use Rattle.heights.proofs.eighths.Goals as goal

pub returns : goal.returns
unfolding grown eighths
returns c = (c.grown.ensures, omega (arith, c.grown.ensures, eighths_small c.args.plan c.args.level c.requires.0))
