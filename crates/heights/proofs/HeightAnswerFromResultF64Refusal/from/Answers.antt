-- What C gets of a height: 0.0 is the exact 0. Assumes nothing.
use lib.Ieee.{of_bits}
use Rattle.exact.specs.Dyadic.{dyadic}
use Rattle.heights.proofs.HeightAnswerFromResultF64Refusal.from.Goals as goal

pub returns-in-Err : goal.returns-in-Err
unfolding of_bits dyadic
returns-in-Err c = rw (c.in-Err.is, c.from.ensures)
