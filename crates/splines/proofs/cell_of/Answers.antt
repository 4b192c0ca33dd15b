-- `cell_of` meets its contract. Assumes nothing.
use native.Mathlib.Omega.{arith}
use Rattle.splines.specs.Values.{cell_of}
use Rattle.splines.proofs.cell_of.Goals as goal

pub returns : goal.returns
unfolding cell_of
returns c = omega arith
