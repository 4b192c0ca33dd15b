-- `unit` meets its contract: a sixteenth for each level. Assumes nothing.
use mathlib.Core.Path.{refl}
use native.Mathlib.Omega.{arith}
use lib.Ieee.{of_bits}
use Rattle.exact.specs.Dyadic.{dyadic}
use Rattle.heights.proofs.Turns.{sixteenth}
use Rattle.heights.proofs.unit.Goals as goal

pub loop-level-init : goal.loop-level-init
unfolding of_bits dyadic
loop-level-init c = refl

pub loop-level-preserved : goal.loop-level-preserved
loop-level-preserved c = sixteenth c.loop-level._level (omega arith) c.loop-level.invariant
