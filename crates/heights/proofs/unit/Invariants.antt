-- `unit` meets its contract: a sixteenth for each level. Assumes nothing.
use mathlib.Core.Path.{◌≡◌}
use lib.IntN.{pos}
use Rattle.exact.specs.Dyadic.{dyadic}
use Rattle.heights.specs.Heights.{places}
use Rattle.heights.proofs.unit.Given as goal

abbrev pub invariant-loop-level : goal.invariant-loop-level
invariant-loop-level l = l.unit ≡ dyadic (places l._level) (pos 1)
