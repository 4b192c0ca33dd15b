-- `windows::repeat` meets its contract. Assumes nothing.
use mathlib.Core.Path.{◌≡◌}
use Rattle.facts.specs.Mapped.{filled}
use Rattle.windows.specs.Near.{repeated}
use Rattle.windows.proofs.repeat.Given as goal

abbrev pub invariant-loop-x : goal.invariant-loop-x
invariant-loop-x l = l.out ≡ filled 0 l.x (repeated l.plan l.from) l.initial.out
