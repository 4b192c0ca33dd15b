-- `windows::least_of` meets its contract. Assumes nothing.
use mathlib.Core.Path.{◌≡◌}
use Rattle.facts.specs.Mapped.{filled}
use Rattle.windows.specs.Windows.{least_of}
use Rattle.windows.proofs.least_of.Given as goal

abbrev pub invariant-loop-i : goal.invariant-loop-i
invariant-loop-i l = l.out ≡ filled 0 l.i (least_of l.a l.b) l.initial.out
