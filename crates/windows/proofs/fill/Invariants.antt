-- `windows::fill` meets its contract. Assumes nothing.
use mathlib.Core.Path.{◌≡◌}
use Rattle.facts.specs.Mapped.{filled}
use Rattle.windows.specs.Windows.{always}
use Rattle.windows.proofs.fill.Given as goal

abbrev pub invariant-loop-i : goal.invariant-loop-i
invariant-loop-i l = l.out ≡ filled 0 l.i (always l.value) l.initial.out
