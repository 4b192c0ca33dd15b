-- `windows::lower` meets its contract. Assumes nothing.
use mathlib.Core.Path.{◌≡◌}
use Rattle.windows.specs.Windows.{lowered}
use Rattle.windows.proofs.lower.Given as goal

abbrev pub invariant-loop-i : goal.invariant-loop-i
invariant-loop-i l = l.out ≡ lowered l.i l.from l.initial.out
