-- `find` meets its contract: what is left from `i` on says where the first stop is. Assumes nothing.
use mathlib.Core.Path.{◌≡◌}
use Prim.Native.Nat.{◌+◌}
use lib.ListN.{length, drop}
use Rattle.lines.specs.Reading.{up_to}
use Rattle.lines.proofs.find.Given as goal

abbrev pub invariant-loop-i : goal.invariant-loop-i
invariant-loop-i l = l.i + length (up_to l.stop (drop l.i l.text)) ≡ l.from + length (up_to l.stop (drop l.from l.text))
