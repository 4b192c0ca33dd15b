-- `is_still` meets its contract. The invariant: the test of the numbers passed. Assumes nothing.
use mathlib.Core.Path.{◌≡◌}
use lib.Dec.{eqb}
use lib.ListN.{length}
use Rattle.outcomes.specs.Calls.{changed}
use Rattle.changes.proofs.is_still.Given as goal

abbrev pub invariant-loop-i : goal.invariant-loop-i
invariant-loop-i l = l.ok ≡ eqb (length (changed l.from l.old l.new)) (length (changed l.i l.old l.new))
