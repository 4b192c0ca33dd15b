-- `count_changed` meets its contract. The invariant: the count is that of the numbers passed. Assumes nothing.
use mathlib.Core.Path.{◌≡◌}
use Prim.Native.Nat.{◌-◌, ◌≤◌}
use lib.ListN.{length}
use Rattle.outcomes.specs.Calls.{changed}
use Rattle.changes.proofs.count_changed.Given as goal

abbrev pub invariant-loop-at : goal.invariant-loop-at
invariant-loop-at l = (l.at ≤ length l.old) × (l.n ≡ length (changed l.at l.old l.new))

abbrev pub decreases-loop-at : goal.decreases-loop-at
decreases-loop-at l = length l.old - l.at
