-- `list_changed_between` meets its contract. The invariant: the list starts with the numbers passed that changed, and keeps its entries
-- after them. Assumes nothing.
use mathlib.Core.Path.{◌≡◌}
use Prim.Native.Nat.{◌-◌, ◌≤◌}
use lib.ListN.{length}
use Rattle.outcomes.specs.Calls.{changed, written}
use Rattle.changes.proofs.list_changed_between.Given as goal

abbrev pub invariant-loop-at : goal.invariant-loop-at
invariant-loop-at l = (l.from ≤ l.at) × (l.at ≤ l.to) × (l.listed ≡ length (changed l.at l.old l.new)) × (l.list ≡ written (changed l.at l.old l.new) l.initial.list)

abbrev pub decreases-loop-at : goal.decreases-loop-at
decreases-loop-at l = l.to - l.at
