-- `list_block` meets its contract. The invariant: the list starts with the numbers passed that changed, and keeps its entries
-- behind them. Assumes nothing.
use mathlib.Core.Path.{◌≡◌}
use mathlib.Core.List.{◌++◌}
use lib.ListN.{length, drop}
use Rattle.outcomes.specs.Calls.{changed}
use Rattle.changes.proofs.list_block.Given as goal

abbrev pub invariant-loop-i : goal.invariant-loop-i
invariant-loop-i l = (l.k ≡ length (changed l.i l.old l.new)) × (l.list ≡ changed l.i l.old l.new ++ drop l.k l.initial.list)
