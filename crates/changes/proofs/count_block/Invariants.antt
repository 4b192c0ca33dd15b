-- `count_block` meets its contract. The invariant: the count is that of the numbers passed. Assumes nothing.
use mathlib.Core.Path.{◌≡◌}
use Prim.Native.Nat.{◌+◌}
use lib.ListN.{length}
use Rattle.outcomes.specs.Calls.{changed}
use Rattle.changes.proofs.count_block.Given as goal

abbrev pub invariant-loop-i : goal.invariant-loop-i
invariant-loop-i l = length (changed l.from l.old l.new) + l.n ≡ length (changed l.i l.old l.new)
