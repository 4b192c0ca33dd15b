-- `read_all` meets its contract: whoever reads what is left has read all the numbers. Assumes nothing.
use Prim.Native.Nat.{◌≤◌}
use lib.ListN.{length}
use Rattle.codec.proofs.Steps.{Left}
use Rattle.codec.proofs.read_all.Given as goal

abbrev pub invariant-loop-n : goal.invariant-loop-n
invariant-loop-n l = (l.at ≤ length l.s) × Left l.s l.initial.at (length l.initial.numbers) l.numbers l.at l.n-index
