-- `take_over` meets its contract: the number of the changes is small, and the rest is what the parts promise. Assumes nothing.
use native.Mathlib.Omega.{arith}
use lib.ListN.{length}
use Rattle.changes.proofs.Changes.{changed_short}
use Rattle.changes.proofs.take_over.Goals as goal

pub overflow_cast-result : goal.overflow_cast-result
overflow_cast-result c = let s = c in
    omega (arith, s.requires.small, c.list_changed-n.ensures.value, changed_short s.args.table.now s.args.new.now (length s.args.table.now))
