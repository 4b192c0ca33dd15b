-- `count_changed` meets its contract. The invariant: the count is that of the numbers passed. Assumes nothing.
use mathlib.Core.Path.{sym, ap}
use Prim.Native.Nat.{◌+◌}
use native.Mathlib.Omega.{arith}
use lib.ListN.{length}
use Rattle.changes.proofs.Changes.{changed_none, changed_short}
use Rattle.changes.proofs.count_changed.Goals as goal

pub loop-at-init : goal.loop-at-init
loop-at-init c = (omega arith, ap length (sym (changed_none _ _)))

pub overflow_add-n : goal.overflow_add-n
overflow_add-n c = omega (arith, c.count_block-n.ensures, changed_short c.args.old.now c.args.new.now (c.loop-at.at + c.min.result))
