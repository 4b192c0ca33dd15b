-- `windows::least_of` meets its contract. Assumes nothing.
use native.Mathlib.Omega.{arith}
use Rattle.facts.proofs.Mapped.{filled_none, fill_next}
use Rattle.windows.specs.Windows.{least_of}
use Rattle.windows.proofs.least_of.Goals as goal

pub loop-i-init : goal.loop-i-init
loop-i-init c = filled_none 0 _ _

pub loop-i-preserved : goal.loop-i-preserved
unfolding least_of
loop-i-preserved c = fill_next _ _ _ _ c.loop-i.invariant _ (omega arith) (rw c.min.ensures at c.min-in-loop-i.ensures)
