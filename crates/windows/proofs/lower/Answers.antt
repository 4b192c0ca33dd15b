-- `windows::lower` meets its contract. The invariant: the entries so far are lowered. Assumes nothing.
use native.Mathlib.Omega.{arith}
use Rattle.windows.proofs.Lowered.{lowered_none, lowered_next}
use Rattle.windows.proofs.lower.Goals as goal

pub loop-i-init : goal.loop-i-init
loop-i-init c = lowered_none _ _

pub loop-i-preserved : goal.loop-i-preserved
loop-i-preserved c = let l = c.loop-i in lowered_next l.i _ _ _ l.out l.invariant (omega arith) c.min.ensures
