-- `compare::same` meets its contract. The invariant: the bytes so far. Assumes nothing.
use native.Mathlib.Omega.{arith}
use Rattle.compare.proofs.Agree.{agree_none, agree_next}
use Rattle.compare.proofs.same.Goals as goal

pub loop-i-init : goal.loop-i-init
loop-i-init c = agree_none _ _ _

pub loop-i-preserved : goal.loop-i-preserved
loop-i-preserved c = agree_next _ _ _ _ _ (omega arith) c.loop-i.invariant
