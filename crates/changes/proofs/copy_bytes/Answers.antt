-- `copy_bytes` meets its contract. The invariant: the bytes passed are those of the source. Assumes nothing.
use native.Mathlib.Omega.{arith}
use Rattle.facts.proofs.Turns.{copy_more, copy_all}
use Rattle.changes.proofs.copy_bytes.Goals as goal

pub loop-i-preserved : goal.loop-i-preserved
loop-i-preserved c = let at = c.loop-i in copy_more at.to c.args.from.now at.i (omega arith) (omega arith) at.invariant

pub returns : goal.returns
returns c = copy_all _ _ c.loop-i.i (omega arith) (omega arith) c.loop-i.invariant
