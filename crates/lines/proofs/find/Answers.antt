-- `find` meets its contract: what is left from `i` on says where the first stop is. Assumes nothing.
use native.Mathlib.Omega.{arith}
use lib.ListN.{drop, length-drop}
use Rattle.lines.proofs.Texts.{up_to_end, up_to_here, up_to_next, up_to_le}
use Rattle.lines.proofs.find.Goals as goal

pub returns-then-text-i : goal.returns-then-text-i
returns-then-text-i c = let a = c.args in
    omega (arith, up_to_here a.stop a.text.now c.loop-i.i (omega arith) c.if-text-i.true)

pub loop-i-preserved : goal.loop-i-preserved
loop-i-preserved c = let a = c.args in
    omega (arith, up_to_next a.stop a.text.now c.loop-i.i (omega arith) c.if-text-i.false)

pub returns : goal.returns
returns c = let a = c.args in
    omega (arith, up_to_end a.stop a.text.now c.loop-i.i (omega arith), up_to_le a.stop (drop a.from a.text.now), length-drop a.from a.text.now, c.max.ensures)
