-- `unmarked` meets its contract. The invariant: the bytes passed are written. Assumes nothing.
use native.Mathlib.Omega.{arith}
use Rattle.facts.proofs.Turns.{tabulate_none, tabulate_more}
use Rattle.marks.specs.Marks.{unmarked_at}
use Rattle.marks.proofs.unmarked.Goals as goal

pub loop-i-init : goal.loop-i-init
loop-i-init c = tabulate_none c.args.out.now _

pub loop-i-preserved : goal.loop-i-preserved
loop-i-preserved c = let at = c.loop-i in tabulate_more at.out (unmarked_at c.args.table.now) at.i _ (omega arith) c.unmarked_of.ensures at.invariant
