-- `append` meets its contract. The invariant: the marks passed are written. Assumes nothing.
use native.Mathlib.Omega.{arith}
use Rattle.drafting.proofs.Turns.{none_yet, one_more, all_there}
use Rattle.drafting.proofs.append.Goals as goal

pub loop-i-init : goal.loop-i-init
loop-i-init c = none_yet c.args.list.now c.args.marks.now c.args.at c.requires

pub loop-i-preserved : goal.loop-i-preserved
loop-i-preserved c = let a = c.args in
    let l = c.loop-i in
    one_more a.list.now a.marks.now a.at c.requires l.i (omega arith) l.invariant

pub returns : goal.returns
returns c = let a = c.args in all_there a.list.now a.marks.now a.at c.requires c.loop-i.i (omega arith) c.loop-i.invariant
