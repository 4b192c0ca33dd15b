-- `only_active` meets its contract: function by function. Assumes nothing.
use native.Mathlib.Omega.{arith}
use Rattle.carry.proofs.Starts.{active_yes, active_no, active_none, active_next, active_all}
use Rattle.carry.proofs.only_active.Goals as goal
use Rattle.carry.proofs.only_active.Goals.{then-functions-i-eq1, else-functions-i-eq1}

pub loop-i-init : goal.loop-i-init
loop-i-init c = active_none c.args.functions.now c.args.heights.now c.requires.1

pub loop-i-preserved : goal.loop-i-preserved
loop-i-preserved c = let s = c in
    let l = c.loop-i in
    let functions = s.args.functions.now in
    let heights = s.args.heights.now in
    active_next functions heights l.invariant (omega arith)
    (elim c.if-functions-i-eq1.branch [
      | then-functions-i-eq1 w ↦ active_yes functions heights l.i w.if-functions-i-eq1.true w.out-1.given w.out-is
      | else-functions-i-eq1 w ↦ active_no functions heights l.i w.if-functions-i-eq1.false w.out-is
    ])

pub returns : goal.returns
returns c = let s = c in active_all s.args.functions.now s.args.heights.now (omega arith) c.loop-i.invariant
