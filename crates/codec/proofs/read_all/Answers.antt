-- `read_all` meets its contract: whoever reads what is left has read all the numbers. Assumes nothing.
use native.Mathlib.Omega.{arith}
use lib.ListN.{length, length-set}
use Rattle.codec.proofs.Steps.{left_all, left_next, left_bad, left_none}
use Rattle.codec.proofs.read_all.Goals as goal

pub loop-n-init : goal.loop-n-init
loop-n-init c = let a = c.args in (c.requires, left_all a.s.now a.at (length a.numbers.now) a.numbers.now)

pub returns-in_err-value : goal.returns-in_err-value
returns-in_err-value c = let l = c.loop-n in
    rw (c.from_residual.ensures, length-set, l.auto.numbers) (left_bad l.invariant.1 (omega arith) c.in_err-value.ensures)

pub loop-n-preserved : goal.loop-n-preserved
loop-n-preserved c = let l = c.loop-n in
    let f = c.in_ok-value.ensures in
    (f.inside, left_next l.invariant.1 f (omega arith) (omega arith))

pub returns : goal.returns
returns c = let l = c.loop-n in
    record { reads = rw l.auto.numbers (left_none l.invariant.1 l.auto.numbers (omega arith)); inside = l.invariant.0 }
