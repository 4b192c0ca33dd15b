-- `nesting::complete_cells` meets its contract. The invariant: the cells so far have their bytes. Assumes nothing.
use native.Mathlib.Omega.{arith}
use Rattle.nesting.proofs.Completed.{cells_next}
use Rattle.nesting.proofs.Reactivable.{filled_start}
use Rattle.nesting.proofs.complete_cells.Goals as goal

pub loop-i-init : goal.loop-i-init
loop-i-init c = filled_start _ _ _

pub loop-i-preserved : goal.loop-i-preserved
loop-i-preserved c = let l = c.loop-i in
    let a = c.args in
    cells_next a.at l.i a.present a.cells.now l.auto.i (omega arith) l.invariant c.completed_byte.ensures
