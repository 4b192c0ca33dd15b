-- `nesting::refined_cells` meets its contract. The invariant: the bytes so far are written. Assumes nothing.
use native.Mathlib.Omega.{arith}
use Rattle.mesh.specs.Mesh.{refined}
use Rattle.nesting.specs.Reactivable.{refined_byte}
use Rattle.nesting.proofs.Reactivable.{filled_start, filled_next}
use Rattle.nesting.proofs.refined_cells.Goals as goal

pub loop-i-init : goal.loop-i-init
loop-i-init c = filled_start _ _ _

pub loop-i-preserved : goal.loop-i-preserved
unfolding refined_byte refined
loop-i-preserved c = let l = c.loop-i in
    let a = c.args in
    filled_next a.from l.i (refined_byte a.cells.now a.kept) a.out.now l.auto.i (omega arith) l.invariant c.refined_byte.ensures
