-- `nesting::left_by_all` meets its contract. The invariant: what the children so far left. Assumes nothing.
use mathlib.Core.Path.{ap, ◌∙◌}
use mathlib.Core.Bool.{cond}
use lib.Dec.{eqb}
use Rattle.nesting.proofs.Rows.{part_at}
use Rattle.nesting.proofs.Reactivable.{left_none, left_more}
use Rattle.nesting.proofs.left_by_all.Goals as goal

pub loop-child-init : goal.loop-child-init
loop-child-init c = left_none _ _ _

pub loop-child-preserved : goal.loop-child-preserved
loop-child-preserved c = let a = c.args in
    let l = c.loop-child in
    left_more a.cells.now a.at l.child-index a.byte l.invariant (c.left_by-left.ensures ∙ ap (λ x. cond (eqb x 1) l.left 2) (part_at a.at a.n a.cells.now l.child-index c.loop-child-test.true))
