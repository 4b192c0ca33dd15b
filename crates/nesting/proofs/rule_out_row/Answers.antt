-- `nesting::rule_out_row` meets its contract. The invariant: the children so far have ruled out their parents. Assumes nothing.
use Prim.Native.Nat.{◌+◌, ◌*◌, ◌≤◌, ◌<◌}
use native.Mathlib.Omega.{arith}
use lib.ListN.{length}
use Rattle.nesting.proofs.Rows.{parent_in, children_in, parent_of}
use Rattle.nesting.proofs.Reactivable.{ruled_none, ruled_next}
use Rattle.nesting.proofs.rule_out_row.Goals as goal
use Rattle.nesting.proofs.rule_out_row.Goals.{In-loop-column}

pub loop-column-init : goal.loop-column-init
loop-column-init c = ruled_none _ _ _ _ _ (omega arith)

-- the cell and its children lie in the tables
parent : (c : In-loop-column) → c.args.row.over + c.loop-column.column < length c.loop-column.out
parent c = omega (arith, parent_in _ _ _ _ _ c.requires.by_index.1 c.loop-column.column c.loop-column-test.true, c.requires.cells_len.1)

children : (c : In-loop-column) → c.args.row.at + c.loop-column.column * c.ratio-ratio.result + c.ratio-ratio.result ≤ length c.args.cells.now
children c = rw (c.ratio-ratio.ensures, c.requires.cells_len.0) (children_in _ _ _ _ _ c.requires.by_index.1 c.loop-column.column c.loop-column-test.true)

pub overflow_add-parent : goal.overflow_add-parent
overflow_add-parent c = omega (arith, parent (goal.at.overflow_add-parent c).In-loop-column)

pub overflow_mul-column : goal.overflow_mul-column
overflow_mul-column c = omega (arith, children (goal.at.overflow_mul-column c).In-loop-column)

pub overflow_add-row : goal.overflow_add-row
overflow_add-row c = omega (arith, children (goal.at.overflow_add-row c).In-loop-column)

pub bounds-out-parent : goal.bounds-out-parent
bounds-out-parent c = parent (goal.at.bounds-out-parent c).In-loop-column

pub left_by_all-requires : goal.left_by_all-requires
left_by_all-requires c = children (goal.at.left_by_all-requires c).In-loop-column

pub bounds-out-parent-in-loop-column : goal.bounds-out-parent-in-loop-column
bounds-out-parent-in-loop-column c = parent (goal.at.bounds-out-parent-in-loop-column c).In-loop-column

pub loop-column-preserved : goal.loop-column-preserved
loop-column-preserved c = let l = c.loop-column in
    let a = c.args in
    let e = c.ratio-ratio.ensures in
    ruled_next a.plan a.cells.now _ _ l.column _ _ a.out.now (λ j. a.row.at + l.column * e j) e l.invariant (parent (goal.at.loop-column-preserved c).In-loop-column)
    (parent_of _ _ _ _ _ c.requires.by_index.1 l.column c.loop-column-test.true) c.left_by_all.ensures
