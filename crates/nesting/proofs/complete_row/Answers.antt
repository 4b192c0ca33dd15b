-- `nesting::complete_row` meets its contract. The invariant: the children of the cells so far have their bytes. Assumes nothing.
use Prim.Native.Nat.{◌+◌, ◌*◌, ◌≤◌, ◌<◌}
use native.Mathlib.Omega.{arith}
use lib.ListN.{length}
use Rattle.nesting.proofs.Rows.{parent_in, children_in}
use Rattle.nesting.proofs.Completed.{filled_zero, children_next}
use Rattle.nesting.proofs.complete_row.Goals as goal
use Rattle.nesting.proofs.complete_row.Goals.{In-loop-column}

pub loop-column-init : goal.loop-column-init
loop-column-init c = filled_zero _ _ _ _ (omega arith)

-- the cell and its children lie in the table
parent : (c : In-loop-column) → c.args.row.over + c.loop-column.column < length c.loop-column.cells
parent c = omega (arith, parent_in _ _ _ _ _ c.requires.by_index.1 c.loop-column.column c.loop-column-test.true, c.requires.cells_len)

children : (c : In-loop-column) → c.args.row.at + c.loop-column.column * c.ratio-ratio.result + c.ratio-ratio.result ≤ length c.loop-column.cells
children c = rw (c.ratio-ratio.ensures, c.loop-column.auto.cells, c.requires.cells_len) (children_in _ _ _ _ _ c.requires.by_index.1 c.loop-column.column c.loop-column-test.true)

pub overflow_add-present : goal.overflow_add-present
overflow_add-present c = omega (arith, parent (goal.at.overflow_add-present c).In-loop-column)

pub bounds-cells-row : goal.bounds-cells-row
bounds-cells-row c = parent (goal.at.bounds-cells-row c).In-loop-column

pub overflow_mul-column : goal.overflow_mul-column
overflow_mul-column c = omega (arith, children (goal.at.overflow_mul-column c).In-loop-column)

pub overflow_add-row : goal.overflow_add-row
overflow_add-row c = omega (arith, children (goal.at.overflow_add-row c).In-loop-column)

pub complete_cells-requires : goal.complete_cells-requires
complete_cells-requires c = children (goal.at.complete_cells-requires c).In-loop-column

pub loop-column-preserved : goal.loop-column-preserved
loop-column-preserved c = let l = c.loop-column in
    let e = c.ratio-ratio.ensures in
    children_next _ _ _ _ _ c.requires.by_index.1 l.column c.loop-column-test.true c.args.cells.now (λ j. c.args.row.at + l.column * e j) e l.invariant c.complete_cells.ensures
