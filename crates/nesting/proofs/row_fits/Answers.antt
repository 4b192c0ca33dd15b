-- `nesting::row_fits` meets its contract. The invariant: the children of the cells so far fit. Assumes nothing.
use Prim.Native.Nat.{◌+◌, ◌*◌, ◌≤◌, ◌<◌}
use native.Mathlib.Omega.{arith}
use lib.ListN.{length}
use Rattle.facts.proofs.Rows.{from_zero}
use Rattle.nesting.proofs.Rows.{parent_in, children_in, row_more}
use Rattle.nesting.proofs.row_fits.Goals as goal
use Rattle.nesting.proofs.row_fits.Goals.{In-loop-column}

pub loop-column-init : goal.loop-column-init
loop-column-init c = from_zero _ _ _ (omega arith)

-- the cell and its children lie in the table
parent : (c : In-loop-column) → c.args.row.over + c.loop-column.column < length c.args.cells.now
parent c = rw c.requires.cells_len (parent_in _ _ _ _ _ c.requires.row_under c.loop-column.column c.loop-column-test.true)

children : (c : In-loop-column) → c.args.row.at + c.loop-column.column * c.ratio-ratio.result + c.ratio-ratio.result ≤ length c.args.cells.now
children c = rw (c.ratio-ratio.ensures, c.requires.cells_len) (children_in _ _ _ _ _ c.requires.row_under c.loop-column.column c.loop-column-test.true)

pub overflow_add-present : goal.overflow_add-present
overflow_add-present c = omega (arith, parent (goal.at.overflow_add-present c).In-loop-column)

pub bounds-cells-row : goal.bounds-cells-row
bounds-cells-row c = parent (goal.at.bounds-cells-row c).In-loop-column

pub overflow_mul-column : goal.overflow_mul-column
overflow_mul-column c = omega (arith, children (goal.at.overflow_mul-column c).In-loop-column)

pub overflow_add-row : goal.overflow_add-row
overflow_add-row c = omega (arith, children (goal.at.overflow_add-row c).In-loop-column)

pub all_fit-ok-requires : goal.all_fit-ok-requires
all_fit-ok-requires c = children (goal.at.all_fit-ok-requires c).In-loop-column

pub loop-column-preserved : goal.loop-column-preserved
loop-column-preserved c = let l = c.loop-column in
    let e = c.ratio-ratio.ensures in
    row_more _ _ _ _ _ c.requires.row_under l.column c.loop-column-test.true c.args.cells.now (λ j. c.args.row.at + l.column * e j) e c.most_at-most.ensures l.invariant c.all_fit-ok.ensures
