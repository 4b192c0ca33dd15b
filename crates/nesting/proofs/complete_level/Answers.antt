-- `nesting::complete_level` meets its contract. The invariant: the rows so far have their bytes. Assumes nothing.
use native.Mathlib.Omega.{arith}
use Rattle.nesting.proofs.Rows.{row_width}
use Rattle.nesting.proofs.Completed.{filled_zero, rows_next}
use Rattle.nesting.proofs.complete_level.Goals as goal

pub loop-row-init : goal.loop-row-init
loop-row-init c = filled_zero _ _ _ _ (omega arith)

pub loop-row-preserved : goal.loop-row-preserved
loop-row-preserved c = let below = c.of-below.ensures in
    rows_next _ c.args.cells.now _ _ c.loop-row.row _ (rw below.1 at c.row.ensures.at_value) (rw below.1 at (row_width _ _ _ _ _ c.row.ensures.under)) c.loop-row.invariant c.complete_row.ensures
