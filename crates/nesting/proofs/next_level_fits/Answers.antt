-- `nesting::next_level_fits` meets its contract. The invariant: the rows so far fit. Assumes nothing.
use native.Mathlib.Omega.{arith}
use Rattle.facts.proofs.Rows.{from_zero, rows_join}
use Rattle.nesting.proofs.Rows.{row_width}
use Rattle.nesting.proofs.next_level_fits.Goals as goal

pub loop-row-init : goal.loop-row-init
loop-row-init c = from_zero _ _ _ (omega arith)

pub loop-row-preserved : goal.loop-row-preserved
loop-row-preserved c = let below = c.of-below.ensures in
    rows_join _ _ _ c.loop-row.row _ (rw below.1 at c.row.ensures.at_value) (rw below.1 at (row_width _ _ _ _ _ c.row.ensures.under)) c.loop-row.invariant c.row_fits-ok.ensures
