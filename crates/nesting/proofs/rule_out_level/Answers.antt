-- `nesting::rule_out_level` meets its contract. The invariant: the rows so far have ruled out their parents. Assumes nothing.
use native.Mathlib.Omega.{arith}
use Rattle.nesting.proofs.Rows.{row_width}
use Rattle.nesting.proofs.Reactivable.{ruled_none, ruled_rows}
use Rattle.nesting.proofs.rule_out_level.Goals as goal

pub loop-row-init : goal.loop-row-init
loop-row-init c = ruled_none _ _ _ _ _ (omega arith)

pub loop-row-preserved : goal.loop-row-preserved
loop-row-preserved c = let below = c.of-below.ensures in
    ruled_rows _ _ _ _ c.loop-row.row _ _ (rw below.1 at c.row.ensures.at_value) (rw below.1 at (row_width _ _ _ _ _ c.row.ensures.under)) c.loop-row.invariant c.rule_out_row.ensures
