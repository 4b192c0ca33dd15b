-- `fill_cells` meets its contract. The invariant: the rows passed have the byte. Assumes nothing.
use Prim.Native.Nat.{◌+◌, ◌-◌, ◌*◌, ◌≤◌}
use native.Mathlib.Omega.{arith}
use lib.ListN.{length}
use Rattle.facts.proofs.Rows.{row_ends}
use Rattle.closure.proofs.Writing.{block_none, block_more}
use Rattle.closure.proofs.fill_cells.Goals as goal
use Rattle.closure.proofs.fill_cells.Goals.{In-loop-row}

pub loop-row-init : goal.loop-row-init
loop-row-init c = block_none _ _ _ _ _

-- the row lies in the part, and its columns in the row
record Fits (c : In-loop-row) : Type 0 where
  pub row : c.loop-row.row * c.args.width + c.args.width ≤ length c.loop-row.part
  pub columns : c.args.r.columns.first + (c.args.r.columns.end - c.args.r.columns.first) ≤ c.args.width

fits : (c : In-loop-row) → Fits c
fits c = record {
  row = omega (arith, row_ends c.loop-row.row c.args.r.rows.end c.args.width c.loop-row-test.true, c.requires.tall);
  columns = omega (arith, c.requires.columns≤, c.requires.wide);
}

pub loop-row-preserved : goal.loop-row-preserved
loop-row-preserved c =
    let a = c.args in
    let r = a.r in
    let l = c.loop-row in
    let f = fits (goal.at.loop-row-preserved c).In-loop-row in
    block_more r.rows.first l.row r.columns.first (r.columns.end - r.columns.first) a.width l.auto.row f.columns a.value a.part.now l.part _ l.invariant (omega (arith, f.row, f.columns)) c.fill.ensures
