-- `admissible::level_admissible` meets its contract. The invariant: whether the rows so far pass. Assumes nothing.
use mathlib.Core.Path.{refl}
use native.Mathlib.Omega.{arith}
use Rattle.grid.specs.Plan.{columns_at, cell_offset}
use Rattle.admissible.specs.Admissible.{cell_admissible}
use Rattle.facts.proofs.Rows.{from_zero, rows_join}
use Rattle.admissible.proofs.level_admissible.Goals as goal

pub loop-row-init : goal.loop-row-init
loop-row-init c = (omega (arith, c.cell_offset-at.ensures), from_zero _ _ _ (omega arith))

pub loop-row-preserved : goal.loop-row-preserved
loop-row-preserved c = let a = c.args in
    let p = a.plan in
    let l = c.loop-row in
    (omega (arith, l.invariant.0, c.columns_at-columns.ensures), rows_join (cell_offset p a.level) (cell_admissible p a.cells.now) (columns_at p a.level) l.row l.at l.invariant.0 refl l.invariant.1 c.row_admissible-ok.ensures)
