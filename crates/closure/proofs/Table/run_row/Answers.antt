-- `run_row` meets its contract. The invariant: the cells passed are visited. Assumes nothing.
use mathlib.Core.Path.{refl}
use native.Mathlib.Omega.{arith}
use Rattle.grid.specs.Plan.{columns_at, cell_offset, CellInside}
use Rattle.closure.specs.Walk.{at}
use Rattle.closure.proofs.Becoming.{stays, steps}
use Rattle.closure.proofs.Sweeps.{sweep_none, sweep_more}
use Rattle.closure.proofs.Places.{Sited, sited}
use Rattle.closure.proofs.Table.run_row.Goals as goal
use Rattle.closure.proofs.Table.run_row.Goals.{In-loop-column}

pub loop-column-init : goal.loop-column-init
loop-column-init c = stays (sweep_none _ _ _)

-- the cell that is reached
reached : (c : In-loop-column) → let a = c.args in CellInside a.self.now.plan (at a.level a.row c.loop-column.column)
reached c = record { level< = omega (arith, c.requires.level_bound.0); row< = c.requires.level_bound.1; column< = omega arith }

site : (c : In-loop-column) → let a = c.args in Sited a.self.now.plan (at a.level a.row c.loop-column.column) (cell_offset a.self.now.plan a.level) (columns_at a.self.now.plan a.level)
site c = sited c.args.self.now.size (reached c) refl refl

pub overflow_add-first : goal.overflow_add-first
overflow_add-first c = omega (arith, (site (goal.at.overflow_add-first c).In-loop-column).at_fits, c.requires.first_value, c.args.self.now.size.small)

pub visit-requires-clause-cell_value : goal.visit-requires-clause-cell_value
visit-requires-clause-cell_value c = rw c.loop-column.invariant.plan (omega (arith, (site (goal.at.visit-requires-clause-cell_value c).In-loop-column).same, c.requires.first_value))

pub loop-column-preserved : goal.loop-column-preserved
loop-column-preserved c = let a = c.args in
    let l = c.loop-column in
    steps l.invariant c.visit.ensures (sweep_more _ 0 l.column _ (omega arith))
