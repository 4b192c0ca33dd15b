-- `run_level` meets its contract. The invariant: the rows passed are visited, and the number of the next. Assumes nothing.
use mathlib.Core.Path.{◌≡◌, refl}
use native.Mathlib.Omega.{arith}
use Rattle.grid.specs.Plan.{columns_at, rows_at}
use Rattle.grid.proofs.Levels.{row_within}
use Rattle.closure.specs.Walk.{over}
use Rattle.closure.proofs.Becoming.{stays, same, steps}
use Rattle.closure.proofs.Sweeps.{sweep_none, sweep_more}
use Rattle.closure.proofs.Table.run_level.Goals as goal

pub loop-row-init : goal.loop-row-init
loop-row-init c = (omega (arith, c.cell_offset-first.ensures), stays (sweep_none _ _ _))

pub overflow_add-first : goal.overflow_add-first
overflow_add-first c = let p = c.args.self.now.plan in
    let l = c.loop-row in
    omega (arith, l.invariant.0, c.columns_at-columns.ensures, c.args.self.now.size.small, row_within (columns_at p) (rows_at p) c.args.level p.levels l.row (omega arith) (omega (arith, c.rows_at-rows.ensures)))

pub loop-row-preserved : goal.loop-row-preserved
loop-row-preserved c = let a = c.args in
    let l = c.loop-row in
    (omega (arith, l.invariant.0, c.columns_at-columns.ensures), steps l.invariant.1 c.run_row.ensures (sweep_more _ 0 l.row _ (omega arith)))

pub returns : goal.returns
unfolding over
returns c = let a = c.args in
    let e : c.loop-row.row ≡ rows_at a.self.now.plan a.level = omega (arith, c.rows_at-rows.ensures) in
    same c.loop-row.invariant.1 (rw e refl)
