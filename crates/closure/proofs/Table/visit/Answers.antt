-- `visit` meets its contract, case by case. Assumes nothing.
use Prim.Native.Nat.{◌<◌}
use native.Mathlib.Omega.{arith}
use Rattle.grid.specs.Plan.{cell_total}
use Rattle.grid.proofs.Laws.{cell_number_lt}
use Rattle.closure.proofs.Becoming.{stays, same, steps}
use Rattle.closure.proofs.Model.{visit_refine, visit_refine_done, visit_refine_not, visit_activate, visit_activate_not, visit_close, visit_close_not}
use Rattle.closure.proofs.Table.visit.Goals as goal
use Rattle.closure.proofs.Table.visit.Goals.{Start}

-- the cell is in the tables
inside : (s : Start) → s.args.cell.0 < cell_total s.args.self.now.plan
inside s = rw s.requires.cell_value (cell_number_lt s.args.self.now.plan s.args.self.now.size.range s.args.place s.requires.cell_inside)

pub bounds-flags-c : goal.bounds-flags-c
bounds-flags-c c = omega (arith, inside (goal.at.bounds-flags-c c).Start, c.requires.flags_len.0)

pub bounds-flags-c-in-Activate : goal.bounds-flags-c-in-Activate
bounds-flags-c-in-Activate c = omega (arith, inside (goal.at.bounds-flags-c-in-Activate c).Start, c.requires.flags_len.0)

pub bounds-self-c-in-Close : goal.bounds-self-c-in-Close
bounds-self-c-in-Close c = omega (arith, inside (goal.at.bounds-self-c-in-Close c).Start, c.args.self.now.size.size)

pub returns-then-self-c-ne2 : goal.returns-then-self-c-ne2
returns-then-self-c-ne2 c =
    steps c.close_cell.ensures c.write_cell.ensures (visit_refine _ _ _ _ _ c.requires.cell_value c.in-Refine.is c.if-flags-c-eq1.true c.if-self-c-ne2.true)

pub returns-else-self-c-ne2 : goal.returns-else-self-c-ne2
returns-else-self-c-ne2 c = stays (visit_refine_done _ _ _ _ _ c.requires.cell_value c.in-Refine.is c.if-flags-c-eq1.true c.if-self-c-ne2.false)

pub returns-else-flags-c-eq1 : goal.returns-else-flags-c-eq1
returns-else-flags-c-eq1 c = stays (visit_refine_not _ _ _ _ _ c.requires.cell_value c.in-Refine.is c.if-flags-c-eq1.false)

pub returns-then-flags-c-eq1-2 : goal.returns-then-flags-c-eq1-2
returns-then-flags-c-eq1-2 c = same c.write_cell-then-flags-c-eq1-2.ensures (visit_activate _ _ _ _ _ c.requires.cell_value c.in-Activate.is c.if-flags-c-eq1-2.true)

pub returns-else-flags-c-eq1-2 : goal.returns-else-flags-c-eq1-2
returns-else-flags-c-eq1-2 c = stays (visit_activate_not _ _ _ _ _ c.requires.cell_value c.in-Activate.is c.if-flags-c-eq1-2.false)

pub returns-then-self-c-eq2 : goal.returns-then-self-c-eq2
returns-then-self-c-eq2 c = same c.close_cell-then-self-c-eq2.ensures (visit_close _ _ _ _ _ c.requires.cell_value c.in-Close.is c.if-self-c-eq2.true)

pub returns-else-self-c-eq2 : goal.returns-else-self-c-eq2
returns-else-self-c-eq2 c = stays (visit_close_not _ _ _ _ _ c.requires.cell_value c.in-Close.is c.if-self-c-eq2.false)
