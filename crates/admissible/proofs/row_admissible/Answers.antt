-- `admissible::row_admissible` meets its contract. The invariant: whether the cells so far pass. Assumes nothing.
use mathlib.Core.Bool.{◌&&◌}
use mathlib.Core.Path.{◌≡◌, refl, sym, ap, ◌∙◌}
use Prim.Native.Nat.{◌+◌, ◌<◌}
use native.Mathlib.Omega.{arith}
use lib.ListN.{length}
use Rattle.facts.proofs.Ranges.{from_none}
use Rattle.grid.specs.Numbering.{number}
use Rattle.grid.specs.Plan.{cell_number, CellInside}
use Rattle.grid.proofs.Laws.{cell_number_lt}
use Rattle.facts.proofs.Rows.{from_next}
use Rattle.windows.specs.Near.{least_near}
use Rattle.admissible.specs.Admissible.{cell_admissible}
use Rattle.admissible.proofs.Cells.{cell_read}
use Rattle.admissible.proofs.row_admissible.Goals as goal
use Rattle.admissible.proofs.row_admissible.Goals.{In-loop-column}

pub loop-column-init : goal.loop-column-init
loop-column-init c = sym (from_none _ _)

-- the cell that is read
place : (c : In-loop-column) → let a = c.args in CellInside a.plan (record { level = a.level; row = a.row; column = c.loop-column.column })
place c = let q = c.requires.level_bound in record { level< = omega (arith, q.0); row< = q.1; column< = omega (arith, c.columns_at-columns.ensures) }

number_is : (c : In-loop-column) → let a = c.args in cell_number a.plan (record { level = a.level; row = a.row; column = c.loop-column.column }) ≡ a.at + c.loop-column.column
unfolding number
number_is c = omega (arith, c.requires.at_value)

fits : (c : In-loop-column) → c.args.at + c.loop-column.column < length c.args.cells.now
fits c = let t = c.requires.mesh_table.sized in rw (← number_is c, t.size) (cell_number_lt c.args.plan t.range _ (place c))

pub overflow_add-n : goal.overflow_add-n
overflow_add-n c = omega (arith, fits (goal.at.overflow_add-n c).In-loop-column)

pub bounds-cells-n : goal.bounds-cells-n
bounds-cells-n c = fits (goal.at.bounds-cells-n c).In-loop-column

pub loop-column-preserved : goal.loop-column-preserved
loop-column-preserved c = let a = c.args in
    let l = c.loop-column in
    let i = (goal.at.loop-column-preserved c).In-loop-column in
    let e = c.least_near-least.ensures ∙ (c.requires.near_room.1.made _ (place i) refl ∙ ap (least_near a.plan a.cells.now) (number_is i)) in
    (λ j. l.invariant j && cell_read a.plan a.cells.now c.requires.mesh_table (a.at + l.column) _ e j) ∙ from_next a.at (cell_admissible a.plan a.cells.now) l.column
