-- `admissible::levels_admissible` meets its contract. The invariant: whether the levels so far pass. Assumes nothing.
use mathlib.Core.Path.{sym, ◌∙◌}
use native.Mathlib.Omega.{arith}
use Rattle.grid.specs.Plan.{columns_at, rows_at}
use Rattle.grid.proofs.Levels.{levels_none, levels_join}
use Rattle.admissible.specs.Admissible.{cell_admissible}
use Rattle.admissible.proofs.Cells.{levels_passed}
use Rattle.admissible.proofs.levels_admissible.Goals as goal

pub loop-level-init : goal.loop-level-init
loop-level-init c = let a = c.args in sym (levels_none (columns_at a.plan) (rows_at a.plan) (cell_admissible a.plan a.cells.now))

pub loop-level-preserved : goal.loop-level-preserved
loop-level-preserved c = let a = c.args in
    let l = c.loop-level in
    levels_join (columns_at a.plan) (rows_at a.plan) (cell_admissible a.plan a.cells.now) l.level l.invariant c.level_admissible-ok.ensures

pub returns : goal.returns
returns c = let a = c.args in
    let l = c.loop-level in
    l.invariant ∙ levels_passed a.plan a.cells.now c.requires.mesh_table l.level (omega (arith, c.requires.mesh_table.sized.range.levels≥))
