-- `nesting::complete` meets its contract. The invariant: the levels so far have their bytes. Assumes nothing.
use mathlib.Core.Path.{◌≡◌}
use Prim.Native.Nat.{◌+◌}
use native.Mathlib.Omega.{arith}
use Rattle.grid.specs.Plan.{columns_at, rows_at}
use Rattle.grid.proofs.Levels.{offset_mono}
use Rattle.nesting.proofs.Completed.{filled_zero, levels_next, all_completed}
use Rattle.nesting.proofs.complete.Goals as goal

pub complete_cells-requires : goal.complete_cells-requires
complete_cells-requires c = let p = c.args.plan in
    omega (arith, c.requires.size, c.cell_offset-end.ensures, offset_mono (columns_at p) (rows_at p) 1 p.levels c.requires.range.levels≥)

pub loop-level-init : goal.loop-level-init
loop-level-init c = filled_zero _ _ _ _ (omega arith)

pub loop-level-preserved : goal.loop-level-preserved
loop-level-preserved c = levels_next _ _ c.loop-level.level c.loop-level.invariant c.complete_level.ensures

pub returns : goal.returns
returns c = let a = c.args in
    let q : c.loop-level.level + 1 ≡ a.plan.levels = omega (arith, c.requires.range.levels≥) in
    all_completed a.plan c.requires.range a.cells.now c.requires.size c.cell_offset-end.ensures c.complete_cells.ensures (rw q at c.loop-level.invariant)
