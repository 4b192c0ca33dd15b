-- `nesting::is_mesh` meets its contract. The invariant: the levels so far fit. Assumes nothing.
use mathlib.Core.Path.{◌≡◌, ◌∙◌}
use Prim.Native.Nat.{◌+◌}
use native.Mathlib.Omega.{arith}
use Rattle.facts.proofs.Ranges.{every_from_lem}
use Rattle.grid.specs.Plan.{columns_at, rows_at}
use Rattle.nesting.specs.Nested.{nested}
use Rattle.grid.proofs.Levels.{levels_join}
use Rattle.nesting.proofs.Nested.{mesh_is}
use Rattle.nesting.proofs.is_mesh.Goals as goal

pub loop-level-preserved : goal.loop-level-preserved
loop-level-preserved c = let a = c.args in
    levels_join (columns_at a.plan) (rows_at a.plan) (nested a.plan a.cells.now) _ c.loop-level.invariant c.next_level_fits-ok.ensures

pub returns : goal.returns
returns c = let a = c.args in
    let q : c.loop-level.level + 1 ≡ a.plan.levels = omega (arith, c.requires.range.levels≥) in
    (rw q at c.loop-level.invariant) ∙ (every_from_lem _ _ ∙ mesh_is a.plan c.requires.range a.cells.now)
