-- `nesting::reactivable_cells` meets its contract. The invariant: the levels so far have ruled out their parents. Assumes nothing.
use mathlib.Core.Path.{◌≡◌, sym, ap, ◌∙◌}
use Prim.Native.Nat.{◌+◌, ◌-◌, ◌≤◌}
use native.Mathlib.Omega.{arith}
use lib.ListN.{length}
use Rattle.facts.specs.Numbers.{tabulate}
use Rattle.facts.proofs.Mapped.{filled_length}
use Rattle.grid.specs.Plan.{columns_at, rows_at, cell_total}
use Rattle.nesting.specs.Reactivable.{inner_byte}
use Rattle.grid.proofs.Levels.{offset_mono}
use Rattle.nesting.proofs.Reactivable.{inner_bytes, ruled_none, ruled_levels, all_ruled}
use Rattle.nesting.proofs.reactivable_cells.Goals as goal
use Rattle.nesting.proofs.reactivable_cells.Goals.{After-cell_offset-end}

-- the last level begins in the table
end_in : (c : After-cell_offset-end) → c.cell_offset-end.result ≤ cell_total c.args.plan
end_in c = let p = c.args.plan in
    omega (arith, c.cell_offset-end.ensures, offset_mono (columns_at p) (rows_at p) (p.levels - 1) p.levels (omega arith))

pub refined_cells-requires : goal.refined_cells-requires
refined_cells-requires c = let e = end_in (goal.at.refined_cells-requires c).After-cell_offset-end in (omega arith, omega (arith, c.requires.cells_len.0), omega (arith, c.requires.cells_len.1))

pub refined_cells-requires-2 : goal.refined_cells-requires-2
refined_cells-requires-2 c = let e = end_in (goal.at.refined_cells-requires-2 c).After-cell_offset-end in
    let n = ap length c.refined_cells.ensures ∙ filled_length _ _ _ _ in
    (omega (arith, c.requires.cells_len.0), omega arith, omega (arith, n, c.requires.cells_len))

pub loop-level-init : goal.loop-level-init
loop-level-init c = let size = c.requires.cells_len.0 in
    let made = inner_bytes c.args.cells.now _ _ c.args.out.now (omega (arith, end_in (goal.at.loop-level-init c).After-cell_offset-end, size)) (c.requires.cells_len.1 ∙ sym size) c.refined_cells.ensures c.refined_cells-2.ensures in
    let start = made ∙ (λ i. tabulate (size i) (inner_byte c.args.cells.now (c.cell_offset-end.ensures i))) in
    start ∙ ruled_none _ _ _ _ _ (omega arith)

pub loop-level-preserved : goal.loop-level-preserved
loop-level-preserved c = ruled_levels _ _ c.loop-level.level _ c.loop-level.invariant c.rule_out_level.ensures

pub returns : goal.returns
returns c = let p = c.args.plan in
    let q : c.loop-level.level + 1 ≡ p.levels = omega (arith, c.requires.in_range) in
    all_ruled p c.requires.in_range c.args.cells.now _ (rw q at c.loop-level.invariant)
