-- `write_cell` meets its contract. Assumes nothing.
use mathlib.Core.Path.{◌≡◌, refl, ◌∙◌}
use Prim.Native.Nat.{◌-◌, ◌≤◌}
use native.Mathlib.Omega.{arith}
use lib.ListN.{length, set, length-set}
use Rattle.facts.proofs.Ranges.{mid_len}
use Rattle.grid.specs.Plan.{cell_total}
use Rattle.grid.proofs.Laws.{cell_number_lt}
use Rattle.grid.proofs.Rectangles.{RectangleIn, children_in}
use Rattle.closure.specs.Walk.{Block}
use Rattle.closure.proofs.Writing.{block_in, offset_in, cell_written}
use Rattle.closure.proofs.Table.write_cell.Goals as goal
use Rattle.closure.proofs.Table.write_cell.Goals.{After-children-children, After-columns_at-width}

pub bounds-self-number : goal.bounds-self-number
bounds-self-number c = let s = c in
    omega (arith, cell_number_lt s.args.self.now.plan s.args.self.now.size.range s.args.place s.requires.cell_inside, s.args.self.now.size.size, s.requires.cell_value)

-- the children are cells
family : (c : After-children-children) → RectangleIn c.args.self.now.plan c.children-children.result
family c = let s = c in rw c.children-children.ensures (children_in s.args.self.now.plan s.args.place s.requires.level_bound s.requires.cell_inside)

pub cell_offset-offset-requires : goal.cell_offset-offset-requires
cell_offset-offset-requires c = record { in_range = c.args.self.now.size.range; level_le_levels = omega (arith, (family (goal.at.cell_offset-offset-requires c).After-children-children).level<) }

pub columns_at-width-requires : goal.columns_at-width-requires
columns_at-width-requires c = record { in_range = c.args.self.now.size.range; level_lt_levels = (family (goal.at.columns_at-width-requires c).After-children-children).level< }

family_1 : (c : After-columns_at-width) → RectangleIn c.args.self.now.plan c.children-children.result
family_1 c = let s = c in rw c.children-children.ensures (children_in s.args.self.now.plan s.args.place s.requires.level_bound s.requires.cell_inside)

-- and lie in their level's part
part : (c : After-columns_at-width) → let a = c.args in let t = set a.self.now.cells.now a.cell.0 a.value in
    Block c.children-children.result c.columns_at-width.result (length t - c.cell_offset-offset.result) × (c.cell_offset-offset.result ≤ length t)
part c = let s = c in
    let a = s.args in
    let t = set a.self.now.cells.now a.cell.0 a.value in
    let e : length t ≡ cell_total a.self.now.plan = length-set a.self.now.cells.now a.cell.0 a.value ∙ s.args.self.now.size.size in
    rw (c.cell_offset-offset.ensures, c.columns_at-width.ensures) (block_in a.self.now.plan s.args.self.now.size.range _ (family_1 c) t e, offset_in a.self.now.plan s.args.self.now.size.range _ (family_1 c) t e)

pub slice_bounds-fill_cells-count : goal.slice_bounds-fill_cells-count
slice_bounds-fill_cells-count c = omega (arith, (part (goal.at.slice_bounds-fill_cells-count c).After-columns_at-width).1)

pub slice_bounds-fill_cells-start : goal.slice_bounds-fill_cells-start
slice_bounds-fill_cells-start c = omega (arith, (part (goal.at.slice_bounds-fill_cells-start c).After-columns_at-width).1)

pub fill_cells-requires : goal.fill_cells-requires
fill_cells-requires c = let a = c.args in
    rw (mid_len c.cell_offset-offset.result (set a.self.now.cells.now a.cell.0 a.value)) (part (goal.at.fill_cells-requires c).After-columns_at-width).0

pub returns : goal.returns
returns c = let a = c.args in
    let t = a.self.now in
    let e = cell_written t.plan t.size.range a.place _ (family (goal.at.returns c).After-children-children) t.cells.now t.size.size _ _ a.cell.0 a.value _ c.children-children.ensures c.cell_offset-offset.ensures c.columns_at-width.ensures c.requires.cell_value c.fill_cells.ensures in
    record { plan = refl; place = refl; cells = e }
