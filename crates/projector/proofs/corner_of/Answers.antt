-- `corner_of` meets its contract: the cell's lines, counted in last-level cells, and the height there. Assumes nothing.
-- the lines are the mesh's
use Prim.Native.Nat.{◌≤◌}
use native.Mathlib.Omega.{arith}
use Rattle.projector.proofs.Places.{OnLines, on_lines, on_mesh_lem, corner_is}
use Rattle.projector.proofs.corner_of.Goals as goal
use Rattle.projector.proofs.corner_of.Goals.{After-line_at-up, After-shared_slice_known-1}

lines : (c : After-shared_slice_known-1) → OnLines c.args.plan c.args.place c.args.right c.args.upper
lines c = on_lines c.args.plan c.args.place c.requires.ready.range c.requires.cell_inside c.requires.right_bound.0 c.requires.right_bound.1

pub overflow_add-column : goal.overflow_add-column
overflow_add-column c = omega (arith, (lines (goal.at.overflow_add-column c).After-shared_slice_known-1).column≤)

pub overflow_add-row : goal.overflow_add-row
overflow_add-row c = omega (arith, (lines (goal.at.overflow_add-row c).After-shared_slice_known-1).row≤)

pub line_at-across-requires : goal.line_at-across-requires
line_at-across-requires c = let s = c in record { in_range = s.requires.ready.range; level_lt_levels = s.requires.cell_inside.level<; x_bound = (lines (goal.at.line_at-across-requires c).After-shared_slice_known-1).column≤ }

pub line_at-up-requires : goal.line_at-up-requires
line_at-up-requires c = let s = c in record { in_range = s.requires.ready.range; level_lt_levels = s.requires.cell_inside.level<; x_bound = (lines (goal.at.line_at-up-requires c).After-shared_slice_known-1).row≤ }

lines_1 : (c : After-line_at-up) → OnLines c.args.plan c.args.place c.args.right c.args.upper
lines_1 c = on_lines c.args.plan c.args.place c.requires.ready.range c.requires.cell_inside c.requires.right_bound.0 c.requires.right_bound.1

-- both lines are small
on_small : (c : After-line_at-up) → (c.line_at-across.result ≤ 2048) × (c.line_at-up.result ≤ 2048)
on_small c = let o = lines_1 c in
    (omega (arith, c.line_at-across.ensures, o.across≤), omega (arith, c.line_at-up.ensures, o.up≤))

pub overflow_mul-across : goal.overflow_mul-across
overflow_mul-across c = omega (arith, on_small (goal.at.overflow_mul-across c).After-line_at-up)

pub overflow_mul-up : goal.overflow_mul-up
overflow_mul-up c = omega (arith, on_small (goal.at.overflow_mul-up c).After-line_at-up)

pub height_at-height-requires : goal.height_at-height-requires
height_at-height-requires c = let s = c in
    s.requires.ready.surface _ _ (on_mesh_lem (lines (goal.at.height_at-height-requires c).After-shared_slice_known-1) (omega (arith, c.line_at-across.ensures)) (omega (arith, c.line_at-up.ensures)))

pub returns : goal.returns
returns c = let s = c in
    rw (c.from.ensures, c.from-2.ensures)
    (corner_is s.args.plan s.args.functions.now s.args.heights.now s.args.place s.args.right s.args.upper (lines (goal.at.returns c).After-shared_slice_known-1) c.line_at-across.ensures c.line_at-up.ensures c.height_at-height.ensures)
