-- `labels::write_level` meets its contract: the windows of the level are the supports. Assumes nothing.
use native.Mathlib.Omega.{arith}
use Prim.Native.Nat.{◌-◌, ◌≤◌}
use lib.ListN.{length}
use Rattle.facts.proofs.Ranges.{mid_len}
use Rattle.windows.specs.Level.{LevelRoom}
use Rattle.labels.proofs.SupportLaws.{level_room, level_written}
use Rattle.labels.proofs.write_level.Goals as goal
use Rattle.labels.proofs.write_level.Goals.{After-function_offset-offset}

-- the level lies in the tables
room : (c : After-function_offset-offset) → let a = c.args in
    LevelRoom a.plan a.level (length a.cells.now) (length a.scratch.now) (length a.out.now - c.function_offset-offset.result) a.plan.degree_across a.plan.degree_up
    × (c.function_offset-offset.result ≤ length a.out.now)
room c = let s = c in
    level_room s.args.plan s.args.cells.now s.requires.mesh_table s.args.level s.requires.level_lt_levels s.args.out.now s.args.scratch.now c.function_offset-offset.ensures s.requires.out_len.0 s.requires.out_len.1

pub slice_bounds-level-count : goal.slice_bounds-level-count
slice_bounds-level-count c = (room (goal.at.slice_bounds-level-count c).After-function_offset-offset).1

pub slice_bounds-level-start : goal.slice_bounds-level-start
slice_bounds-level-start c = omega (arith, (room (goal.at.slice_bounds-level-start c).After-function_offset-offset).1)

pub level-requires : goal.level-requires
level-requires c = let o = c in rw (mid_len o.function_offset-offset.result o.args.out.now) (room (goal.at.level-requires c).After-function_offset-offset).0

pub returns : goal.returns
returns c = let o = c in
    let s = o in
    level_written s.args.plan s.args.cells.now s.requires.mesh_table s.args.level s.requires.level_lt_levels s.args.out.now _ o.function_offset-offset.ensures s.requires.out_len.0 c.level.ensures
