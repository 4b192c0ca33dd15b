-- `windows::functions` meets its contract. Assumes nothing.
use mathlib.Core.Path.{◌≡◌, ap, ◌∙◌}
use Prim.Native.Nat.{◌-◌, ◌≤◌}
use native.Mathlib.Omega.{arith}
use lib.ListN.{length}
use Rattle.facts.proofs.Mapped.{filled_length}
use Rattle.facts.proofs.Ranges.{mid_len}
use Rattle.windows.specs.Windows.{RowsIn, LevelIn}
use Rattle.windows.proofs.Values.{values_in, value_table}
use Rattle.windows.proofs.functions.Goals as goal
use Rattle.windows.proofs.functions.Goals.{After-spread, After-struct_known-2-1}

-- the level lies in the tables
room : (c : After-struct_known-2-1) → let a = c.args in
    LevelIn (length a.scratch.now) (length a.out.now) c.function_columns_at-columns.result c.function_rows_at-rows.result a.plan.degree_across a.plan.degree_up
    × RowsIn (length a.values.now - c.function_offset-here.result) (length a.out.now) c.function_columns_at-columns.result c.function_rows_at-rows.result a.plan.degree_across
    × (c.function_offset-here.result ≤ length a.values.now)
room c = let s = c in
    values_in s.args.plan s.requires.in_range.0 s.args.values.now s.args.level s.requires.in_range.1 c.function_columns_at-columns.ensures c.function_rows_at-rows.ensures c.function_offset-here.ensures s.requires.in_range.2 s.requires.value_room.0 s.requires.value_room.1

pub slice_bounds-spread-count : goal.slice_bounds-spread-count
slice_bounds-spread-count c = (room (goal.at.slice_bounds-spread-count c).After-struct_known-2-1).2

pub slice_bounds-spread-start : goal.slice_bounds-spread-start
slice_bounds-spread-start c = omega (arith, (room (goal.at.slice_bounds-spread-start c).After-struct_known-2-1).2)

pub spread-requires : goal.spread-requires
spread-requires c = let o = c in rw (mid_len o.function_offset-here.result o.args.values.now) (room (goal.at.spread-requires c).After-struct_known-2-1).1

-- the rows are spread, and as many bytes are lent
spread_length : (c : After-spread) → length c.spread.new.out ≡ length c.args.out.now
spread_length c = ap length c.spread.ensures ∙ filled_length _ _ _ _

pub windows-requires : goal.windows-requires
windows-requires c = let o = c in rw (spread_length (goal.at.windows-requires c).After-spread) (room (goal.at.windows-requires c).After-struct_known-2-1).0

pub returns : goal.returns
returns c = let w = c in
    let o = w in
    let s = o in
    value_table s.args.plan s.requires.in_range.0 s.args.values.now s.args.level s.requires.in_range.1 _ s.args.out.now o.function_columns_at-columns.ensures o.function_rows_at-rows.ensures o.function_offset-here.ensures s.requires.value_room.1
    (w.windows.ensures _ _ w.spread.ensures)
