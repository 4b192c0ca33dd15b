-- `cover::cover_on` meets its contract: the table of the level's functions is read for its cells. Assumes nothing.
use Prim.Native.Nat.{◌≤◌}
use native.Mathlib.Omega.{arith}
use lib.ListN.{length}
use Rattle.cover.proofs.Passes.{read_in, cover_pass}
use Rattle.cover.proofs.cover_on.Goals as goal
use Rattle.cover.proofs.cover_on.Goals.{After-cell_offset-here}

-- the level lies in the table
fits : (c : After-cell_offset-here) → c.cell_offset-here.result ≤ length c.args.out.now
fits c = let s = c in
    (read_in s.args.plan s.requires.in_range s.args.level s.requires.level_lt_levels s.args.values.now _ s.args.out.now c.across_at-across.ensures c.up_at-up.ensures c.cell_offset-here.ensures c.functions.ensures s.requires.values_len.1).1

pub slice_bounds-read_level-count : goal.slice_bounds-read_level-count
slice_bounds-read_level-count c = fits (goal.at.slice_bounds-read_level-count c).After-cell_offset-here

pub slice_bounds-read_level-start : goal.slice_bounds-read_level-start
slice_bounds-read_level-start c = omega (arith, fits (goal.at.slice_bounds-read_level-start c).After-cell_offset-here)

pub read_level-requires : goal.read_level-requires
read_level-requires c = let o = c in
    let s = o in
    (read_in s.args.plan s.requires.in_range s.args.level s.requires.level_lt_levels s.args.values.now _ s.args.out.now o.across_at-across.ensures o.up_at-up.ensures o.cell_offset-here.ensures o.functions.ensures s.requires.values_len.1).0

pub returns : goal.returns
returns c = let o = c in
    let s = o in
    cover_pass s.args.plan s.requires.in_range s.args.level s.requires.level_lt_levels s.args.values.now _ s.args.out.now _ o.across_at-across.ensures o.up_at-up.ensures o.cell_offset-here.ensures o.functions.ensures s.requires.values_len.1 c.read_level.ensures
