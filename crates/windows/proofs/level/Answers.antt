-- `windows::level` meets its contract: each cell is at the place of its first functions. Assumes nothing.
use mathlib.Core.Path.{◌≡◌, refl, ap, ◌∙◌}
use Prim.Native.Nat.{◌-◌, ◌≤◌}
use native.Mathlib.Omega.{arith}
use lib.ListN.{length}
use Rattle.facts.proofs.Ranges.{mid_len}
use Rattle.facts.proofs.Mapped.{filled_length, filled_same}
use Rattle.grid.specs.Plan.{across_at, up_at}
use Rattle.grid.specs.Side.{firsts}
use Rattle.grid.proofs.Sides.{across_in, up_in}
use Rattle.windows.specs.Level.{PlaceIn}
use Rattle.windows.proofs.Levels.{place_in, level_in, level_least_lem}
use Rattle.windows.proofs.level.Goals as goal
use Rattle.windows.proofs.level.Goals.{After-cell_offset-here, After-firsts-2, After-place}

-- the level lies in the tables
room : (c : After-cell_offset-here) → let a = c.args in
    PlaceIn c.across_at-columns.result c.up_at-rows.result 1 c.up_at-rows.result.cells (length a.cells.now - c.cell_offset-here.result) (length a.out.now) a.across × (c.cell_offset-here.result ≤ length a.cells.now)
room c = let s = c in
    let p = s.requires in
    rw (c.across_at-columns.ensures, c.up_at-rows.ensures) (place_in s.args.plan p.range s.args.cells.now s.args.level p.level< s.args.across s.args.up c.cell_offset-here.ensures p.cells≤ p.out≤)

pub slice_bounds-place-count : goal.slice_bounds-place-count
slice_bounds-place-count c = (room (goal.at.slice_bounds-place-count c).After-cell_offset-here).1

pub slice_bounds-place-start : goal.slice_bounds-place-start
slice_bounds-place-start c = omega (arith, (room (goal.at.slice_bounds-place-start c).After-cell_offset-here).1)

pub place-requires : goal.place-requires
place-requires c = let o = c in rw (mid_len o.cell_offset-here.result o.args.cells.now) (room (goal.at.place-requires c).After-cell_offset-here).0

pub firsts-requires : goal.firsts-requires
firsts-requires c = let s = c in rw c.across_at-columns.ensures (across_in s.args.plan s.requires.range s.args.level s.requires.level<)

pub firsts-requires-2 : goal.firsts-requires-2
firsts-requires-2 c = let s = c in rw c.up_at-rows.ensures (up_in s.args.plan s.requires.range s.args.level s.requires.level<)

-- the cells are placed, and as many bytes are lent
placed_length : (c : After-place) → length c.place.new.out ≡ length c.args.out.now
placed_length c = ap length c.place.ensures ∙ filled_length _ _ _ _

-- how many places there are
columns : (c : After-firsts-2) → let a = c.args in c.firsts.result ≡ firsts (across_at a.plan a.level)
columns c = c.firsts.ensures ∙ ap firsts c.across_at-columns.ensures

rows : (c : After-firsts-2) → let a = c.args in c.firsts-2.result ≡ firsts (up_at a.plan a.level)
rows c = c.firsts-2.ensures ∙ ap firsts c.up_at-rows.ensures

pub windows-requires : goal.windows-requires
windows-requires c = let s = c in
    let a = s.args in
    rw (placed_length (goal.at.windows-requires c).After-place, columns (goal.at.windows-requires c).After-firsts-2, rows (goal.at.windows-requires c).After-firsts-2) (level_in a.plan s.requires.range a.cells.now a.level s.requires.level< a.across a.up s.requires)

pub returns : goal.returns
returns c = let w = c in
    let f = w in
    let o = f in
    let s = o in
    let a = s.args in
    let spread = rw (o.across_at-columns.ensures, o.up_at-rows.ensures) at f.place.ensures in
    rw (columns (goal.at.returns c).After-firsts-2, rows (goal.at.returns c).After-firsts-2) at w.windows.ensures _ _ spread
    ∙ filled_same 0 _ _ _ _ (λ t u v. level_least_lem a.plan s.requires.range a.cells.now a.level s.requires.level< a.across a.up refl refl o.cell_offset-here.ensures t)
