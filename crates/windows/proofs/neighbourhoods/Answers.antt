-- `windows::neighbourhoods` meets its contract: the windows over the rows of the neighbourhoods' level are its table. Assumes nothing.
use mathlib.Core.Path.{◌≡◌, refl, sym, ap, subst, ◌∙◌}
use Prim.Native.Nat.{ℕ, ◌-◌, ◌*◌, ◌≤◌, ◌<◌}
use native.Mathlib.Nat.{mul-le-mul}
use native.Mathlib.Omega.{arith}
use lib.Dec.{T}
use lib.ListN.{length}
use Rattle.facts.proofs.Tests.{true_T}
use Rattle.facts.proofs.Mapped.{filled_same, filled_length}
use Rattle.facts.proofs.Ranges.{mid_len}
use Rattle.grid.specs.Plan.{ratio, columns_at, rows_at, across_at, up_at}
use Rattle.grid.specs.Range.{HasNeighbourhood}
use Rattle.grid.specs.Side.{firsts}
use Rattle.grid.specs.Spans.{ancestor_level}
use Rattle.grid.proofs.Laws.{ratio_pos}
use Rattle.grid.proofs.Sides.{across_in, up_in}
use Rattle.windows.specs.Near.{RepeatIn, has_near}
use Rattle.windows.proofs.OneUp.{repeat_in, near_windows}
use Rattle.windows.proofs.Near.{has_fact, fine_level, near_repeat_in, near_place_in, near_level_in, near_table, near_table_none}
use Rattle.windows.proofs.neighbourhoods.Goals as goal
use Rattle.windows.proofs.neighbourhoods.Goals.{After-cell_offset-here, After-firsts-then-has_near, After-place, After-repeat, Then-has_near}

test : (c : Then-has_near) → let a = c.args in T (has_near a.plan a.fine)
test c = true_T _ (sym c.has_near.ensures ∙ c.if-has_near.true)

has : (c : Then-has_near) → let a = c.args in HasNeighbourhood a.plan a.fine
has c = has_fact _ _ (test c)

pub overflow_sub-level : goal.overflow_sub-level
overflow_sub-level c = let h = has (goal.at.overflow_sub-level c).Then-has_near in omega (arith, h.class≢, c.requires.in_range.0.class≢)

pub overflow_sub-level-then-has_near : goal.overflow_sub-level-then-has_near
overflow_sub-level-then-has_near c = let h = has (goal.at.overflow_sub-level-then-has_near c).Then-has_near in omega (arith, h.level≥)

-- the level of the ancestors
deep : (c : Then-has_near) → let a = c.args in (1 ≤ ancestor_level a.plan a.fine) × (ancestor_level a.plan a.fine < a.plan.levels)
deep c = let s = c in
    let d = fine_level s.args.plan s.requires.in_range.0 s.args.cells.now s.args.fine s.requires.in_range.1 (has c) in
    (d.0, omega (arith, d.1))

pub overflow_sub-above : goal.overflow_sub-above
overflow_sub-above c = (deep (goal.at.overflow_sub-above c).Then-has_near).0

pub overflow_sub-up : goal.overflow_sub-up
overflow_sub-up c = rw c.ratio-step.ensures (ratio_pos _)

pub overflow_add-up : goal.overflow_add-up
unfolding ratio
overflow_add-up c = rw c.ratio-step.ensures (omega (arith, c.requires.in_range.0.up≤))

-- how many bytes are repeated
size : (c : After-cell_offset-here) → let a = c.args in let k = ancestor_level a.plan a.fine in
    c.rows_at-coarse.result * c.across_at-columns.result.cells ≡ rows_at a.plan (k - 1) * columns_at a.plan k
size c = λ i. c.rows_at-coarse.ensures i * (c.across_at-columns.ensures i).cells

test_1 : (c : After-cell_offset-here) → let a = c.args in T (has_near a.plan a.fine)
test_1 c = true_T _ (sym c.has_near.ensures ∙ c.if-has_near.true)

has_1 : (c : After-cell_offset-here) → let a = c.args in HasNeighbourhood a.plan a.fine
has_1 c = has_fact _ _ (test_1 c)

deep_1 : (c : After-cell_offset-here) → let a = c.args in (1 ≤ ancestor_level a.plan a.fine) × (ancestor_level a.plan a.fine < a.plan.levels)
deep_1 c = let s = c in
    let d = fine_level s.args.plan s.requires.in_range.0 s.args.cells.now s.args.fine s.requires.in_range.1 (has_1 c) in
    (d.0, omega (arith, d.1))

-- the bytes to repeat are there
room : (c : After-cell_offset-here) → let a = c.args in
    RepeatIn a.plan (c.rows_at-coarse.result * c.across_at-columns.result.cells) (length a.cells.now - c.cell_offset-here.result) (length a.scratch.now) × (c.cell_offset-here.result ≤ length a.cells.now)
room c = let t = c in
    let s = t in
    let a = s.args in
    repeat_in a.plan s.requires.in_range.0 (ancestor_level a.plan a.fine) (deep_1 c).0 (deep_1 c).1 (length a.cells.now) (length a.scratch.now) c.cell_offset-here.ensures (size c) s.requires.in_range.2
    (near_repeat_in a.plan s.requires.in_range.0 a.cells.now a.fine s.requires.in_range.1 (has_1 c) s.requires.near_room.0)

pub slice_bounds-repeat-count : goal.slice_bounds-repeat-count
slice_bounds-repeat-count c = (room (goal.at.slice_bounds-repeat-count c).After-cell_offset-here).1

pub slice_bounds-repeat-start : goal.slice_bounds-repeat-start
slice_bounds-repeat-start c = omega (arith, (room (goal.at.slice_bounds-repeat-start c).After-cell_offset-here).1)

pub overflow_mul-coarse : goal.overflow_mul-coarse
overflow_mul-coarse c = let o = c in
    let t = o in
    let s = t in
    let a = s.args in
    let k : ℕ = ancestor_level a.plan a.fine in
    let d = deep (goal.at.overflow_mul-coarse c).Then-has_near in
    let r = (up_in a.plan s.requires.in_range.0 (ancestor_level a.plan a.fine - 1) (omega arith)).cells≤ in
    let w = (across_in a.plan s.requires.in_range.0 (ancestor_level a.plan a.fine) d.1).cells≤ in
    omega (arith, size (goal.at.overflow_mul-coarse c).After-cell_offset-here, mul-le-mul r w)

pub repeat-requires : goal.repeat-requires
repeat-requires c = let o = c in
    rw (mid_len o.cell_offset-here.result o.args.cells.now) (room (goal.at.repeat-requires c).After-cell_offset-here).0

-- the bytes are repeated, and as many are lent
scratch_length : (c : After-repeat) → length c.repeat.new.out ≡ length c.args.scratch.now
scratch_length c = ap length c.repeat.ensures ∙ filled_length _ _ _ _

pub place-requires : goal.place-requires
place-requires c = let o = c in
    let t = o in
    let s = t in
    let a = s.args in
    rw (scratch_length (goal.at.place-requires c).After-repeat, o.across_at-columns.ensures, o.up_at-rows.ensures, o.ratio-step.ensures, o.rows_at-coarse.ensures)
    (near_place_in a.plan s.requires.in_range.0 a.cells.now a.fine s.requires.in_range.1 (has (goal.at.place-requires c).Then-has_near) s.requires.near_room.0 s.requires.near_room.1)

pub firsts-requires : goal.firsts-requires
firsts-requires c = let t = c in
    let s = t in
    rw c.across_at-columns.ensures (across_in s.args.plan s.requires.in_range.0 _ (deep (goal.at.firsts-requires c).Then-has_near).1)

pub firsts-requires-then-has_near : goal.firsts-requires-then-has_near
firsts-requires-then-has_near c = let t = c in
    let s = t in
    rw c.up_at-rows.ensures (up_in s.args.plan s.requires.in_range.0 _ (deep (goal.at.firsts-requires-then-has_near c).Then-has_near).1)

-- the rows are placed, and as many bytes are lent
near_length : (c : After-place) → length c.place.new.out ≡ length c.args.near.now
near_length c = ap length c.place.ensures ∙ filled_length _ _ _ _

-- how many places there are
columns : (c : After-firsts-then-has_near) → let a = c.args in c.firsts.result ≡ firsts (across_at a.plan (ancestor_level a.plan a.fine))
columns c = c.firsts.ensures ∙ ap firsts c.across_at-columns.ensures

rows : (c : After-firsts-then-has_near) → let a = c.args in c.firsts-then-has_near.result ≡ firsts (up_at a.plan (ancestor_level a.plan a.fine))
rows c = c.firsts-then-has_near.ensures ∙ ap firsts c.up_at-rows.ensures

pub wide_windows-requires : goal.wide_windows-requires
wide_windows-requires c = let t = c in
    let s = t in
    let a = s.args in
    rw (scratch_length (goal.at.wide_windows-requires c).After-repeat, near_length (goal.at.wide_windows-requires c).After-place, columns (goal.at.wide_windows-requires c).After-firsts-then-has_near, rows (goal.at.wide_windows-requires c).After-firsts-then-has_near, c.ratio-step.ensures) (
      near_level_in a.plan s.requires.in_range.0 a.cells.now a.fine s.requires.in_range.1 (has (goal.at.wide_windows-requires c).Then-has_near) s.requires.near_room.0 s.requires.near_room.1,
      s.requires.near_room.0.enough _ (fine_level a.plan s.requires.in_range.0 a.cells.now a.fine s.requires.in_range.1 (has (goal.at.wide_windows-requires c).Then-has_near)).1,
    )

pub returns-then-has_near : goal.returns-then-has_near
returns-then-has_near c = let w = c in
    let f = w in
    let n = f in
    let r = n in
    let o = r in
    let t = o in
    let s = t in
    let a = s.args in
    let spread = rw (o.across_at-columns.ensures, o.up_at-rows.ensures, o.ratio-step.ensures, o.rows_at-coarse.ensures) at n.place.ensures in
    let made = rw (columns (goal.at.returns-then-has_near c).After-firsts-then-has_near, rows (goal.at.returns-then-has_near c).After-firsts-then-has_near, o.ratio-step.ensures) at w.wide_windows.ensures _ _ spread
    ∙ filled_same 0 _ _ _ _ (λ i u v. near_windows a.plan s.requires.in_range.0 (ancestor_level a.plan a.fine) (deep (goal.at.returns-then-has_near c).Then-has_near).0 (deep (goal.at.returns-then-has_near c).Then-has_near).1 a.cells.now _ a.scratch.now o.cell_offset-here.ensures (size (goal.at.returns-then-has_near c).After-cell_offset-here) r.repeat.ensures
    (near_repeat_in a.plan s.requires.in_range.0 a.cells.now a.fine s.requires.in_range.1 (has (goal.at.returns-then-has_near c).Then-has_near) s.requires.near_room.0) refl refl i) in
    near_table a.plan s.requires.in_range.0 a.cells.now a.fine s.requires.in_range.1 (test (goal.at.returns-then-has_near c).Then-has_near) _ a.near.now s.requires.near_room.1 made

pub returns-else-has_near : goal.returns-else-has_near
returns-else-has_near c = let s = c in
    near_table_none s.args.plan s.requires.in_range.0 s.args.cells.now s.args.fine s.requires.in_range.1 (λ t. subst T (sym c.has_near.ensures ∙ c.if-has_near.false) t) _
