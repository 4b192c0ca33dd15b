-- `fill` meets its contract: the room is enough for all corners before the first is written. Assumes nothing.
use mathlib.Core.Path.{◌≡◌, refl}
use Prim.Native.Nat.{◌≤◌}
use native.Mathlib.Omega.{arith}
use lib.ListN.{length}
use Rattle.grid.specs.Plan.{cell_total}
use Rattle.mesh.specs.Mesh.{active, tally}
use Rattle.projector.specs.Projector.{corners, words_of}
use Rattle.projector.proofs.Words.{corners_length, words_count, counted, tally_small, too_short, all_written}
use Rattle.projector.proofs.fill.Goals as goal
use Rattle.projector.proofs.fill.Goals.{After-tally-count, Else-out-count}

-- the count is that of the active cells
count : (c : After-tally-count) → c.tally-count.result ≡ tally (cell_total c.args.plan) (active c.args.cells.now)
count c = counted c.args.plan c.args.cells.now c.requires.cells_len c.tally-count.ensures

pub returns-then-out-count : goal.returns-then-out-count
returns-then-out-count c = let a = c.args in
    too_short _ a.out.now (omega (arith, c.if-out-count.true, count (goal.at.returns-then-out-count c).After-tally-count, words_count a.plan a.functions.now a.heights.now a.cells.now)) refl

count_1 : (c : Else-out-count) → c.tally-count.result ≡ tally (cell_total c.args.plan) (active c.args.cells.now)
count_1 c = counted c.args.plan c.args.cells.now c.requires.cells_len c.tally-count.ensures

-- all corners fit
enough : (c : Else-out-count) → let a = c.args in length (words_of (corners a.plan a.functions.now a.heights.now a.cells.now)) ≤ length a.out.now
enough c = let a = c.args in
    omega (arith, c.if-out-count.false, count_1 c, words_count a.plan a.functions.now a.heights.now a.cells.now)

pub put_all-requires : goal.put_all-requires
put_all-requires c = let s = c in record { ready = s.requires.ready; cells_len = s.requires.cells_len; cells_in_bounds = enough (goal.at.put_all-requires c).Else-out-count }

pub overflow_mul-result : goal.overflow_mul-result
overflow_mul-result c = let s = c in
    omega (arith, count (goal.at.overflow_mul-result c).After-tally-count, tally_small (cell_total s.args.plan) (active s.args.cells.now), s.requires.ready.small)

pub returns : goal.returns
returns c = let a = c.args in
    let n = corners_length a.plan a.functions.now a.heights.now a.cells.now in
    all_written _ a.out.now (enough (goal.at.returns c).Else-out-count) (omega (arith, count (goal.at.returns c).After-tally-count, n)) c.put_all.ensures
