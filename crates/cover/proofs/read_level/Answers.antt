-- `cover::read_level` meets its contract. The invariant: the rows so far, and where the next begins. Assumes nothing.
use mathlib.Core.Path.{◌≡◌, ap}
use Prim.Native.Nat.{ℕ, ◌+◌, ◌*◌, ◌≤◌, ◌<◌}
use native.Mathlib.Nat.{mul-le-mul_right}
use native.Mathlib.Omega.{arith}
use lib.ListN.{length}
use Rattle.facts.proofs.Mapped.{filled_none, fill_part}
use Rattle.facts.proofs.Ranges.{mid_len}
use Rattle.grid.specs.Side.{firsts}
use Rattle.grid.proofs.Sides.{first_lt}
use Rattle.facts.proofs.Rows.{row_ends}
use Rattle.cover.proofs.Levels.{read_row}
use Rattle.cover.proofs.read_level.Goals as goal
use Rattle.cover.proofs.read_level.Goals.{After-first_over}

pub loop-row-init : goal.loop-row-init
loop-row-init c = (omega arith, filled_none 0 _ _)

-- the row lies in the tables
at_fits : (x d w g f left size : ℕ) → x < g → w ≡ f + 2 * left → (g + 2 * d) * w ≤ size → (x + d) * w + left + f ≤ size
at_fits x d w g f left size l e s = let m : x + d + 1 ≤ g + 2 * d = omega arith in omega (arith, mul-le-mul_right w m)

fits : (c : After-first_over) → let s = c in let a = s.args in
    ((c.first_over.result + a.up.degree) * (c.firsts.result + 2 * a.across.degree) + a.across.degree + firsts a.across ≤ length a.table.now)
    × (c.loop-row.row * a.across.cells + a.across.cells ≤ a.up.cells * a.across.cells)
fits c = let s = c in
    let a = s.args in
    let l = c.loop-row in
    let r : l.row < a.up.cells = c.loop-row-test.true in (
      at_fits c.first_over.result a.up.degree _ (firsts a.up) (firsts a.across) a.across.degree _ (rw c.first_over.ensures (first_lt a.up s.requires.rows l.row r))
          (ap (λ z. z + 2 * a.across.degree) c.firsts.ensures) (rw c.firsts.ensures s.requires.table≤),
      row_ends _ _ _ r,
    )

pub overflow_mul-at : goal.overflow_mul-at
overflow_mul-at c = omega (arith, fits (goal.at.overflow_mul-at c).After-first_over)

pub overflow_add-at-in-loop-row : goal.overflow_add-at-in-loop-row
overflow_add-at-in-loop-row c = omega (arith, fits (goal.at.overflow_add-at-in-loop-row c).After-first_over)

pub slice_bounds-read_row-count : goal.slice_bounds-read_row-count
slice_bounds-read_row-count c = omega (arith, fits (goal.at.slice_bounds-read_row-count c).After-first_over)

pub slice_bounds-read_row-start : goal.slice_bounds-read_row-start
slice_bounds-read_row-start c = omega (arith, fits (goal.at.slice_bounds-read_row-start c).After-first_over)

pub slice_bounds-read_row-count-in-loop-row : goal.slice_bounds-read_row-count-in-loop-row
slice_bounds-read_row-count-in-loop-row c = let l = c.loop-row in omega (arith, fits (goal.at.slice_bounds-read_row-count-in-loop-row c).After-first_over, l.invariant.0, c.requires.out≤)

pub slice_bounds-read_row-start-in-loop-row : goal.slice_bounds-read_row-start-in-loop-row
slice_bounds-read_row-start-in-loop-row c = let l = c.loop-row in omega (arith, fits (goal.at.slice_bounds-read_row-start-in-loop-row c).After-first_over, l.invariant.0, c.requires.out≤)

pub read_row-requires : goal.read_row-requires
read_row-requires c = let s = c in
    let l = c.loop-row in
    let b = fits (goal.at.read_row-requires c).After-first_over in
    record { side_in = s.requires.columns; across_in_bounds = (omega (arith, b, mid_len ((c.first_over.result + s.args.up.degree) * (c.firsts.result + 2 * s.args.across.degree) + s.args.across.degree) s.args.table.now), omega (arith, b, l.invariant.0, s.requires.out≤, mid_len l.to l.out)) }

pub loop-row-preserved : goal.loop-row-preserved
loop-row-preserved c = let o = c in
    let l = o.loop-row in
    let s = o in
    let a = s.args in
    let b = fits (goal.at.loop-row-preserved c).After-first_over in
    let e = fill_part _ _ _ _ l.invariant.1 a.across.cells _ _ (omega (arith, l.invariant.0, s.requires.out≤)) c.read_row.ensures
    (read_row a.across a.up a.table.now l.row _ l.to l.invariant.0 (λ i. (o.first_over.ensures i + a.up.degree) * (o.firsts.ensures i + 2 * a.across.degree) + a.across.degree)) in
    (omega (arith, l.invariant.0), e)
