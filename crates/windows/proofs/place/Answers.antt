-- `windows::place` meets its contract. The invariant: the rows so far are at their places. Assumes nothing.
use mathlib.Core.Path.{◌≡◌, refl, ap, ◌∙◌}
use Prim.Native.Nat.{ℕ, ◌+◌, ◌*◌, ◌≤◌, ◌<◌}
use native.Mathlib.Nat.{mul-le-mul_right}
use native.Mathlib.Numerals.{add-one}
use native.Mathlib.Omega.{arith}
use lib.ListN.{length, get_or}
use Rattle.facts.specs.Mapped.{filled}
use Rattle.facts.proofs.Mapped.{run_in, part_at, mapped_at, filled_length, filled_same}
use Rattle.facts.proofs.Ranges.{mid_len}
use Rattle.grid.specs.Side.{first_over, firsts}
use Rattle.grid.proofs.Sides.{first_lt}
use Rattle.windows.proofs.Placed.{table_to, row_part, table_start, table_all, table_fresh, table_next}
use Rattle.windows.proofs.place.Goals as goal
use Rattle.windows.proofs.place.Goals.{After-first_over}

-- there are rows, so one fits
pub overflow_add-width : goal.overflow_add-width
overflow_add-width c = let a = c.args in
    let p = c.requires in
    let h : 1 ≤ firsts a.up = omega (arith, first_lt a.up p.up_in 0 p.up_in.cells≥) in
    omega (arith, mul-le-mul_right (firsts a.across + a.more) h, p.out≤, c.firsts.ensures)

module _ (c : After-first_over) where
  abbrev w : ℕ
  w = firsts c.args.across + c.args.more

  abbrev here : ℕ
  here = first_over c.args.up (c.loop-row.row * c.args.step) * (firsts c.args.across + c.args.more)

  -- where the row stands
  stands : c.first_over.result * (c.firsts.result + c.args.more) ≡ here
  stands = let m = c.args.more in λ i. c.first_over.ensures i * (c.firsts.ensures i + m)

  -- the table so far
  made : c.loop-row.out ≡ filled 0 (firsts c.args.up * w) (table_to c.args.across c.args.up c.args.step c.args.from.now c.args.more c.loop-row.row) c.args.out.now
  made = c.loop-row.invariant _
      (table_start c.args.across c.args.up c.args.step c.args.from.now c.args.more _ c.args.out.now _ (rw (c.firsts-high.ensures, c.firsts.ensures) at c.fill.ensures))

  long : length c.loop-row.out ≡ length c.args.out.now
  long = ap length made ∙ filled_length _ _ _ _

  -- both parts lie in their tables
  lies : (here + w ≤ firsts c.args.up * w) × (firsts c.args.up * w ≤ length c.loop-row.out) × (c.loop-row.row * c.args.across.cells + c.args.across.cells ≤ length c.args.from.now)
  lies =
      let s : c.loop-row.row * c.args.step < c.args.up.cells = omega (arith, mul-le-mul_right c.args.step c.loop-row-test.true, c.requires.rows≤, c.requires.step≥) in (
        omega (arith, mul-le-mul_right w (first_lt c.args.up c.requires.up_in (c.loop-row.row * c.args.step) s)),
        omega (arith, long, c.requires.out≤),
        omega (arith, mul-le-mul_right c.args.across.cells c.loop-row-test.true, c.requires.from≤),
      )

  -- nothing stands at the row's place
  empty : (i : ℕ) → i < firsts c.args.across → get_or c.loop-row.out (here + i) 0 ≡ 2
  unfolding filled
  empty i m =
      let b = lies in
      ap (λ z. get_or z (here + i) 0) made
      ∙ (mapped_at _ c.args.out.now (here + i) (omega (arith, long))
      ∙ rw (run_in 0 (firsts c.args.up * w) (here + i) (omega arith) (omega arith))
      (table_fresh c.args.across c.args.up c.args.step c.args.from.now c.args.more c.requires.up_in.sized c.requires.step≥ c.loop-row.row (omega arith) i m))

pub overflow_mul-at : goal.overflow_mul-at
overflow_mul-at c = omega (arith, stands c, lies c)

pub slice_bounds-place_row-count-in-loop-row : goal.slice_bounds-place_row-count-in-loop-row
slice_bounds-place_row-count-in-loop-row c = let f = (goal.at.slice_bounds-place_row-count-in-loop-row c).After-first_over in omega (arith, stands f, lies f)

pub slice_bounds-place_row-start-in-loop-row : goal.slice_bounds-place_row-start-in-loop-row
slice_bounds-place_row-start-in-loop-row c = let f = (goal.at.slice_bounds-place_row-start-in-loop-row c).After-first_over in omega (arith, stands f, lies f)

pub place_row-requires-clause-cells_in_bounds : goal.place_row-requires-clause-cells_in_bounds
place_row-requires-clause-cells_in_bounds c = let f = (goal.at.place_row-requires-clause-cells_in_bounds c).After-first_over in
    let a = c.args in
    let l = c.loop-row in (
      omega (arith, lies f, mid_len (l.row * a.across.cells) a.from.now),
      omega (arith, stands f, lies f, mid_len (c.first_over.result * (c.firsts.result + a.more)) l.out),
    )

pub place_row-requires-clause-twos : goal.place_row-requires-clause-twos
place_row-requires-clause-twos c = let f = (goal.at.place_row-requires-clause-twos c).After-first_over in
    λ i m. part_at _ c.loop-row.out i ∙ (ap (λ z. get_or c.loop-row.out (z + i) 0) (stands f) ∙ empty f i m)

pub loop-row-preserved : goal.loop-row-preserved
loop-row-preserved c = let f = (goal.at.loop-row-preserved c).After-first_over in
    let a = c.args in
    let l = c.loop-row in
    let row = c.place_row.ensures ∙ filled_same 0 _ _ _ _ (λ i u v. row_part a.across a.up a.step a.from.now a.more (l.row * a.across.cells) l.row i refl) in
    λ xs e. rw (stands f, add-one l.row)
    (table_next a.across a.up a.step a.from.now a.more c.requires.up_in.sized c.requires.step≥ l.row (omega (arith, first_lt a.across c.requires.across_in 0 c.requires.across_in.cells≥)) _ xs l.out _ (l.invariant xs e) (omega (arith, lies f)) (omega (arith, lies f)) (rw (stands f) at row))

pub returns : goal.returns
returns c = let a = c.args in
    let q : c.loop-row.row ≡ a.rows = omega arith in
    rw q at (c.loop-row.invariant _ (table_start a.across a.up a.step a.from.now a.more _ a.out.now _ (rw (c.firsts-high.ensures, c.firsts.ensures) at c.fill.ensures)))
    ∙ filled_same 0 _ _ _ _ (λ t u v. table_all a.across a.up a.step a.from.now a.more a.rows t)
