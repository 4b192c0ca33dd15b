-- `windows::place_row` meets its contract. The invariant: the columns so far are at their places. Assumes nothing.
use mathlib.Core.Path.{◌≡◌, sym, ap, ◌∙◌}
use Prim.Native.Nat.{◌+◌, ◌-◌, ◌≤◌, ◌<◌}
use native.Mathlib.Omega.{arith}
use lib.ListN.{length, take, drop, length-drop}
use lib.Seq.{get_or-take, get_or-drop, length-take-le}
use borrow.Rule.Slice.PartMut.{put_mid, mid_of}
use Rattle.facts.proofs.Mapped.{part_at, filled_same}
use Rattle.facts.proofs.Ranges.{mid_len}
use Rattle.grid.specs.Side.{firsts}
use Rattle.windows.proofs.Lowered.{lowered_same}
use Rattle.windows.proofs.Placed.{row_all, row_none, row_next, run_ends}
use Rattle.windows.proofs.place_row.Goals as goal
use Rattle.windows.proofs.place_row.Goals.{After-first_over-at}

pub loop-x-init : goal.loop-x-init
loop-x-init c = let a = c.args in (omega arith, row_none a.side a.from.now a.out.now (firsts a.side) c.requires.twos)

-- the run lies in both tables
lies : (c : After-first_over-at) → let a = c.args in let x = c.loop-x.x in let next = c.run_end-next.result in
    (x < next) × (next ≤ a.side.cells) × (c.first_over-at.result + (next - x) ≤ firsts a.side)
lies c = let r = c.run_end-next.ensures in
    (r.some, r.within, rw c.first_over-at.ensures (run_ends c.args.side c.requires.side_in c.loop-x.x c.run_end-next.result r))

-- the run's cells
run_length : (c : After-first_over-at) → let x = c.loop-x.x in let next = c.run_end-next.result in length (take (next - x) (drop x c.args.from.now)) ≡ next - x
run_length c = let b = lies c in
    length-take-le (c.run_end-next.result - c.loop-x.x) (drop c.loop-x.x c.args.from.now) (omega (arith, length-drop c.loop-x.x c.args.from.now))

pub slice_bounds-lower-count : goal.slice_bounds-lower-count
slice_bounds-lower-count c = omega (arith, lies (goal.at.slice_bounds-lower-count c).After-first_over-at)

pub slice_bounds-lower-start : goal.slice_bounds-lower-start
slice_bounds-lower-start c = omega (arith, lies (goal.at.slice_bounds-lower-start c).After-first_over-at)

pub lower-requires : goal.lower-requires
lower-requires c = let f = (goal.at.lower-requires c).After-first_over-at in
    omega (arith, lies f, run_length f, mid_len c.first_over-at.result c.loop-x.out)

pub loop-x-preserved : goal.loop-x-preserved
loop-x-preserved c = let s = c.args in
    let l = c.loop-x in
    let a = c.first_over-at.ensures in
    let f = (goal.at.loop-x-preserved c).After-first_over-at in
    let b = lies f in
    let run = c.lower.ensures
    ∙ lowered_same (c.run_end-next.result - l.x) _ (mid_of l.x (length s.from.now - l.x) s.from.now) _ (run_length f)
    (λ i m. get_or-take (c.run_end-next.result - l.x) (drop l.x s.from.now) i 0 m ∙ (get_or-drop l.x s.from.now i 0 ∙ sym (part_at l.x s.from.now i))) in (
      b.1,
      ap (put_mid c.first_over-at.result (length l.out - c.first_over-at.result) l.out) run
          ∙ (rw (← a) at (row_next s.side s.from.now l.x c.run_end-next.result c.run_end-next.ensures s.out.now l.out (firsts s.side) l.invariant.1 (rw a at b.2) (omega (arith, b, a)))),
    )

pub returns : goal.returns
returns c = let s = c.args in
    let q : c.loop-x.x ≡ s.side.cells = omega arith in
    rw q at c.loop-x.invariant.1 ∙ filled_same 0 _ _ _ _ (λ i u v. row_all s.side s.from.now i)
