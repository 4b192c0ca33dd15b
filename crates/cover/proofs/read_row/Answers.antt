-- `cover::read_row` meets its contract. The invariant: the entries so far. Assumes nothing.
use mathlib.Core.Path.{◌≡◌, sym, ap, ◌∙◌}
use Prim.Native.Nat.{ℕ, ◌+◌, ◌-◌, ◌≤◌, ◌<◌}
use native.Mathlib.Omega.{arith}
use lib.ListN.{length, get_or, drop}
use Rattle.std.proofs.lemmas.List.{get_or-take, get_or-drop}
use borrow.Rule.Slice.PartMut.{mid_len}
use Rattle.facts.proofs.Mapped.{filled_none}
use Rattle.grid.specs.Side.{first_over}
use Rattle.windows.proofs.Placed.{run_ends}
use Rattle.cover.specs.Level.{row_read}
use Rattle.cover.proofs.Runs.{run_filled}
use Rattle.cover.proofs.read_row.Goals as goal
use Rattle.cover.proofs.read_row.Goals.{After-first_over-at}

pub loop-column-init : goal.loop-column-init
loop-column-init c = (omega arith, filled_none 0 _ _)

-- the run lies in the table
lies : (c : After-first_over-at) → c.first_over-at.result + (c.run_end-next.result - c.loop-column.column) ≤ length c.args.table.now
lies c = let r = c.run_end-next.ensures in
    omega (arith, c.first_over-at.ensures, run_ends c.args.across c.requires.side_in c.loop-column.column c.run_end-next.result r, c.requires.across_in_bounds.0)

pub slice_bounds-run-end : goal.slice_bounds-run-end
slice_bounds-run-end c = lies (goal.at.slice_bounds-run-end c).After-first_over-at

pub loop-column-preserved : goal.loop-column-preserved
unfolding row_read
loop-column-preserved c = let a = c.args in
    let l = c.loop-column in
    let x : ℕ = l.column in
    let next : ℕ = c.run_end-next.result in
    let at : ℕ = c.first_over-at.result in
    let run = c.run_end-next.ensures in
    let long : next ≤ length l.out = omega (arith, run.within, c.requires.across_in_bounds.1) in (
      run.within,
      run_filled _ x next a.out.now l.out _ l.invariant.1 (omega (arith, run.some)) (omega (arith, run.within, c.requires.across_in_bounds.1)) (c.copy_from_slice.ensures.len ∙ mid_len x next l.out long) (λ j m.
          let i : j < at + (next - x) - at = omega arith in
          let d : x + j - x ≡ j = omega arith in
          ap (λ t. get_or t j 0) c.copy_from_slice.ensures.after
          ∙ (get_or-take (at + (next - x) - at) (drop at a.table.now) j 0 i ∙ get_or-drop at a.table.now j 0
          ∙ ap (λ k. get_or a.table.now k 0) (ap (λ z. z + j) c.first_over-at.ensures ∙ (ap (λ z. first_over a.across x + z) (sym d) ∙ sym (run.smooth (x + j) (omega arith) (omega arith)))))),
    )
