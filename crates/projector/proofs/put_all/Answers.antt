-- `put_all` meets its contract: cell by cell. Assumes nothing.
use mathlib.Core.Path.{◌≡◌}
use Prim.Native.Nat.{◌+◌, ◌≤◌, ◌<◌}
use native.Mathlib.Omega.{arith}
use lib.ListN.{length}
use Rattle.grid.specs.Plan.{cell_total}
use Rattle.facts.proofs.Writing.{writes_none}
use Rattle.grid.proofs.Laws.{cell_inside}
use Rattle.projector.proofs.Words.{words_none, words_no, words_all, kept, room, turn}
use Rattle.projector.proofs.put_all.Goals as goal
use Rattle.projector.proofs.put_all.Goals.{then-cell-eq1, else-cell-eq1}

pub loop-c-init : goal.loop-c-init
loop-c-init c = let a = c.args in
    rw (words_none a.plan a.functions.now a.heights.now a.cells.now) (writes_none a.out.now 0)

pub put_cell-at-requires : goal.put_cell-at-requires
put_cell-at-requires c = let s = c in
    let a = s.args in
    let l = c.loop-c in
    let below : l.c < cell_total a.plan = omega (arith, s.requires.cells_len) in
    let end : l.at + 12 ≤ length a.out.now = omega (arith, l.invariant.end, room a.plan a.functions.now a.heights.now a.cells.now l.c (length a.out.now) below c.if-cell-eq1.true s.requires.cells_in_bounds) in
    record { ready = s.requires.ready; cell_inside = rw c.cell_place-place.ensures (cell_inside a.plan s.requires.ready.range l.c below); at_in_bounds = omega (arith, end, kept a.plan a.functions.now a.heights.now a.cells.now l.c {new = l.out} (omega arith) s.requires.cells_in_bounds l.invariant) }

pub loop-c-preserved : goal.loop-c-preserved
loop-c-preserved c = let s = c in
    let a = s.args in
    let l = c.loop-c in
    elim c.if-cell-eq1.branch [
      | then-cell-eq1 w ↦
          rw (w.out-is, w.at-is) (turn a.plan a.functions.now a.heights.now a.cells.now l.c {out = a.out.now} {mid = l.out} (omega (arith, s.requires.cells_len)) w.if-cell-eq1.true w.cell_place-place.ensures s.requires.cells_in_bounds l.invariant w.put_cell-at.ensures)
      | else-cell-eq1 w ↦ rw (w.out-is, w.at-is, words_no a.plan a.functions.now a.heights.now a.cells.now l.c w.if-cell-eq1.false) l.invariant
    ]

pub returns : goal.returns
returns c = let s = c in
    let a = s.args in
    let l = c.loop-c in
    let e : l.c ≡ cell_total a.plan = omega (arith, s.requires.cells_len) in
    rw (← words_all a.plan a.functions.now a.heights.now a.cells.now, ← e) l.invariant
