-- `read_cells` meets its contract: the differences that are left, behind the last cell so far, say how it ends. Assumes nothing.
use mathlib.Core.Path.{refl, ◌∙◌}
use Prim.Native.Nat.{◌+◌, ◌-◌}
use native.Mathlib.Omega.{arith}
use Rattle.listing.proofs.Judging.{no_cells_lem, cells_none, cells_bad, cells_begin, judge_bad, judge_zero, judge_more, judge_end}
use Rattle.listing.proofs.read_cells.Goals as goal

pub returns-then-count-eq0 : goal.returns-then-count-eq0
returns-then-count-eq0 c = let a = c.args in
    rw c.if-count-eq0.true (no_cells_lem a.s.now a.from _ c.requires.from_in_bounds refl refl)

pub returns-in_err-cell : goal.returns-in_err-cell
returns-in_err-cell c = let n = c.args.count in
    rw c.from_residual.ensures (cells_none n (n - 1) _ (omega arith) c.in_err-cell.ensures)

pub loop-init : goal.loop-init
loop-init c = let f = c.in_ok-cell.ensures in
    (rw c.from-last.ensures refl, f.inside, omega (arith, f.small))

pub returns-in_err-d : goal.returns-in_err-d
returns-in_err-d c = let n = c.args.count in
    let l = c.loop in
    rw c.from_residual-in_err-d.ensures
    (cells_bad n (n - 1) (omega arith) c.in_ok-cell.ensures (l.invariant.0 ∙ judge_bad (n - l.counter) l.last _ (omega arith) c.in_err-d.ensures))

pub returns-then-d-eq0 : goal.returns-then-d-eq0
returns-then-d-eq0 c = let n = c.args.count in
    let l = c.loop in
    cells_bad n (n - 1) (omega arith) c.in_ok-cell.ensures (l.invariant.0 ∙ judge_zero c.in_ok-d.ensures (n - l.counter) l.last (omega arith) c.if-d-eq0.true)

pub overflow_add-last : goal.overflow_add-last
overflow_add-last c = let f = c.in_ok-d.ensures in
    omega (arith, f.small, c.requires.count_lt_number_limit)

pub loop-preserved : goal.loop-preserved
loop-preserved c = let n = c.args.count in
    let l = c.loop in
    let f = c.in_ok-d.ensures in
    (rw c.from-last-in-loop.ensures (l.invariant.0 ∙ judge_more f (n - l.counter) (n - (l.counter + 1)) l.last (omega arith) c.if-d-eq0.false), f.inside, omega (arith, f.small))

pub returns : goal.returns
returns c = let n = c.args.count in
    let l = c.loop in
    record {
      reads = cells_begin n (n - 1) (omega arith) c.in_ok-cell.ensures ∙ l.invariant.0 ∙ judge_end (n - l.counter) l.last _ (omega arith);
      inside = l.invariant.1;
    }
