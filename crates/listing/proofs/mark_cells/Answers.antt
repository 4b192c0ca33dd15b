-- `mark_cells` meets its contract: what is left to mark, on the table so far, is what was to be marked. Assumes nothing.
use mathlib.Core.Path.{◌≡◌, sym, ◌∙◌}
use Prim.Native.Nat.{◌+◌, ◌-◌}
use native.Mathlib.Omega.{arith}
use lib.ListN.{length, length-set}
use Rattle.listing.proofs.Judging.{cells_begin, judge_bad, judge_more}
use Rattle.listing.proofs.Marking.{bad_ends_lem, mark_none, mark_end, first_not_bad, mark_first, mark_more, not_zero, judge_le, next_le}
use Rattle.listing.proofs.mark_cells.Goals as goal

pub returns-then-count-eq0 : goal.returns-then-count-eq0
returns-then-count-eq0 c = mark_none c.args.count _ _ c.if-count-eq0.true

pub returns-in_default : goal.returns-in_default
returns-in_default c = let n = c.args.count in
    first_not_bad n (n - 1) _ _ _ (omega arith) c.in_default.ensures c.requires.reads

pub bounds-table-last : goal.bounds-table-last
bounds-table-last c = let n = c.args.count in
    let p = c.requires in
    omega (arith, judge_le _ _ _ _ _ (sym (cells_begin n (n - 1) (omega arith) c.in-Some.ensures) ∙ p.reads), p.below)

pub loop-init : goal.loop-init
loop-init c = let n = c.args.count in
    let f = c.in-Some.ensures in
    (sym (cells_begin n (n - 1) (omega arith) f), sym (mark_first f n (n - 1) c.args.table.now (omega arith)))

pub returns-in_default-read : goal.returns-in_default-read
returns-in_default-read c = let l = c.loop in
    bad_ends_lem (sym (judge_bad (c.args.count - l.counter) l.last _ (omega arith) c.in_default-read.ensures) ∙ l.invariant.0 ∙ c.requires.reads)

pub overflow_add-last : goal.overflow_add-last
overflow_add-last c = let n = c.args.count in
    let l = c.loop in
    let p = c.requires in
    omega (arith, next_le c.in-Some-read.ensures (n - l.counter) (n - (l.counter + 1)) l.last p.last p.rest (omega arith) (l.invariant.0 ∙ p.reads), p.below)

pub bounds-table-last-in-loop : goal.bounds-table-last-in-loop
bounds-table-last-in-loop c = let n = c.args.count in
    let l = c.loop in
    let p = c.requires in
    let e : length l.table ≡ length c.args.table.now = simp length-set at l.auto.table in
    omega (arith, next_le c.in-Some-read.ensures (n - l.counter) (n - (l.counter + 1)) l.last p.last p.rest (omega arith) (l.invariant.0 ∙ p.reads), p.below)

pub loop-preserved : goal.loop-preserved
loop-preserved c = let n = c.args.count in
    let l = c.loop in
    let f = c.in-Some-read.ensures in
    let z = not_zero f (n - l.counter) l.last c.requires.last c.requires.rest (omega arith) (l.invariant.0 ∙ c.requires.reads) in (
      sym (judge_more f (n - l.counter) (n - (l.counter + 1)) l.last (omega arith) z) ∙ l.invariant.0,
      sym (mark_more f (n - l.counter) (n - (l.counter + 1)) l.last l.table (omega arith) z) ∙ l.invariant.1,
    )

pub returns : goal.returns
returns c = let l = c.loop in
    sym (mark_end (c.args.count - l.counter) l.last _ l.table (omega arith)) ∙ l.invariant.1
