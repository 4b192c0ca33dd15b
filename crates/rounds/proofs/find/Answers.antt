-- `find` meets its contract: each refusal is the outcome's, and so is what is written. Assumes nothing.
use mathlib.Core.Path.{sym}
use native.Mathlib.Omega.{arith}
use Rattle.refusals.proofs.Refused.{refused, handed_on}
use Rattle.mesh.proofs.Bridge.{check_passed}
use Rattle.rounds.proofs.Whole.{today_refused, wanted_refused, same_size, losing_refused, marks_short, lengths_short, listable, ends}
use Rattle.rounds.proofs.find.Goals as goal

pub returns-in_err-check : goal.returns-in_err-check
returns-in_err-check c = let e = c.in_err-check in
    rw (handed_on _ c.from_residual.ensures.1) (today_refused _ _ _ _ _ _ _ e.ensures (refused e.field-0.0))

pub returns-in_err-check-2 : goal.returns-in_err-check-2
returns-in_err-check-2 c = let e = c.in_err-check-2 in
    rw (handed_on _ c.from_residual-in_err-check-2.ensures.1) (wanted_refused _ _ _ _ _ _ _ (sym c.in_ok-check.ensures) e.ensures (refused e.field-0.0))

pub is_losing-requires : goal.is_losing-requires
is_losing-requires c = same_size _ _ _ _ _ (sym c.in_ok-check.ensures) (sym c.in_ok-check-2.ensures)

pub returns-then-is_losing : goal.returns-then-is_losing
returns-then-is_losing c = losing_refused _ _ _ _ _ _ _ (sym c.in_ok-check.ensures) (sym c.in_ok-check-2.ensures) c.if-is_losing.ensures

pub is_short-requires : goal.is_short-requires
is_short-requires c = same_size _ _ _ _ _ (sym c.in_ok-check.ensures) (sym c.in_ok-check-2.ensures)

pub returns-then-is_short : goal.returns-then-is_short
returns-then-is_short c = marks_short _ _ _ _ _ _ _ (sym c.in_ok-check.ensures) (sym c.in_ok-check-2.ensures) c.if-is_losing.ensures c.if-is_short.ensures

pub overflow_sub-rounds : goal.overflow_sub-rounds
overflow_sub-rounds c = (check_passed _ _ _ (sym c.in_ok-check.ensures)).range.levels≥

pub returns-then-lengths-rounds : goal.returns-then-lengths-rounds
returns-then-lengths-rounds c = lengths_short _ _ _ _ _ _ _ (sym c.in_ok-check.ensures) (sym c.in_ok-check-2.ensures) c.if-is_losing.ensures (omega (arith, c.if-lengths-rounds.true))

pub list_levels-marks-requires : goal.list_levels-marks-requires
list_levels-marks-requires c = listable _ _ _ _ _ _ _ (sym c.in_ok-check.ensures) (sym c.in_ok-check-2.ensures) c.if-is_losing.ensures c.if-is_short.ensures (omega (arith, c.if-lengths-rounds.false))

pub returns : goal.returns
returns c = ends _ _ _ _ _ _ _ (sym c.in_ok-check.ensures) (sym c.in_ok-check-2.ensures) c.if-is_losing.ensures c.if-is_short.ensures (omega (arith, c.if-lengths-rounds.false)) c.list_levels-marks.ensures
