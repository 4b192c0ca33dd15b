-- `add` meets its contract. Assumes nothing.
use mathlib.Core.Path.{sym}
use native.Mathlib.Omega.{arith}
use Rattle.refusals.proofs.Refused.{refused, handed_on}
use Rattle.drafts.proofs.Refusals.{passes_19}
use Rattle.drafting.proofs.Whole.{marks_fit, adds_19, adds_judged, adds_short, adds}
use Rattle.drafting.proofs.add.Goals as goal

pub returns-in_err-refusal19 : goal.returns-in_err-refusal19
returns-in_err-refusal19 c = let e = c.in_err-refusal19 in
    rw (handed_on _ c.from_residual.ensures.1) (adds_19 _ _ _ _ _ _ e.ensures (refused e.field-0.0))

pub judge-requires : goal.judge-requires
judge-requires c = (passes_19 _ _ _ _ _ (sym c.in_ok-refusal19.ensures)).0

pub returns-in_err-judge : goal.returns-in_err-judge
returns-in_err-judge c = let e = c.in_err-judge in
    rw (handed_on _ c.from_residual-in_err-judge.ensures.1) (adds_judged _ _ _ _ _ _ (sym c.in_ok-refusal19.ensures) e.ensures (refused e.field-0.0))

pub overflow_sub-list : goal.overflow_sub-list
overflow_sub-list c = marks_fit _ _ _ _ _ (sym c.in_ok-refusal19.ensures)

pub returns-then-list-from : goal.returns-then-list-from
returns-then-list-from c = let fit = marks_fit _ _ _ _ _ (sym c.in_ok-refusal19.ensures) in
    adds_short _ _ _ _ _ _ (sym c.in_ok-refusal19.ensures) (sym c.in_ok-judge.ensures) (omega (arith, c.if-list-from.true, fit))

pub append-requires : goal.append-requires
append-requires c = let fit = marks_fit _ _ _ _ _ (sym c.in_ok-refusal19.ensures) in omega (arith, c.if-list-from.false, fit)

pub returns : goal.returns
returns c = let fit = marks_fit _ _ _ _ _ (sym c.in_ok-refusal19.ensures) in
    adds _ _ _ _ _ _ (sym c.in_ok-refusal19.ensures) (sym c.in_ok-judge.ensures) (omega (arith, c.if-list-from.false, fit)) c.append.ensures
