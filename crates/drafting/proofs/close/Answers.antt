-- `close` meets its contract. Assumes nothing.
use mathlib.Core.Path.{sym}
use lib.Seq.{length-take-le}
use Rattle.refusals.proofs.Refused.{refused, handed_on}
use Rattle.drafts.proofs.Refusals.{passes_19}
use Rattle.drafting.proofs.Whole.{marks_fit, closes_not, closes}
use Rattle.drafting.proofs.close.Goals as goal

pub returns-in_err-refusal19 : goal.returns-in_err-refusal19
returns-in_err-refusal19 c = let e = c.in_err-refusal19 in
    rw (handed_on _ c.from_residual.ensures.1) (closes_not _ _ _ _ _ _ _ e.ensures (refused e.field-0.0))

pub slice_bounds-change-end : goal.slice_bounds-change-end
slice_bounds-change-end c = sym (length-take-le _ _ (marks_fit _ _ _ _ _ (sym c.in_ok-refusal19.ensures)))

pub change-requires : goal.change-requires
change-requires c = sym (passes_19 _ _ _ _ _ (sym c.in_ok-refusal19.ensures)).0

pub returns : goal.returns
returns c = closes _ _ _ _ _ _ _ (sym c.in_ok-refusal19.ensures) c.change.ensures
