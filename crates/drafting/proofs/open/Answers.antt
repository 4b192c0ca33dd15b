-- `open` meets its contract. Assumes nothing.
use mathlib.Core.Path.{sym}
use Rattle.refusals.proofs.Refused.{refused, handed_on}
use Rattle.drafting.proofs.Whole.{opens_not, opens}
use Rattle.drafting.proofs.open.Goals as goal

pub returns-in_err-refusal18 : goal.returns-in_err-refusal18
returns-in_err-refusal18 c = let e = c.in_err-refusal18 in
    rw (handed_on _ c.from_residual.ensures.1) (opens_not _ _ _ _ _ e.ensures (refused e.field-0.0))

pub returns : goal.returns
returns c = opens _ _ _ _ _ (sym c.in_ok-refusal18.ensures)
