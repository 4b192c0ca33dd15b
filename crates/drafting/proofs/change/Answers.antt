-- `change` meets its contract. Assumes nothing.
use mathlib.Core.Path.{refl, sym}
use Rattle.refusals.proofs.Refused.{refused, handed_on}
use Rattle.drafts.proofs.Refusals.{passes_18}
use Rattle.drafting.proofs.Whole.{changes_not, changes}
use Rattle.drafting.proofs.change.Goals as goal

pub returns-in_err-refusal18 : goal.returns-in_err-refusal18
returns-in_err-refusal18 c = let e = c.in_err-refusal18 in
    rw (handed_on _ c.from_residual.ensures.1)
    (changes_not _ _ _ _ _ _ _ _ _ _ e.ensures (refused e.field-0.0))

pub change-requires : goal.change-requires
change-requires c = sym (passes_18 _ _ _ _ _ (sym c.in_ok-refusal18.ensures))

pub returns : goal.returns
returns c = changes _ _ _ _ _ _ _ _ _ _ c.in_ok-refusal18.ensures refl c.change.ensures
