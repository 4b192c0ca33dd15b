-- `refine` meets its contract. Assumes nothing.
use mathlib.Core.Path.{refl, sym}
use Rattle.refusals.proofs.Refused.{refused, handed_on}
use Rattle.mesh.proofs.Bridge.{check_passed}
use Rattle.refining.proofs.Outcomes.{tables_heights}
use Rattle.drafts.proofs.Refusals.{passes_18}
use Rattle.drafting.proofs.Whole.{carries_not, carries}
use Rattle.drafting.proofs.refine.Goals as goal

pub returns-in_err-refusal18 : goal.returns-in_err-refusal18
returns-in_err-refusal18 c = let e = c.in_err-refusal18 in
    rw (handed_on _ c.from_residual.ensures.1)
    (carries_not _ _ _ _ _ _ _ _ _ _ e.ensures (refused e.field-0.0))

pub refusal-checked-requires : goal.refusal-checked-requires
refusal-checked-requires c = let k = check_passed _ _ _ (passes_18 _ _ _ _ _ (sym c.in_ok-refusal18.ensures)) in (k.range, k.functions)

pub refine-requires : goal.refine-requires
refine-requires c = tables_heights _ _ _ _ (passes_18 _ _ _ _ _ (sym c.in_ok-refusal18.ensures)) c.refusal-checked.ensures

pub returns : goal.returns
returns c = carries refl _ _ _ _ _ _ _ _ _ c.in_ok-refusal18.ensures refl c.refine.ensures
