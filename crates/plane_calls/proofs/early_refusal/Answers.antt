-- `early_refusal` meets its contract. Assumes nothing.
use mathlib.Core.Path.{sym, ap, ◌∙◌}
use Rattle.refusals.proofs.Refused.{refused, handed_on}
use Rattle.planes.specs.Planes.{refusal3, refusal4, order_refusal}
use Rattle.planes.proofs.Refusals.{less_length, order_before}
use Rattle.plane_calls.proofs.early_refusal.Goals as goal

pub returns-in_err-refusal : goal.returns-in_err-refusal
unfolding refusal4
returns-in_err-refusal c = let e = c.in_err-refusal in
    rw (handed_on _ c.from_residual.ensures.1) (order_before _ _ _ _ (refused e.field-0.0) ∙ ap (order_refusal _ _ _) e.ensures)

pub order_refusal-requires : goal.order_refusal-requires
unfolding refusal3
order_refusal-requires c = less_length _ _ _ (sym c.in_ok-refusal.ensures)

pub returns : goal.returns
unfolding refusal4
returns c = c.order_refusal.ensures ∙ ap (order_refusal _ _ _) c.in_ok-refusal.ensures
