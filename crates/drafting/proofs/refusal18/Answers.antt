-- `refusal18` meets its contract. Assumes nothing.
use mathlib.Core.Path.{sym, ◌∙◌}
use Rattle.refusals.proofs.Refused.{refused, handed_on}
use Rattle.drafts.proofs.Refusals.{check_18, open_18, none_18}
use Rattle.drafting.proofs.refusal18.Goals as goal

pub returns-in_err-check : goal.returns-in_err-check
returns-in_err-check c = let e = c.in_err-check in
    rw (handed_on _ c.from_residual.ensures.1)
    (e.ensures ∙ sym (check_18 _ _ _ _ _ (λ z. refused e.field-0.0 (e.ensures ∙ z))))

pub returns-then-is_open : goal.returns-then-is_open
returns-then-is_open c = sym (open_18 _ _ _ _ _ (sym c.in_ok-check.ensures) (sym c.is_open.ensures ∙ c.if-is_open.true))

pub returns : goal.returns
returns c = sym (none_18 _ _ _ _ _ (sym c.in_ok-check.ensures) (sym c.is_open.ensures ∙ c.if-is_open.false))
