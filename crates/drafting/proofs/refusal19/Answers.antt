-- `refusal19` meets its contract. Assumes nothing.
use mathlib.Core.Path.{sym, ◌∙◌}
use Rattle.refusals.proofs.Refused.{refused, handed_on}
use Rattle.drafts.proofs.Refusals.{check_19, open_19, none_19}
use Rattle.drafting.proofs.refusal19.Goals as goal

pub returns-in_err-check : goal.returns-in_err-check
returns-in_err-check c = let e = c.in_err-check in
    rw (handed_on _ c.from_residual.ensures.1)
    (e.ensures ∙ sym (check_19 _ _ _ _ _ (λ z. refused e.field-0.0 (e.ensures ∙ z))))

pub returns-then-not-is_open : goal.returns-then-not-is_open
returns-then-not-is_open c = sym (none_19 _ _ _ _ _ (sym c.in_ok-check.ensures) (sym c.is_open.ensures ∙ c.if-not-is_open.true))

pub returns : goal.returns
returns c = sym (open_19 _ _ _ _ _ (sym c.in_ok-check.ensures) (sym c.is_open.ensures ∙ c.if-not-is_open.false))
