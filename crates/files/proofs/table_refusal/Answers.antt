-- `table_refusal` meets its contract. Assumes nothing.
use mathlib.Core.Path.{◌∙◌}
use Rattle.refusals.proofs.Refused.{refused, handed_on}
use Rattle.tables.proofs.Cells.{cells_refuse, cells_pass}
use Rattle.files.specs.Steps.{table_refusal}
use Rattle.files.proofs.Reading.{with_13, with_none}
use Rattle.files.proofs.table_refusal.Goals as goal

pub returns-in_err-cells_refusal : goal.returns-in_err-cells_refusal
unfolding table_refusal
returns-in_err-cells_refusal c = let e = c.in_err-cells_refusal in
    rw (handed_on _ c.from_residual.ensures.1) (e.ensures ∙ cells_refuse _ _ _ (λ z. refused e.field-0.0 (e.ensures ∙ z)))

pub returns-then-not-whole : goal.returns-then-not-whole
returns-then-not-whole c = let p = cells_pass _ _ c.in_ok-cells_refusal.ensures in with_13 _ _ _ p.0 p.1 c.if-not-whole.true

pub returns : goal.returns
returns c = let p = cells_pass _ _ c.in_ok-cells_refusal.ensures in with_none _ _ _ p.0 p.1 c.if-not-whole.false
