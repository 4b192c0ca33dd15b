-- `tables::refusal` meets its contract. Each way by the tests that led there. Assumes nothing.
use mathlib.Core.Path.{sym, ◌∙◌}
use Rattle.grid.proofs.Laws.{taken_range}
use Rattle.refusals.proofs.Refused.{refused, handed_on}
use Rattle.tables.proofs.Calls.{refuse_plan, refuse_3, refuse_3', refuse_0}
use Rattle.tables.proofs.refusal.Goals as goal

pub returns-in_err-refusal : goal.returns-in_err-refusal
returns-in_err-refusal c = rw (handed_on _ c.from_residual.ensures.1) (c.in_err-refusal.ensures ∙ refuse_plan _ _ _ (λ e. refused c.in_err-refusal.field-0.0 (c.in_err-refusal.ensures ∙ e)))

pub cell_total-requires : goal.cell_total-requires
cell_total-requires c = taken_range _ (sym c.in_ok-refusal.ensures)

pub returns-then-cells-cell_total : goal.returns-then-cells-cell_total
returns-then-cells-cell_total c = refuse_3 _ _ _ (sym c.in_ok-refusal.ensures) (λ e. c.if-cells-cell_total.true (e ∙ sym c.cell_total.ensures))

pub function_total-requires : goal.function_total-requires
function_total-requires c = taken_range _ (sym c.in_ok-refusal.ensures)

pub returns-then-functions-function_total : goal.returns-then-functions-function_total
returns-then-functions-function_total c =
    refuse_3' _ _ _ (sym c.in_ok-refusal.ensures) (c.if-cells-cell_total.false ∙ c.cell_total.ensures) (λ e. c.if-functions-function_total.true (e ∙ sym c.function_total.ensures))

pub returns : goal.returns
returns c = refuse_0 _ _ _ (sym c.in_ok-refusal.ensures) (c.if-cells-cell_total.false ∙ c.cell_total.ensures) (c.if-functions-function_total.false ∙ c.function_total.ensures)
