-- `layout::functions_len` meets its contract. Assumes nothing.
use mathlib.Core.Path.{sym, ◌∙◌}
use Rattle.refusals.proofs.Refused.{refused}
use Rattle.grid.proofs.Laws.{taken_range}
use Rattle.layout.proofs.Found.{functions_taken, functions_refused}
use Rattle.layout.proofs.functions_len.Goals as goal

pub function_total-requires : goal.function_total-requires
function_total-requires c = taken_range _ (sym c.in-Ok.ensures)

pub returns-in-Ok : goal.returns-in-Ok
returns-in-Ok c = c.function_total.ensures ∙ functions_taken _ (sym c.in-Ok.ensures)

pub returns-in-Err : goal.returns-in-Err
returns-in-Err c = functions_refused _ (λ e. refused c.in-Err.field-0 (c.in-Err.ensures ∙ e))
