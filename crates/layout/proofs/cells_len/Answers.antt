-- `layout::cells_len` meets its contract. Assumes nothing.
use mathlib.Core.Path.{sym, ◌∙◌}
use Rattle.refusals.proofs.Refused.{refused}
use Rattle.grid.proofs.Laws.{taken_range}
use Rattle.layout.proofs.Found.{cells_taken, cells_refused}
use Rattle.layout.proofs.cells_len.Goals as goal

pub cell_total-requires : goal.cell_total-requires
cell_total-requires c = taken_range _ (sym c.in-Ok.ensures)

pub returns-in-Ok : goal.returns-in-Ok
returns-in-Ok c = c.cell_total.ensures ∙ cells_taken _ (sym c.in-Ok.ensures)

pub returns-in-Err : goal.returns-in-Err
returns-in-Err c = cells_refused _ (λ e. refused c.in-Err.field-0 (c.in-Err.ensures ∙ e))
