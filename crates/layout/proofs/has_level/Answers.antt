-- `layout::has_level` meets its contract. Assumes nothing.
use mathlib.Core.Path.{sym, ◌∙◌}
use borrow.Author.Tests.{ne_eqb}
use Rattle.refusals.proofs.Refused.{refused}
use Rattle.layout.specs.Layout.{has_level}
use Rattle.layout.proofs.has_level.Goals as goal

pub returns-in-Ok : goal.returns-in-Ok
unfolding has_level
returns-in-Ok c = rw (sym c.in-Ok.ensures)

pub returns-in-Err : goal.returns-in-Err
unfolding has_level
returns-in-Err c = rw (ne_eqb _ _ (λ e. refused c.in-Err.field-0 (c.in-Err.ensures ∙ e)))
