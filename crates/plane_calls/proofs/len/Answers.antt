-- `plane_calls::len` meets its contract. Assumes nothing.
use mathlib.Core.Path.{sym, ◌∙◌}
use borrow.Author.Tests.{eq-eqb, ne_eqb}
use Rattle.refusals.proofs.Refused.{refused}
use Rattle.grid.specs.Plan.{plan_refusal}
use Rattle.grid.proofs.Laws.{taken_range}
use Rattle.planes.specs.Planes.{planes_length}
use Rattle.plane_calls.proofs.len.Goals as goal

pub word_count-requires : goal.word_count-requires
word_count-requires c = taken_range _ (sym c.in-Ok.ensures)

pub returns-in-Ok : goal.returns-in-Ok
unfolding planes_length
returns-in-Ok c = c.word_count.ensures ∙ rw (eq-eqb _ _ (sym c.in-Ok.ensures))

pub returns-in-Err : goal.returns-in-Err
unfolding planes_length
returns-in-Err c = rw (ne_eqb (plan_refusal c.args.plan) 0 (λ e. refused c.in-Err.field-0 (c.in-Err.ensures ∙ e)))
