-- `nesting::most_at` meets its contract. A test of the level, both ways. Assumes nothing.
use borrow.Author.Tests.{eq-eqb, ne_eqb}
use Rattle.grid.specs.Plan.{last_level}
use Rattle.nesting.specs.Nested.{most_at}
use Rattle.nesting.proofs.most_at.Goals as goal

pub returns-then-level-plan : goal.returns-then-level-plan
unfolding most_at last_level
returns-then-level-plan c = rw (eq-eqb _ _ c.if-level-plan.true)

pub returns-else-level-plan : goal.returns-else-level-plan
unfolding most_at last_level
returns-else-level-plan c = rw (ne_eqb _ _ c.if-level-plan.false)
