-- `is_open` meets its contract. Assumes nothing.
use borrow.Author.Tests.{eq-eqb, ne_eqb}
use Rattle.drafts.specs.Drafts.{is_open}
use Rattle.drafting.proofs.is_open.Goals as goal

pub returns-then-draft-ne0 : goal.returns-then-draft-ne0
unfolding is_open
returns-then-draft-ne0 c = rw (ne_eqb _ _ c.if-draft-ne0.true)

pub returns-else-draft-ne0 : goal.returns-else-draft-ne0
unfolding is_open
returns-else-draft-ne0 c = rw (eq-eqb _ _ c.if-draft-ne0.false)
