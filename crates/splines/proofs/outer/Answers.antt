-- `outer` meets its contract: its products are small. Assumes nothing.
use borrow.Author.Tests.{eq-eqb, ne_eqb}
use Rattle.splines.specs.Local.{outer}
use Rattle.splines.proofs.outer.Goals as goal

pub returns-then-degree-eq1 : goal.returns-then-degree-eq1
unfolding outer
returns-then-degree-eq1 c = rw (eq-eqb _ _ c.if-degree-eq1.true)

pub returns-then-full : goal.returns-then-full
unfolding outer
returns-then-full c = rw (ne_eqb _ _ c.if-degree-eq1.false, c.if-full.true)

pub returns-else-full : goal.returns-else-full
unfolding outer
returns-else-full c = rw (ne_eqb _ _ c.if-degree-eq1.false, c.if-full.false)
