-- `LocalValues::value` meets its contract. Assumes nothing.
use borrow.Author.Tests.{eq-eqb, ne_eqb}
use Rattle.splines.specs.Local.{piece_of}
use Rattle.splines.proofs.LocalValues.value.Goals as goal

pub returns-then-j-eq0 : goal.returns-then-j-eq0
unfolding piece_of
returns-then-j-eq0 c = rw (eq-eqb _ _ c.if-j-eq0.true)

pub returns-then-j-self : goal.returns-then-j-self
unfolding piece_of
returns-then-j-self c = rw (ne_eqb _ _ c.if-j-eq0.false, eq-eqb _ _ c.if-j-self.true)

pub returns-else-j-self : goal.returns-else-j-self
unfolding piece_of
returns-else-j-self c = rw (ne_eqb _ _ c.if-j-eq0.false, ne_eqb _ _ c.if-j-self.false)
