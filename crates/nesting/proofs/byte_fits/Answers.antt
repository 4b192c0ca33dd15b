-- `nesting::byte_fits` meets its contract. A test of the byte, both ways. Assumes nothing.
use borrow.Author.Tests.{eq-eqb, ne_eqb}
use Rattle.nesting.specs.Nested.{byte_fits}
use Rattle.nesting.proofs.byte_fits.Goals as goal

pub returns-then-byte-eq0 : goal.returns-then-byte-eq0
unfolding byte_fits
returns-then-byte-eq0 c = rw (eq-eqb _ _ c.if-byte-eq0.true)

pub returns-else-byte-eq0 : goal.returns-else-byte-eq0
unfolding byte_fits
returns-else-byte-eq0 c = rw (ne_eqb _ _ c.if-byte-eq0.false)
