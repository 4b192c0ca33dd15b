-- `words::has_no_spare` meets its contract: where a word is not full, the rest of it is 0. Assumes nothing.
use native.Mathlib.Omega.{arith}
use Rattle.planes.specs.Bits.{words_for}
use Rattle.words.proofs.Order.{spare_none, spare_last}
use Rattle.words.proofs.has_no_spare.Goals as goal

pub returns-then-over-eq0 : goal.returns-then-over-eq0
returns-then-over-eq0 c = spare_none _ _ c.if-over-eq0.true

pub bounds-plane-total : goal.bounds-plane-total
unfolding words_for
bounds-plane-total c = omega arith

pub returns : goal.returns
returns c = spare_last _ _ c.if-over-eq0.false (c.type_inv.plane _).fits
