-- `words::fresh` meets its contract. The invariant: the words so far. Assumes nothing.
use mathlib.Core.Path.{◌≡◌, refl, ◌∙◌}
use native.Mathlib.Omega.{arith}
use lib.ListN.{length}
use Rattle.facts.proofs.Mapped.{filled_none, filled_all, fill_next}
use Rattle.planes.specs.Bits.{word_at, plane_of}
use Rattle.words.specs.Words.{below}
use Rattle.words.proofs.fresh.Goals as goal

pub loop-w-init : goal.loop-w-init
loop-w-init c = filled_none 0 _ _

pub loop-w-preserved : goal.loop-w-preserved
unfolding word_at
loop-w-preserved c = let l = c.loop-w in
    fill_next _ _ _ _ l.invariant _ (omega arith) c.fresh_word.ensures

pub returns : goal.returns
unfolding plane_of
returns c = let l = c.loop-w in
    let q : l.w ≡ length c.args.plane.now = omega arith in
    l.invariant ∙ rw q (filled_all _ (word_at (below c.args.first)) c.args.plane.now refl)
