-- `words::is_within` meets its contract. The invariant: the words so far. Assumes nothing.
use mathlib.Core.Path.{refl}
use Rattle.facts.specs.Bounded.{every}
use Rattle.words.specs.Words.{word_within}
use Rattle.facts.proofs.Bounded.{every_next}
use Rattle.words.proofs.is_within.Goals as goal

pub loop-w-init : goal.loop-w-init
unfolding every
loop-w-init c = refl

pub loop-w-preserved : goal.loop-w-preserved
unfolding word_within
loop-w-preserved c = every_next c.loop-w.w _ refl c.loop-w.invariant
