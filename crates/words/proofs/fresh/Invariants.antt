-- `words::fresh` meets its contract. The invariant: the words so far. Assumes nothing.
use mathlib.Core.Path.{◌≡◌}
use Rattle.facts.specs.Mapped.{filled}
use Rattle.planes.specs.Bits.{word_at}
use Rattle.words.specs.Words.{below}
use Rattle.words.proofs.fresh.Given as goal

abbrev pub invariant-loop-w : goal.invariant-loop-w
invariant-loop-w l = l.plane ≡ filled 0 l.w (word_at (below l.first)) l.initial.plane
