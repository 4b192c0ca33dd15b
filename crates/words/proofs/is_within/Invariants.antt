-- `words::is_within` meets its contract. The invariant: the words so far. Assumes nothing.
use mathlib.Core.Path.{◌≡◌}
use Rattle.facts.specs.Bounded.{every}
use Rattle.words.specs.Words.{word_within}
use Rattle.words.proofs.is_within.Given as goal

abbrev pub invariant-loop-w : goal.invariant-loop-w
invariant-loop-w l = l.ok ≡ every l.w (word_within l.present l.refined)
