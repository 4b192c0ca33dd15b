-- `word_count` meets its contract. Assumes nothing.
use borrow.Author.Rules.{rules}
use Rattle.planes.specs.Bits.{words_for}
use Rattle.plane_calls.proofs.word_count.Goals as goal

pub returns : goal.returns
unfolding words_for
returns c = search rules
