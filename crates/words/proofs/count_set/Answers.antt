-- `words::count_set` meets its contract. Assumes nothing.
use mathlib.Core.Path.{◌≡◌, ◌∙◌}
use lib.Count.{ones}
use borrow.Author.Rules.{rules}
use Rattle.std.specs.Prelude.{sum_by}
use Rattle.words.proofs.Loops.{ones_are}
use Rattle.words.proofs.count_set.Goals as goal

pub returns : goal.returns
returns c = let e : c.sum.result ≡ sum_by ones c.args.plane.now = search rules in e ∙ ones_are c.args.plane.now
