-- `inexact` meets its contract. Assumes nothing.
use mathlib.Core.Path.{refl}
use Rattle.heights.specs.Heights.{inexact}
use Rattle.heights.proofs.inexact.Goals as goal

pub returns : goal.returns
unfolding inexact
returns c = refl
