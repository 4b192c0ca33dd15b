-- `Side::is_corner` meets its contract. Assumes nothing.
use mathlib.Core.Path.{refl}
use Rattle.grid.specs.Knots.{is_set, is_corner}
use Rattle.grid.proofs.Side.is_corner.Goals as goal

pub returns : goal.returns
unfolding is_corner is_set
returns c = refl
