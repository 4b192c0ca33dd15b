-- `no_corners` meets its contract. Assumes nothing.
use mathlib.Core.Path.{refl}
use Rattle.files.specs.File.{no_corners}
use Rattle.files.proofs.no_corners.Goals as goal

pub returns : goal.returns
unfolding no_corners
returns c = refl
