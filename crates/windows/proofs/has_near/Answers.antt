-- `windows::has_near` meets its contract. Assumes nothing.
use mathlib.Core.Path.{refl}
use Rattle.windows.specs.Near.{has_near}
use Rattle.windows.proofs.has_near.Goals as goal

pub returns : goal.returns
unfolding has_near
returns c = refl
