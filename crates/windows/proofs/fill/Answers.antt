-- `windows::fill` meets its contract. Assumes nothing.
use mathlib.Core.Path.{◌≡◌, refl}
use native.Mathlib.Omega.{arith}
use Rattle.facts.proofs.Mapped.{filled_none, fill_next}
use Rattle.windows.specs.Windows.{always}
use Rattle.windows.proofs.fill.Goals as goal

pub loop-i-init : goal.loop-i-init
loop-i-init c = filled_none 0 _ _

pub loop-i-preserved : goal.loop-i-preserved
unfolding always
loop-i-preserved c = fill_next _ _ _ _ c.loop-i.invariant _ (omega arith) refl

pub returns : goal.returns
returns c = let q : c.loop-i.i ≡ c.args.n = omega arith in rw q at c.loop-i.invariant
