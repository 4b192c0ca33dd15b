-- `windows::repeat` meets its contract. Assumes nothing.
use mathlib.Core.Path.{ap}
use Prim.Native.Nat.{ℕ}
use native.Mathlib.Omega.{arith}
use lib.ListN.{get_or}
use Rattle.facts.proofs.Mapped.{filled_none, fill_next}
use Rattle.windows.specs.Near.{repeated}
use Rattle.windows.proofs.repeat.Goals as goal

pub loop-x-init : goal.loop-x-init
loop-x-init c = filled_none 0 _ _

pub loop-x-preserved : goal.loop-x-preserved
unfolding repeated
loop-x-preserved c = fill_next _ _ _ _ c.loop-x.invariant _ (omega arith) (ap (λ (i : ℕ). get_or c.args.from.now i 0) c.coarser.ensures)
