-- `packing::are_small` meets its contract. The invariant: the bytes so far. Assumes nothing.
use mathlib.Core.Path.{◌≡◌, refl}
use native.Mathlib.Omega.{arith}
use lib.ListN.{length}
use Rattle.facts.specs.Bounded.{every}
use Rattle.planes.specs.Bits.{small_at, are_small}
use Rattle.facts.proofs.Bounded.{every_next}
use Rattle.packing.proofs.are_small.Goals as goal

pub loop-cell-init : goal.loop-cell-init
unfolding every
loop-cell-init c = refl

pub loop-cell-preserved : goal.loop-cell-preserved
unfolding small_at
loop-cell-preserved c = every_next c.loop-cell.cell-index _ refl c.loop-cell.invariant

pub returns : goal.returns
unfolding are_small
returns c = let q : c.loop-cell.cell-index ≡ length c.args.cells.now = omega arith in rw q at c.loop-cell.invariant
