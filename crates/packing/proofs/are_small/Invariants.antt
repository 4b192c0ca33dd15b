-- `packing::are_small` meets its contract. The invariant: the bytes so far. Assumes nothing.
use mathlib.Core.Path.{◌≡◌}
use Rattle.facts.specs.Bounded.{every}
use Rattle.planes.specs.Bits.{small_at}
use Rattle.packing.proofs.are_small.Given as goal

abbrev pub invariant-loop-cell : goal.invariant-loop-cell
invariant-loop-cell l = l.ok ≡ every l.cell-index (small_at l.cells)
