-- `measure` meets its contract. Assumes nothing.
use mathlib.Core.Path.{◌≡◌}
use Prim.Native.Nat.{◌*◌, ◌≤◌}
use lib.ListN.{length}
use Rattle.listing.specs.Judged.{last_of}
use Rattle.listing.specs.Cells.{refined_below, refined_bytes}
use Rattle.listing.proofs.measure.Given as goal

abbrev pub invariant-loop-i : goal.invariant-loop-i
invariant-loop-i l = (l.last ≤ l.i) × (l.bytes ≤ 3 * l.i) × (l.bytes ≡ length (refined_bytes l.table l.i)) × (l.last ≡ last_of 0 (refined_below l.table l.i))
    × (l.count ≡ length (refined_below l.table l.i)) × (l.count ≤ l.i)
