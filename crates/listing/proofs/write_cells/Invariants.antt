-- `write_cells` meets its contract. Assumes nothing.
use mathlib.Core.Path.{◌≡◌}
use Prim.Native.Nat.{◌≤◌}
use Rattle.facts.specs.Writing.{Writes}
use Rattle.listing.specs.Judged.{last_of}
use Rattle.listing.specs.Cells.{refined_below, refined_bytes}
use Rattle.listing.proofs.write_cells.Given as goal

abbrev pub invariant-loop-i : goal.invariant-loop-i
invariant-loop-i l = (l.last ≤ l.i) × (l.last ≡ last_of 0 (refined_below l.table l.i)) × Writes l.initial.out l.from (refined_bytes l.table l.i) l.at l.out
