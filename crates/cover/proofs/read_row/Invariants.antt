-- `cover::read_row` meets its contract. The invariant: the entries so far. Assumes nothing.
use mathlib.Core.Path.{◌≡◌}
use Prim.Native.Nat.{◌-◌, ◌≤◌}
use Rattle.facts.specs.Mapped.{filled}
use Rattle.cover.specs.Level.{row_read}
use Rattle.cover.proofs.read_row.Given as goal

abbrev pub invariant-loop-column : goal.invariant-loop-column
invariant-loop-column l = (l.column ≤ l.across.cells) × (l.out ≡ filled 0 l.column (row_read l.across l.table) l.initial.out)

abbrev pub decreases-loop-column : goal.decreases-loop-column
decreases-loop-column l = l.across.cells - l.column
