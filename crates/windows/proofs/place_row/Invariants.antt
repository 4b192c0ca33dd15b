-- `windows::place_row` meets its contract. The invariant: the columns so far are at their places. Assumes nothing.
use mathlib.Core.Path.{◌≡◌}
use Prim.Native.Nat.{◌-◌, ◌≤◌}
use Rattle.facts.specs.Mapped.{filled}
use Rattle.grid.specs.Side.{firsts}
use Rattle.windows.proofs.Placed.{row_to}
use Rattle.windows.proofs.place_row.Given as goal

abbrev pub invariant-loop-x : goal.invariant-loop-x
invariant-loop-x l = (l.x ≤ l.side.cells) × (l.out ≡ filled 0 (firsts l.side) (row_to l.side l.from l.x) l.initial.out)

abbrev pub decreases-loop-x : goal.decreases-loop-x
decreases-loop-x l = l.side.cells - l.x
