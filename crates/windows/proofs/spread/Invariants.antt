-- `windows::spread` meets its contract. The invariant: the rows so far. Assumes nothing.
use mathlib.Core.Path.{◌≡◌}
use Prim.Native.Nat.{◌+◌, ◌*◌}
use Rattle.facts.specs.Mapped.{filled}
use Rattle.windows.specs.Windows.{in_rows, row_slid}
use Rattle.windows.proofs.spread.Given as goal

abbrev pub invariant-loop-row : goal.invariant-loop-row
invariant-loop-row l = l.out ≡ filled 0 (l.row * (l.columns + l.across)) (row_slid (in_rows l.from l.columns) l.columns l.across 1) l.initial.out
