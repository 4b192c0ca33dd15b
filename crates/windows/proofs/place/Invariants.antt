-- `windows::place` meets its contract. The invariant: the rows so far are at their places. Assumes nothing.
use mathlib.Core.Path.{◌≡◌}
use mathlib.Core.List.{List}
use Prim.Native.Nat.{ℕ, ◌+◌, ◌*◌}
use Rattle.facts.specs.Mapped.{filled}
use Rattle.grid.specs.Side.{firsts}
use Rattle.windows.proofs.Placed.{table_to}
use Rattle.windows.proofs.place.Given as goal

abbrev pub invariant-loop-row : goal.invariant-loop-row
invariant-loop-row l =
    (xs : List ℕ) → l.initial.out ≡ filled 0 (firsts l.up * (firsts l.across + l.more)) (table_to l.across l.up l.step l.from l.more 0) xs
    → l.out ≡ filled 0 (firsts l.up * (firsts l.across + l.more)) (table_to l.across l.up l.step l.from l.more l.row) xs
