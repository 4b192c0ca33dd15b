-- `count_numbers` meets its contract: the fields that are left decide, and the count is of those before them. Assumes nothing.
use mathlib.Core.Path.{◌≡◌}
use Prim.Native.Nat.{◌+◌, ◌-◌, ◌≤◌}
use lib.ListN.{length, drop}
use Rattle.lines.specs.Reading.{all_numbers}
use Rattle.lines.specs.Steps.{fields_behind}
use Rattle.lines.proofs.count_numbers.Given as goal

abbrev pub invariant-loop-at : goal.invariant-loop-at
invariant-loop-at l = (l.count ≤ l.at) × (all_numbers (fields_behind (drop l.from l.line)) ≡ all_numbers (fields_behind (drop l.at l.line))) × (length (fields_behind (drop l.from l.line)) ≡ l.count + length (fields_behind (drop l.at l.line)))

abbrev pub decreases-loop-at : goal.decreases-loop-at
decreases-loop-at l = length l.line - l.at
