-- `store_numbers` meets its contract: the numbers before the fields that are left stand at the start of the list. Assumes nothing.
use mathlib.Core.Path.{◌≡◌}
use Prim.Native.Nat.{◌+◌}
use lib.ListN.{length, take, drop}
use mathlib.Core.Bool.{true}
use mathlib.Core.List.{◌++◌, map}
use Rattle.lines.specs.Reading.{all_numbers, value_of}
use Rattle.lines.specs.Steps.{fields_behind}
use Rattle.lines.proofs.store_numbers.Given as goal

abbrev pub invariant-loop-number : goal.invariant-loop-number
invariant-loop-number l = (all_numbers (fields_behind (drop l.at l.line)) ≡ true) × (l.number-index + length (fields_behind (drop l.at l.line)) ≡ length l.numbers)
    × (take l.number-index l.numbers ++ map value_of (fields_behind (drop l.at l.line)) ≡ map value_of (fields_behind (drop l.from l.line)))
