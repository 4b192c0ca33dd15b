-- `write_all` meets its contract: whoever writes what is left has written all the numbers. Assumes nothing.
use mathlib.Core.List.{List}
use Prim.Native.Nat.{ℕ, ◌+◌, ◌≤◌}
use lib.ListN.{length, drop}
use Rattle.facts.specs.Writing.{Writes}
use Rattle.codec.specs.Numbers.{encode_numbers}
use Rattle.codec.proofs.write_all.Given as goal

abbrev pub invariant-loop-n : goal.invariant-loop-n
invariant-loop-n l = (l.at + length (encode_numbers (drop l.n-index l.numbers)) ≤ length l.out)
    × ((f : ℕ) (new : List ℕ) → Writes l.out l.at (encode_numbers (drop l.n-index l.numbers)) f new → Writes l.initial.out l.initial.at (encode_numbers l.numbers) f new)
