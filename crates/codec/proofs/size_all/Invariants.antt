-- `size_all` meets its contract: what is counted and what is left are all the bytes. Assumes nothing.
use mathlib.Core.Path.{◌≡◌}
use Prim.Native.Nat.{◌+◌, ◌*◌, ◌≤◌}
use lib.ListN.{length, drop}
use Rattle.codec.specs.Numbers.{encode_numbers}
use Rattle.codec.proofs.size_all.Given as goal

abbrev pub invariant-loop-n : goal.invariant-loop-n
invariant-loop-n l = (l.bytes + length (encode_numbers (drop l.n-index l.numbers)) ≡ length (encode_numbers l.numbers)) × (l.bytes ≤ 3 * l.n-index)
