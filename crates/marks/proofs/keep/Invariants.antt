-- `keep` meets its contract. The invariant: the bytes passed are written, and those ahead are as they were. Assumes nothing.
use mathlib.Core.Path.{◌≡◌}
use Prim.Native.Nat.{ℕ, ◌≤◌}
use lib.ListN.{get_or, take}
use Rattle.facts.specs.Numbers.{tabulate}
use Rattle.marks.specs.Marks.{common_at}
use Rattle.marks.proofs.keep.Given as goal

abbrev pub invariant-loop-i : goal.invariant-loop-i
invariant-loop-i l = (take l.i l.flags ≡ tabulate l.i (common_at l.initial.flags l.table)) × ((x : ℕ) → l.i ≤ x → get_or l.flags x 0 ≡ get_or l.initial.flags x 0)
