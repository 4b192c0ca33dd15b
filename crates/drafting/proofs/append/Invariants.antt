-- `append` meets its contract. The invariant: the marks passed are written. Assumes nothing.
use mathlib.Core.Path.{◌≡◌}
use lib.ListN.{take}
use Rattle.facts.specs.Writing.{written_at}
use Rattle.drafting.proofs.append.Given as goal

abbrev pub invariant-loop-i : goal.invariant-loop-i
invariant-loop-i l = l.list ≡ written_at l.initial.list l.at (take l.i l.marks)
