-- `unmarked` meets its contract. The invariant: the bytes passed are written. Assumes nothing.
use mathlib.Core.Path.{◌≡◌}
use lib.ListN.{take}
use Rattle.facts.specs.Numbers.{tabulate}
use Rattle.marks.specs.Marks.{unmarked_at}
use Rattle.marks.proofs.unmarked.Given as goal

abbrev pub invariant-loop-i : goal.invariant-loop-i
invariant-loop-i l = take l.i l.out ≡ tabulate l.i (unmarked_at l.table)
