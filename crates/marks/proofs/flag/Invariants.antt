-- `flag` meets its contract. The invariant: the flags are those of the marks passed. Assumes nothing.
use mathlib.Core.Path.{◌≡◌}
use lib.ListN.{length, take}
use Rattle.marks.specs.Marks.{with_marks}
use Rattle.marks.proofs.flag.Given as goal

abbrev pub invariant-loop-mark : goal.invariant-loop-mark
invariant-loop-mark l = l.out ≡ with_marks (length l.initial.out) (take l.mark-index l.marks) l.initial.out
