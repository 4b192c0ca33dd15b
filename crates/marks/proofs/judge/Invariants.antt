-- `judge` meets its contract. The invariant: the marks passed are not refused. Assumes nothing.
use mathlib.Core.Path.{◌≡◌}
use lib.ListN.{drop}
use Rattle.facts.specs.Numbers.{first}
use Rattle.marks.specs.Marks.{verdict}
use Rattle.marks.proofs.judge.Given as goal

abbrev pub invariant-loop-mark : goal.invariant-loop-mark
invariant-loop-mark l = first (verdict l.kinds l.deep) l.marks ≡ first (verdict l.kinds l.deep) (drop l.mark-index l.marks)
