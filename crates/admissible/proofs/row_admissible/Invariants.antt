-- `admissible::row_admissible` meets its contract. The invariant: whether the cells so far pass. Assumes nothing.
use mathlib.Core.Path.{◌≡◌}
use Rattle.facts.specs.Ranges.{every_from}
use Rattle.admissible.specs.Admissible.{cell_admissible}
use Rattle.admissible.proofs.row_admissible.Given as goal

abbrev pub invariant-loop-column : goal.invariant-loop-column
invariant-loop-column l = l.ok ≡ every_from l.at l.column (cell_admissible l.plan l.cells)
