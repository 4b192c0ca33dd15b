-- `admissible::levels_admissible` meets its contract. The invariant: whether the levels so far pass. Assumes nothing.
use mathlib.Core.Path.{◌≡◌}
use Rattle.facts.specs.Ranges.{every_from}
use Rattle.grid.specs.Plan.{cell_offset}
use Rattle.admissible.specs.Admissible.{cell_admissible}
use Rattle.admissible.proofs.levels_admissible.Given as goal

abbrev pub invariant-loop-level : goal.invariant-loop-level
invariant-loop-level l = l.ok ≡ every_from 0 (cell_offset l.plan l.level) (cell_admissible l.plan l.cells)
