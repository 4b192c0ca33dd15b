-- `admissible::level_admissible` meets its contract. The invariant: whether the rows so far pass. Assumes nothing.
use mathlib.Core.Path.{◌≡◌}
use Prim.Native.Nat.{◌+◌, ◌*◌}
use Rattle.facts.specs.Ranges.{every_from}
use Rattle.grid.specs.Plan.{columns_at, cell_offset}
use Rattle.admissible.specs.Admissible.{cell_admissible}
use Rattle.admissible.proofs.level_admissible.Given as goal

abbrev pub invariant-loop-row : goal.invariant-loop-row
invariant-loop-row l = (l.at ≡ cell_offset l.plan l.level + l.row * columns_at l.plan l.level) × (l.ok ≡ every_from (cell_offset l.plan l.level) (l.row * columns_at l.plan l.level) (cell_admissible l.plan l.cells))
