-- `nesting::next_level_fits` meets its contract. The invariant: the rows so far fit, and where the next begins. Assumes nothing.
use mathlib.Core.Path.{◌≡◌}
use Prim.Native.Nat.{◌+◌, ◌*◌}
use Rattle.facts.specs.Ranges.{every_from}
use Rattle.grid.specs.Plan.{columns_at, cell_offset}
use Rattle.nesting.specs.Nested.{nested}
use Rattle.nesting.proofs.next_level_fits.Given as goal

abbrev pub invariant-loop-row : goal.invariant-loop-row
invariant-loop-row l = l.ok ≡ every_from (cell_offset l.plan (l.level + 1)) (l.row * columns_at l.plan (l.level + 1)) (nested l.plan l.cells)
