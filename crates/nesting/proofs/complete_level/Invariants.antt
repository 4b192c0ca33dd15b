-- `nesting::complete_level` meets its contract. The invariant: the rows so far have their bytes, and where the next begins. Assumes nothing.
use mathlib.Core.Path.{◌≡◌}
use Prim.Native.Nat.{◌+◌, ◌*◌}
use Rattle.facts.specs.Mapped.{filled}
use Rattle.grid.specs.Plan.{columns_at, cell_offset}
use Rattle.mesh.specs.Mesh.{refined}
use Rattle.nesting.specs.Completed.{completed}
use Rattle.nesting.proofs.complete_level.Given as goal

abbrev pub invariant-loop-row : goal.invariant-loop-row
invariant-loop-row l = l.cells ≡ filled (cell_offset l.plan (l.level + 1)) (l.row * columns_at l.plan (l.level + 1)) (completed l.plan (refined l.initial.cells)) l.initial.cells
