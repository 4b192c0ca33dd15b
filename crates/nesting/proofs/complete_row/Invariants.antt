-- `nesting::complete_row` meets its contract. The invariant: the children of the cells so far have their bytes, and where the next begin.
-- Assumes nothing.
use mathlib.Core.Path.{◌≡◌}
use Prim.Native.Nat.{◌*◌}
use Rattle.facts.specs.Mapped.{filled}
use Rattle.grid.specs.Plan.{ratio}
use Rattle.mesh.specs.Mesh.{refined}
use Rattle.nesting.specs.Completed.{completed}
use Rattle.nesting.proofs.complete_row.Given as goal

abbrev pub invariant-loop-column : goal.invariant-loop-column
invariant-loop-column l = l.cells ≡ filled l.row.at (l.column * ratio l.fn.plan) (completed l.fn.plan (refined l.initial.cells)) l.initial.cells
