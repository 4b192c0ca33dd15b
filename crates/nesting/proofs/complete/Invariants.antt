-- `nesting::complete` meets its contract. The invariant: the levels so far have their bytes. Assumes nothing.
use mathlib.Core.Path.{◌≡◌}
use Prim.Native.Nat.{◌+◌, ◌-◌}
use Rattle.facts.specs.Mapped.{filled}
use Rattle.grid.specs.Plan.{cell_offset}
use Rattle.mesh.specs.Mesh.{refined}
use Rattle.nesting.specs.Completed.{completed}
use Rattle.nesting.proofs.complete.Given as goal

abbrev pub invariant-loop-level : goal.invariant-loop-level
invariant-loop-level l = l.cells ≡ filled (cell_offset l.plan 1) (cell_offset l.plan (l.level + 1) - cell_offset l.plan 1) (completed l.plan (refined l.initial.cells)) l.initial.cells
