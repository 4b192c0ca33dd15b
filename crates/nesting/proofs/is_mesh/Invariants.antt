-- `nesting::is_mesh` meets its contract. The invariant: the levels so far fit. Assumes nothing.
use mathlib.Core.Path.{◌≡◌}
use Prim.Native.Nat.{◌+◌}
use Rattle.facts.specs.Ranges.{every_from}
use Rattle.grid.specs.Plan.{cell_offset}
use Rattle.nesting.specs.Nested.{nested}
use Rattle.nesting.proofs.is_mesh.Given as goal

abbrev pub invariant-loop-level : goal.invariant-loop-level
invariant-loop-level l = l.ok ≡ every_from 0 (cell_offset l.plan (l.level + 1)) (nested l.plan l.cells)
