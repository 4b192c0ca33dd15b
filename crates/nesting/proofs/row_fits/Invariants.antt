-- `nesting::row_fits` meets its contract. The invariant: the children of the cells so far fit, and where the next begin. Assumes nothing.
use mathlib.Core.Path.{◌≡◌}
use Prim.Native.Nat.{◌*◌}
use Rattle.facts.specs.Ranges.{every_from}
use Rattle.grid.specs.Plan.{ratio}
use Rattle.nesting.specs.Nested.{nested}
use Rattle.nesting.proofs.row_fits.Given as goal

abbrev pub invariant-loop-column : goal.invariant-loop-column
invariant-loop-column l = l.ok ≡ every_from l.row.at (l.column * ratio l.fn.plan) (nested l.fn.plan l.cells)
