-- `nesting::all_fit` meets its contract. The invariant: the cells so far fit. Assumes nothing.
use mathlib.Core.Path.{◌≡◌}
use Rattle.facts.specs.Ranges.{every_from}
use Rattle.nesting.specs.Nested.{cell_byte_fits}
use Rattle.nesting.proofs.all_fit.Given as goal

abbrev pub invariant-loop-cell : goal.invariant-loop-cell
invariant-loop-cell l = l.ok ≡ every_from l.at l.cell-index (cell_byte_fits l.cells l.most l.present)
