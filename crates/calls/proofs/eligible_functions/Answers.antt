-- `eligible_functions` meets its contract, as `eligible_cells` does. Assumes nothing.
use mathlib.Core.Path.{ap}
use Rattle.calls.specs.Parts.{direction_of}
use Rattle.calls.proofs.Eligible.{kinds_are, reactivable_bytes, refine_eligible_functions, coarsen_eligible_functions}
use Rattle.calls.proofs.eligible_functions.Goals as goal

pub coarsenable_functions-requires : goal.coarsenable_functions-requires
coarsenable_functions-requires c = let s = c in
    record { in_range = s.requires.in_range; functions_len = (s.requires.cells_len.1, reactivable_bytes s.args.plan s.args.cells.now c.reactivable_cells.ensures, s.requires.scratch.values_are) }

pub returns-in-Refine : goal.returns-in-Refine
returns-in-Refine c = let s = c in
    kinds_are (ap direction_of c.in-Refine.is) c.function_offset.ensures c.copy_bytes.ensures
    (refine_eligible_functions s.args.plan s.requires.in_range.0 s.args.cells.now s.args.functions.now s.requires.cells_len.1)

pub returns-in-Coarsen : goal.returns-in-Coarsen
returns-in-Coarsen c = let a = c.args in
    kinds_are (ap direction_of c.in-Coarsen.is) c.function_total.ensures c.coarsenable_functions.ensures
    (coarsen_eligible_functions a.plan a.cells.now a.functions.now c.reactivable_cells.ensures)
