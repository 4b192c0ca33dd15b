-- `is_labelled` meets its contract: it lends the room for the labels. Assumes nothing.
use native.Mathlib.Omega.{arith}
use Rattle.grid.proofs.Totals.{functions_bound}
use Rattle.facts.proofs.Zeros.{zeros, part_length}
use Rattle.grid.specs.Bounds.{most_functions}
use Rattle.labels.proofs.is_labelled.Goals as goal

pub slice_bounds-made-end : goal.slice_bounds-made-end
slice_bounds-made-end c = let s = c in omega (arith, functions_bound _ s.requires.mesh_table.sized.range s.requires.functions_len.1)

pub slice_bounds-labelled-end : goal.slice_bounds-labelled-end
slice_bounds-labelled-end c = let s = c in zeros most_functions c.function_total-count.result (omega (arith, functions_bound _ s.requires.mesh_table.sized.range s.requires.functions_len.1))

pub labelled-requires-clause-functions_len : goal.labelled-requires-clause-functions_len
labelled-requires-clause-functions_len c = let r = c.requires in
    (r.functions_len.0, part_length most_functions _ c.function_total-count.ensures (functions_bound _ r.mesh_table.sized.range r.functions_len.1), r.functions_len.1)
