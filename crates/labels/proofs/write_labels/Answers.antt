-- `write_labels` meets its contract: it lends the room for the windows. Assumes nothing.
use native.Mathlib.Nat.{le_of_eq}
use mathlib.Core.Path.{sym}
use native.Mathlib.Omega.{arith}
use Rattle.grid.proofs.Totals.{functions_bound}
use Rattle.facts.proofs.Zeros.{zeros, part_length}
use Rattle.grid.specs.Bounds.{most_functions}
use Rattle.labels.proofs.write_labels.Goals as goal

pub slice_bounds-scratch-end : goal.slice_bounds-scratch-end
slice_bounds-scratch-end c = let s = c in omega (arith, functions_bound _ s.requires.mesh_table.sized.range s.requires.out_len.1)

pub slice_bounds-write_levels-end : goal.slice_bounds-write_levels-end
slice_bounds-write_levels-end c = let s = c in zeros most_functions c.function_total-count.result (omega (arith, functions_bound _ s.requires.mesh_table.sized.range s.requires.out_len.1))

pub write_levels-requires-clause-out_len : goal.write_levels-requires-clause-out_len
write_levels-requires-clause-out_len c = let r = c.requires in
    (r.out_len.0, le_of_eq (sym (part_length most_functions _ c.function_total-count.ensures (functions_bound _ r.mesh_table.sized.range r.out_len.1))))
