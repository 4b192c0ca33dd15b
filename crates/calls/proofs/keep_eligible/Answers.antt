-- `keep_eligible` meets its contract: both tables have byte 1. Assumes nothing.
use mathlib.Core.Path.{sym, ◌∙◌}
use native.Mathlib.Omega.{arith}
use Rattle.facts.proofs.Zeros.{zeros, part_length}
use Rattle.grid.specs.Bounds.{most_cells}
use Rattle.calls.proofs.Flags.{kept}
use Rattle.calls.proofs.keep_eligible.Goals as goal

pub slice_bounds-kinds-end : goal.slice_bounds-kinds-end
slice_bounds-kinds-end c = zeros most_cells c.cell_total-total.result (omega (arith, c.requires.in_range.1))

pub eligible_cells-requires : goal.eligible_cells-requires
eligible_cells-requires c = let s = c in record { in_range = s.requires.in_range.0; cells_len = (s.requires.cells_len.0, part_length most_cells _ c.cell_total-total.ensures s.requires.in_range.1) }

pub keep-requires : goal.keep-requires
keep-requires c = let s = c in (c.eligible_cells.ensures s.args.cells.now).sized ∙ sym s.requires.cells_len.1

pub returns : goal.returns
returns c = kept c.requires.cells_len.1 c.eligible_cells.ensures c.keep.ensures
