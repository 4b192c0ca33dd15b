-- `locate` meets its contract: the point lies in its cell, and what the outer functions leave of 1 is the middle one's. Assumes nothing.
use native.Mathlib.Omega.{arith}
use Rattle.splines.proofs.Located.{inside, starts, before_le, rest, located}
use Rattle.splines.proofs.locate.Goals as goal

pub overflow_mul-before : goal.overflow_mul-before
overflow_mul-before c = omega (arith, starts c.requires.on_side c.cell_of-cell.ensures)

pub overflow_sub-before : goal.overflow_sub-before
overflow_sub-before c = starts c.requires.on_side c.cell_of-cell.ensures

pub times-requires-clause-j_le_cells : goal.times-requires-clause-j_le_cells
times-requires-clause-j_le_cells c = omega (arith, inside c.requires.on_side c.cell_of-cell.ensures)

pub overflow_sub-parts : goal.overflow_sub-parts
overflow_sub-parts c = before_le c.requires.on_side c.cell_of-cell.ensures

pub overflow_add-cell : goal.overflow_add-cell
overflow_add-cell c = omega (arith, inside c.requires.on_side c.cell_of-cell.ensures)

pub times-requires-2-clause-j_le_cells : goal.times-requires-2-clause-j_le_cells
times-requires-2-clause-j_le_cells c = omega (arith, inside c.requires.on_side c.cell_of-cell.ensures)

pub outer-high-requires : goal.outer-high-requires
outer-high-requires c = (before_le c.requires.on_side c.cell_of-cell.ensures, c.requires.in_room.parts≤)

pub overflow_sub-result : goal.overflow_sub-result
overflow_sub-result c =
    omega (arith, rest c.requires.on_side c.cell_of-cell.ensures c.times.ensures c.outer-low.ensures c.times-2.ensures c.outer-high.ensures)

pub overflow_sub-result-2 : goal.overflow_sub-result-2
overflow_sub-result-2 c =
    omega (arith, rest c.requires.on_side c.cell_of-cell.ensures c.times.ensures c.outer-low.ensures c.times-2.ensures c.outer-high.ensures)

pub returns : goal.returns
returns c = located c.requires.on_side c.cell_of-cell.ensures c.times.ensures c.outer-low.ensures c.times-2.ensures c.outer-high.ensures
