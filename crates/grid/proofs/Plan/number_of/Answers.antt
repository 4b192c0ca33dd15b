-- `Plan::number_of` meets its contract: the number, and each part of its sum, fits. Assumes nothing.
use native.Mathlib.Omega.{arith}
use Rattle.grid.specs.Numbering.{number}
use Rattle.grid.proofs.Small.{number_small}
use Rattle.grid.proofs.Plan.number_of.Goals as goal

pub overflow_mul-result : goal.overflow_mul-result
unfolding number
overflow_mul-result c = let a = c.args in
    rw c.wide-columns.ensures (omega (arith, number_small a.self c.requires.in_range a.across a.up c.requires.beyond a.place c.requires.inside))

pub overflow_add-result : goal.overflow_add-result
unfolding number
overflow_add-result c = let a = c.args in
    rw (c.offset.ensures, c.wide-columns.ensures) (omega (arith, number_small a.self c.requires.in_range a.across a.up c.requires.beyond a.place c.requires.inside))

pub overflow_add-result-2 : goal.overflow_add-result-2
unfolding number
overflow_add-result-2 c = let a = c.args in
    rw (c.offset.ensures, c.wide-columns.ensures) (omega (arith, number_small a.self c.requires.in_range a.across a.up c.requires.beyond a.place c.requires.inside))

pub returns : goal.returns
unfolding number
returns c = rw (c.offset.ensures, c.wide-columns.ensures)
