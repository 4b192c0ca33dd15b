-- `Side::around` meets its contract. Assumes nothing.
use mathlib.Core.Path.{refl}
use native.Mathlib.Omega.{arith}
use Rattle.grid.specs.Side.{around_span}
use Rattle.grid.proofs.Sides.{first_small}
use Rattle.grid.proofs.Spans.{span_same}
use Rattle.grid.proofs.Side.around.Goals as goal

pub overflow_add-over : goal.overflow_add-over
overflow_add-over c = omega (arith, c.first_over-over.ensures, first_small c.args.self c.requires.side_in c.args.x c.requires.x_lt_cells, c.requires.side_in)

pub overflow_add-over-2 : goal.overflow_add-over-2
overflow_add-over-2 c = omega (arith, c.first_over-over.ensures, first_small c.args.self c.requires.side_in c.args.x c.requires.x_lt_cells, c.requires.side_in)

pub returns : goal.returns
unfolding around_span
returns c = span_same
    (rw (c.columns_before-first.ensures, c.saturating_sub.ensures, c.first_over-over.ensures) refl)
    (rw (c.min.ensures, c.columns_before-end.ensures, c.first_over-over.ensures) refl)
