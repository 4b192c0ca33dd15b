-- `Side::support` meets its contract. Assumes nothing.
use mathlib.Core.Path.{refl}
use native.Mathlib.Omega.{arith}
use Rattle.grid.specs.Side.{support_span}
use Rattle.grid.proofs.Sides.{functions_small}
use Rattle.grid.proofs.Spans.{span_same}
use Rattle.grid.proofs.Side.support.Goals as goal

pub overflow_add-i : goal.overflow_add-i
overflow_add-i c = omega (arith, c.requires.i_bound, functions_small c.args.self c.requires.side_in)

pub returns : goal.returns
unfolding support_span
returns c = span_same
    (rw (c.columns_before-first.ensures, c.saturating_sub.ensures) refl)
    (rw (c.min.ensures, c.columns_before-end.ensures) refl)
