-- `Plan::coarser_span` meets its contract. Assumes nothing.
use mathlib.Core.Path.{ap}
use Prim.Native.Nat.{◌+◌, ◌-◌}
use native.Mathlib.Nat.{div-le_self}
use native.Mathlib.Omega.{arith}
use Rattle.grid.specs.Plan.{ratio, ancestor}
use Rattle.grid.specs.Spans.{coarser_span}
use Rattle.grid.proofs.Spans.{span_same}
use Rattle.grid.proofs.Plan.coarser_span.Goals as goal

pub overflow_add-result : goal.overflow_add-result
unfolding ancestor ratio
overflow_add-result c = rw c.coarser-2.ensures (omega (arith, div-le_self (c.args.span.end - 1) 2))

pub returns : goal.returns
unfolding coarser_span ancestor ratio
returns c = span_same c.coarser.ensures (ap (λ x. x + 1) c.coarser-2.ensures)
