-- `times` meets its contract. Assumes nothing.
use mathlib.Core.Path.{sym, ap, ◌∙◌}
use mathlib.Core.Bool.{Bool, cond}
use Prim.Native.Nat.{◌+◌}
use Rattle.grid.specs.Knots.{is_corner, times}
use Rattle.splines.proofs.times.Goals as goal

pub returns-then-j-side : goal.returns-then-j-side
unfolding times
returns-then-j-side c = let a = c.args in
    sym (ap (λ (b : Bool). cond b (a.side.degree + 1) (cond (is_corner a.side a.j) a.side.degree 1)) c.if-j-side.true)

pub returns-then-is_corner : goal.returns-then-is_corner
unfolding times
returns-then-is_corner c = rw (c.if-j-side.false, sym c.is_corner.ensures ∙ c.if-is_corner.true)

pub returns-else-is_corner : goal.returns-else-is_corner
unfolding times
returns-else-is_corner c = rw (c.if-j-side.false, sym c.is_corner.ensures ∙ c.if-is_corner.false)
