-- The children of a function in one direction, the functions of the next level that it is the sum of, by its own knots alone: what code
-- computes. That these are the coefficients of formula 2 is a law (Claims.antt, `children`). Definitions only.
use Rattle.std.specs.Prelude.{◌&&◌, cond, ℕ, ◌+◌, ◌-◌, ◌/◌, ◌^◌, eqb, leb}
use Rattle.grid.specs.declared.Side.{Side}
use Rattle.grid.specs.Knots.{knot_on}
use Rattle.twoscale.specs.declared.Children.{Children}

-- function i has the knots i to i + p + 1. Its children are the functions i + t to i + t' of the next level, where t and t' are the lines of
-- its first and its last knot: one more than the cells that it covers. The first child gets 1 / 2 ^ d, where d lines lie between the first
-- knot and the last but one; the last child likewise, from the second knot to the last; one between them gets 1 where the second knot and the
-- last but one lie on one line, else 3/4
unfoldable pub children_of : Side → ℕ → Children
children_of s i =
    let p = s.degree in
    let first = knot_on s i in
    let second = knot_on s (i + 1) in
    let lastButOne = knot_on s (i + p) in
    let last = knot_on s (i + p + 1) in
    record {
      first = i + first;
      last = i + last;
      low = 4 / 2 ^ (lastButOne - first);
      middle = cond (eqb second lastButOne) 4 3;
      high = 4 / 2 ^ (last - second);
    }

-- the quarters of function j of the next level
unfoldable pub quarters_of : Children → ℕ → ℕ
quarters_of a j =
    cond (leb a.first j && leb j a.last)
    (cond (eqb j a.first) a.low (cond (eqb j a.last) a.high a.middle))
    0
