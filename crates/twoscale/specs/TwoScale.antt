-- Document 000, formula 2: a function is the sum of functions of the next level, each times its two-scale coefficient. Here of one
-- direction: s is the side of a level and s' that of the next, whose cells are halves. Definitions only.
use Rattle.std.specs.Prelude.{ℕ, suc, ◌+◌, ◌*◌, ◌/◌}
use Rattle.grid.specs.declared.Side.{Side}
use Rattle.grid.specs.Knots.{knot_on}
use Rattle.splines.specs.Values.{basis, scale, cell_of, from}

-- how much of function j of the next level is in function i, by knot insertion: the recursion of Cox and de Boor over the knots of function
-- i, whose steps take their factors at the inner knots of function j, one after the other. Lines of the next level are points of this one, 2
-- to a cell; `scale 2 p` make 1
unfoldable pub coefficient : Side → Side → ℕ → ℕ → ℕ
coefficient s s' i j =
    basis 2 (cell_of 2 s.cells (knot_on s' (j + 1))) (λ d. knot_on s' (j + suc d)) s.degree (from (knot_on s) i)

-- in quarters, at degrees 1 and 2
unfoldable pub quarters : Side → Side → ℕ → ℕ → ℕ
quarters s s' i j = coefficient s s' i j * 4 / scale 2 s.degree
