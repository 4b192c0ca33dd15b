-- Values of B-splines of one direction, by the recursion of Cox and de Boor, in whole numbers. A point is a whole number of parts, h of
-- which make a cell, so that line a is the point a * h. Definitions only.
use Rattle.std.specs.Prelude.{Bool, ◌&&◌, ◌||◌, cond, ℕ, zero, suc, min, ◌+◌, ◌-◌, ◌*◌, ◌/◌, eqb, leb, ltb}
use Rattle.grid.specs.declared.Side.{Side}
use Rattle.grid.specs.Knots.{knot_on, functions}

-- the recursion's two factors at step d, (x - a) / (b - a) and (b - x) / (b - a) between the lines a and b, of which d * h make 1; 0 where
-- b is a. Nothing is lost where b - a divides d, as it does up to degree 2
unfoldable pub rise : ℕ → ℕ → ℕ → ℕ → ℕ → ℕ
rise h d a b x = (x - a * h) * d / (b - a)

unfoldable pub fall : ℕ → ℕ → ℕ → ℕ → ℕ → ℕ
fall h d a b x = (b * h - x) * d / (b - a)

-- degree 0: 1 where cell c lies between the lines a and b
unfoldable pub box : ℕ → ℕ → ℕ → ℕ
box a b c = cond (leb a c && ltb c b) 1 0

-- the B-spline of degree d with the knots t 0, t 1, .. t (d + 1), in cell c: by the recursion from the two of one degree less. x d is the
-- point at which step d + 1 takes its factors: for a value always the same one
unfoldable pub basis : ℕ → ℕ → (ℕ → ℕ) → ℕ → (ℕ → ℕ) → ℕ
basis h c x zero t = box (t 0) (t 1) c
basis h c x (suc d) t =
    rise h (suc d) (t 0) (t (suc d)) (x d) * basis h c x d t
    + fall h (suc d) (t 1) (t (suc (suc d))) (x d) * basis h c x d (λ j. t (suc j))

-- what 1 is, at degree d
unfoldable pub scale : ℕ → ℕ → ℕ
scale h zero = 1
scale h (suc d) = suc d * h * scale h d

-- the cell of n that holds the point x: on a line the one behind it, on the far edge the last
unfoldable pub cell_of : ℕ → ℕ → ℕ → ℕ
cell_of h n x = min (x / h) (n - 1)

-- the knots from number i on
abbrev pub from : (ℕ → ℕ) → ℕ → ℕ → ℕ
from t i j = t (i + j)

-- function i over the knots t of n cells, at x; `scale h p` make 1
unfoldable pub value : ℕ → ℕ → ℕ → (ℕ → ℕ) → ℕ → ℕ → ℕ
value h n p t i x = basis h (cell_of h n x) (λ d. x) p (from t i)

-- in the same parts for degrees 1 and 2: 2 * h * h make 1
unfoldable pub value_in : ℕ → ℕ → ℕ → (ℕ → ℕ) → ℕ → ℕ → ℕ
value_in h n p t i x = value h n p t i x * (2 * h * h) / scale h p

-- a side's function i at x
unfoldable pub value_on : Side → ℕ → ℕ → ℕ → ℕ
value_on s h i x = value_in h s.cells s.degree (knot_on s) i x

-- the point x of the side lies inside the support of function i: behind its first knot and before its last. The support's edges do not, but
-- for the side's own ends: these lie inside the supports of the first function and of the last
unfoldable pub is_inside : Side → ℕ → ℕ → ℕ → Bool
is_inside s h i x =
    (eqb i 0 || ltb (knot_on s i * h) x)
    && (eqb (i + 1) (functions s) || ltb x (knot_on s (i + s.degree + 1) * h))
