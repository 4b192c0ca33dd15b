-- One direction of one level (a `Side`): the knots on the lines before, between and behind its columns (or rows) of cells, and the functions
-- over them. n columns have the lines 0 to n. Document 02, Req 05, over document 01, "The plan". Definitions only.
use Rattle.std.specs.Prelude.{Bool, ◌&&◌, ◌||◌, cond, ℕ, zero, suc, min, ◌+◌, ◌-◌, ◌*◌, ◌/◌, ◌%◌, ◌^◌, eqb, leb, ltb}
use Rattle.facts.specs.Bounded.{some}
use Rattle.grid.specs.declared.Side.{Side}

-- ---- corners

-- bit k of a number is set
unfoldable pub is_set : ℕ → ℕ → Bool
is_set bits k = eqb (bits / 2 ^ k % 2) 1

-- "bit k set marks the level 0 line before column (or row) k as a corner": line j of the level lies on such a line; `unit` columns of the
-- level stand on one of level 0
unfoldable pub is_corner : Side → ℕ → Bool
is_corner s j = eqb (j % s.unit) 0 && is_set s.corners (j / s.unit)

-- how many corners there are on the level 0 lines 1 to c
unfoldable pub corners_to : ℕ → ℕ → ℕ
corners_to bits zero = 0
corners_to bits (suc c) = corners_to bits c + cond (is_set bits (suc c)) 1 0

-- ---- knots

-- how often the knot on line j is taken: both ends p + 1 times ("open"), a corner p times ("There the knot is repeated p (or q) times on
-- every level"), any other line once
unfoldable pub times : Side → ℕ → ℕ
times s j = cond (eqb j 0 || eqb j s.cells) (s.degree + 1) (cond (is_corner s j) s.degree 1)

-- the line of knot i, counted from line j on: the first m j of these lie on line j itself. Of n lines; 0 behind the last knot
unfoldable pub knot_from : (ℕ → ℕ) → ℕ → ℕ → ℕ → ℕ
knot_from m zero j i = 0
knot_from m (suc n) j i = cond (ltb i (m j)) j (knot_from m n (suc j) (i - m j))

-- the line of knot i, where the knot on line j is taken m j times, of n columns
unfoldable pub knot : (ℕ → ℕ) → ℕ → ℕ → ℕ
knot m n i = knot_from m (suc n) 0 i

-- a side's
abbrev pub knot_on : Side → ℕ → ℕ
knot_on s = knot (times s) s.cells

-- ---- functions: function i has the knots i to i + p + 1

-- how many there are beyond the columns, of `base` columns on level 0: "n + p functions", "p-1 (or q-1) functions for each corner"
unfoldable pub beyond : ℕ → ℕ → ℕ → ℕ
beyond p corners base = p + (p - 1) * corners_to corners (base - 1)

unfoldable pub functions : Side → ℕ
functions s = s.cells + beyond s.degree s.corners s.base

-- function i covers column x. With corners "supports follow from the knots": the columns between its first and its last. With none they are
-- document 01's, "max(0, i-p) to min(n-1, i)"; the knots give the same (Claims.antt, `ByKnots`)
unfoldable pub covers : Side → ℕ → ℕ → Bool
covers s i x =
    cond (eqb s.corners 0)
    (leb (i - s.degree) x && leb x (min (s.cells - 1) i))
    (leb (knot_on s i) x && ltb x (knot_on s (i + s.degree + 1)))

-- x and y differ by at most d
unfoldable pub apart : ℕ → ℕ → ℕ → Bool
apart d x y = leb x (y + d) && leb y (x + d)

-- columns x and y are near each other. With corners they are "covered by a common function". With none, in document 01's words, x "differs
-- by at most p" from y; then a function covers both, and only then (Claims.antt, `ByKnots`)
unfoldable pub together : Side → ℕ → ℕ → Bool
together s x y = cond (eqb s.corners 0) (apart s.degree x y) (some (functions s) (λ i. covers s i x && covers s i y))

-- the first function over column x, in closed form; the last is `degree` later (Claims.antt, `ByKnots`)
unfoldable pub first_over : Side → ℕ → ℕ
first_over s x = x + (s.degree - 1) * corners_to s.corners (x / s.unit)
