-- Corners computed: knots, supports and near columns, worked by hand. Assumes nothing.
use mathlib.Core.Path.{◌≡◌, refl}
use mathlib.Core.List.{List, [], ◌∷◌}
use Prim.Native.Nat.{ℕ, zero, suc, ◌+◌, ◌*◌}
use Rattle.facts.specs.Bounded.{some}
use Rattle.facts.specs.Numbers.{tabulate, listed}
use Rattle.grid.specs.declared.Side.{Side}
use Rattle.grid.specs.Knots.{is_set, is_corner, corners_to, times, knot_from, knot, knot_on, beyond, functions, covers, apart, together, first_over}

-- `base` columns on level 0, `unit` of the level on each
abbrev pub side : ℕ → ℕ → ℕ → ℕ → Side
side degree base unit corners = record { cells = base * unit; degree = degree; base = base; unit = unit; corners = corners }

-- the lines of the knots; the columns that each of n functions covers; those near each of n columns
abbrev pub knots : Side → List ℕ
knots s = tabulate (functions s + s.degree + 1) (knot_on s)

abbrev pub supports : Side → ℕ → List (List ℕ) → List (List ℕ)
supports s zero rest = rest
supports s (suc i) rest = supports s i (listed s.cells (covers s i) ∷ rest)

abbrev pub nears : Side → ℕ → List (List ℕ) → List (List ℕ)
nears s zero rest = rest
nears s (suc x) rest = nears s x (listed s.cells (together s x) ∷ rest)

-- 3 columns of degree 2: a corner before column 1 is taken twice; on level 1 it is the line before column 2
pub corner_knots : knots (side 2 3 1 2) ∷ knots (side 2 3 2 2) ∷ [] ≡ (0 ∷ 0 ∷ 0 ∷ 1 ∷ 1 ∷ 2 ∷ 3 ∷ 3 ∷ 3 ∷ []) ∷ (0 ∷ 0 ∷ 0 ∷ 1 ∷ 2 ∷ 2 ∷ 3 ∷ 4 ∷ 5 ∷ 6 ∷ 6 ∷ 6 ∷ []) ∷ []
unfolding is_set is_corner corners_to times knot_from knot beyond functions tabulate
corner_knots = refl

-- one function covers columns on both sides of the corner, two end there and two begin
pub corner_supports : supports (side 2 3 1 2) 6 [] ∷ supports (side 2 3 2 2) 9 [] ∷ []
    ≡ ((0 ∷ []) ∷ (0 ∷ []) ∷ (0 ∷ 1 ∷ []) ∷ (1 ∷ 2 ∷ []) ∷ (1 ∷ 2 ∷ []) ∷ (2 ∷ []) ∷ [])
    ∷ ((0 ∷ []) ∷ (0 ∷ 1 ∷ []) ∷ (0 ∷ 1 ∷ []) ∷ (1 ∷ 2 ∷ []) ∷ (2 ∷ 3 ∷ []) ∷ (2 ∷ 3 ∷ 4 ∷ []) ∷ (3 ∷ 4 ∷ 5 ∷ []) ∷ (4 ∷ 5 ∷ []) ∷ (5 ∷ []) ∷ [])
    ∷ []
unfolding is_set is_corner times knot_from knot covers listed
corner_supports = refl

-- 4 columns of degree 2, a corner before column 2: columns 0 and 2 are two apart, and no function covers both. With no corner one does
pub corner_near : nears (side 2 4 1 4) 4 [] ∷ nears (side 2 4 1 0) 4 [] ∷ []
    ≡ ((0 ∷ 1 ∷ []) ∷ (0 ∷ 1 ∷ 2 ∷ []) ∷ (1 ∷ 2 ∷ 3 ∷ []) ∷ (2 ∷ 3 ∷ []) ∷ [])
    ∷ ((0 ∷ 1 ∷ 2 ∷ []) ∷ (0 ∷ 1 ∷ 2 ∷ 3 ∷ []) ∷ (0 ∷ 1 ∷ 2 ∷ 3 ∷ []) ∷ (1 ∷ 2 ∷ 3 ∷ []) ∷ [])
    ∷ []
unfolding is_set is_corner corners_to times knot_from knot beyond functions covers apart some together listed
corner_near = refl

-- degree 1: a corner changes nothing
pub corner_linear : knots (side 1 3 2 6) ≡ knots (side 1 3 2 0)
unfolding is_set is_corner corners_to times knot_from knot beyond functions tabulate
corner_linear = refl

-- the first functions over the columns, and how many functions there are: p - 1 more at each corner
pub corner_firsts : tabulate 8 (first_over (side 4 4 2 10)) ∷ (functions (side 4 4 2 10) ∷ functions (side 4 4 2 0) ∷ []) ∷ [] ≡ (0 ∷ 1 ∷ 5 ∷ 6 ∷ 7 ∷ 8 ∷ 12 ∷ 13 ∷ []) ∷ (18 ∷ 12 ∷ []) ∷ []
unfolding is_set corners_to beyond functions first_over tabulate
corner_firsts = refl
