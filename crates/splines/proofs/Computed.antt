-- Knots and values computed from their definitions; the values were worked out in fractions. Assumes nothing.
use mathlib.Core.List.{List, [], ◌∷◌}
use mathlib.Core.Path.{◌≡◌, refl}
use mathlib.Core.Bool.{cond}
use Prim.Native.Nat.{ℕ, ◌*◌}
use Rattle.facts.specs.Numbers.{tabulate}
use Rattle.grid.specs.declared.Side.{Side}
use Rattle.grid.specs.Knots.{is_set, is_corner, corners_to, times, knot_from, knot, knot_on, beyond, functions}
use Rattle.splines.specs.Values.{rise, fall, box, basis, scale, cell_of, value, value_in, value_on, is_inside}

-- the cell of a point of 3 cells, with 8 parts to a cell: on a line the one behind it, on the far edge the last
pub cells : cell_of 8 3 0 ∷ cell_of 8 3 7 ∷ cell_of 8 3 8 ∷ cell_of 8 3 23 ∷ cell_of 8 3 24 ∷ [] ≡ 0 ∷ 0 ∷ 1 ∷ 2 ∷ 2 ∷ []
unfolding cell_of
cells = refl

-- u columns on each of b of level 0, at degree p
abbrev pub side : ℕ → ℕ → ℕ → ℕ → Side
side b u p corners = record { cells = b * u; degree = p; base = b; unit = u; corners = corners }

-- the knots of 4 cells at degree 2; with the corner before column 1 of level 0 on both of two levels; at degree 1 it is a line like any other
pub knots :
    tabulate 9 (knot_on (side 4 1 2 0))
    ∷ tabulate 9 (knot_on (side 3 1 2 2))
    ∷ tabulate 12 (knot_on (side 3 2 2 2))
    ∷ tabulate 6 (knot_on (side 3 1 1 2))
    ∷ []
    ≡ (0 ∷ 0 ∷ 0 ∷ 1 ∷ 2 ∷ 3 ∷ 4 ∷ 4 ∷ 4 ∷ [])
    ∷ (0 ∷ 0 ∷ 0 ∷ 1 ∷ 1 ∷ 2 ∷ 3 ∷ 3 ∷ 3 ∷ [])
    ∷ (0 ∷ 0 ∷ 0 ∷ 1 ∷ 2 ∷ 2 ∷ 3 ∷ 4 ∷ 5 ∷ 6 ∷ 6 ∷ 6 ∷ [])
    ∷ (0 ∷ 0 ∷ 1 ∷ 2 ∷ 3 ∷ 3 ∷ [])
    ∷ []
unfolding tabulate is_set is_corner times knot_from knot
knots = refl

-- of n cells at degree p, the values of all functions at x, with h parts to a cell; 2 * h * h make 1
abbrev pub values_of : Side → ℕ → ℕ → List ℕ
values_of s h x = tabulate (functions s) (λ i. value_on s h i x)

abbrev pub values_at : ℕ → ℕ → ℕ → ℕ → List ℕ
values_at n p h x = values_of (side n 1 p 0) h x

pub worked :
    values_at 3 1 8 0
    ∷ values_at 3 1 8 3
    ∷ values_at 3 1 8 8
    ∷ values_at 3 1 8 24
    ∷ values_at 1 2 8 2
    ∷ values_at 2 2 8 8
    ∷ values_at 2 2 8 11
    ∷ values_at 4 2 8 0
    ∷ values_at 4 2 8 13
    ∷ values_at 4 2 8 20
    ∷ values_at 4 2 8 27
    ∷ values_at 4 2 8 32
    ∷ values_at 3 2 16 24
    ∷ []
    ≡ (128 ∷ 0 ∷ 0 ∷ 0 ∷ [])
    ∷ (80 ∷ 48 ∷ 0 ∷ 0 ∷ [])
    ∷ (0 ∷ 128 ∷ 0 ∷ 0 ∷ [])
    ∷ (0 ∷ 0 ∷ 0 ∷ 128 ∷ [])
    ∷ (72 ∷ 48 ∷ 8 ∷ [])
    ∷ (0 ∷ 64 ∷ 64 ∷ 0 ∷ [])
    ∷ (0 ∷ 25 ∷ 85 ∷ 18 ∷ [])
    ∷ (128 ∷ 0 ∷ 0 ∷ 0 ∷ 0 ∷ 0 ∷ [])
    ∷ (0 ∷ 9 ∷ 94 ∷ 25 ∷ 0 ∷ 0 ∷ [])
    ∷ (0 ∷ 0 ∷ 16 ∷ 96 ∷ 16 ∷ 0 ∷ [])
    ∷ (0 ∷ 0 ∷ 0 ∷ 25 ∷ 85 ∷ 18 ∷ [])
    ∷ (0 ∷ 0 ∷ 0 ∷ 0 ∷ 0 ∷ 128 ∷ [])
    ∷ (0 ∷ 64 ∷ 384 ∷ 64 ∷ 0 ∷ [])
    ∷ []
unfolding tabulate is_set is_corner corners_to times knot_from knot beyond functions rise fall box basis scale cell_of value value_in value_on
worked = refl

-- with a corner: on it one function has all, and none reaches over it; at degree 1 nothing changes
pub worked_corners :
    values_of (side 3 1 2 2) 8 0
    ∷ values_of (side 3 1 2 2) 8 5
    ∷ values_of (side 3 1 2 2) 8 8
    ∷ values_of (side 3 1 2 2) 8 11
    ∷ values_of (side 3 1 2 2) 8 16
    ∷ values_of (side 3 1 2 2) 8 21
    ∷ values_of (side 3 1 2 2) 8 24
    ∷ values_of (side 2 2 2 2) 8 13
    ∷ values_of (side 2 2 2 2) 8 16
    ∷ values_of (side 2 2 2 2) 8 19
    ∷ values_of (side 3 1 1 2) 8 3
    ∷ values_of (side 3 1 1 2) 8 8
    ∷ []
    ≡ (128 ∷ 0 ∷ 0 ∷ 0 ∷ 0 ∷ 0 ∷ [])
    ∷ (18 ∷ 60 ∷ 50 ∷ 0 ∷ 0 ∷ 0 ∷ [])
    ∷ (0 ∷ 0 ∷ 128 ∷ 0 ∷ 0 ∷ 0 ∷ [])
    ∷ (0 ∷ 0 ∷ 50 ∷ 69 ∷ 9 ∷ 0 ∷ [])
    ∷ (0 ∷ 0 ∷ 0 ∷ 64 ∷ 64 ∷ 0 ∷ [])
    ∷ (0 ∷ 0 ∷ 0 ∷ 9 ∷ 69 ∷ 50 ∷ [])
    ∷ (0 ∷ 0 ∷ 0 ∷ 0 ∷ 0 ∷ 128 ∷ [])
    ∷ (0 ∷ 9 ∷ 69 ∷ 50 ∷ 0 ∷ 0 ∷ 0 ∷ [])
    ∷ (0 ∷ 0 ∷ 0 ∷ 128 ∷ 0 ∷ 0 ∷ 0 ∷ [])
    ∷ (0 ∷ 0 ∷ 0 ∷ 50 ∷ 69 ∷ 9 ∷ 0 ∷ [])
    ∷ (80 ∷ 48 ∷ 0 ∷ 0 ∷ [])
    ∷ (0 ∷ 128 ∷ 0 ∷ 0 ∷ [])
    ∷ []
unfolding tabulate is_set is_corner corners_to times knot_from knot beyond functions rise fall box basis scale cell_of value value_in value_on
worked_corners = refl

-- the functions that have a point inside their supports: one on each end of the side and on a corner; on another line those that end or begin
-- there do not
abbrev pub inside_of : Side → ℕ → ℕ → List ℕ
inside_of s h x = tabulate (functions s) (λ i. cond (is_inside s h i x) 1 0)

pub insides :
    inside_of (side 3 1 2 0) 8 0
    ∷ inside_of (side 3 1 2 0) 8 1
    ∷ inside_of (side 3 1 2 0) 8 8
    ∷ inside_of (side 3 1 2 0) 8 12
    ∷ inside_of (side 3 1 2 0) 8 24
    ∷ inside_of (side 3 1 2 2) 8 7
    ∷ inside_of (side 3 1 2 2) 8 8
    ∷ inside_of (side 3 1 2 2) 8 9
    ∷ inside_of (side 3 1 1 2) 8 8
    ∷ inside_of (side 3 1 1 2) 8 9
    ∷ []
    ≡ (1 ∷ 0 ∷ 0 ∷ 0 ∷ 0 ∷ [])
    ∷ (1 ∷ 1 ∷ 1 ∷ 0 ∷ 0 ∷ [])
    ∷ (0 ∷ 1 ∷ 1 ∷ 0 ∷ 0 ∷ [])
    ∷ (0 ∷ 1 ∷ 1 ∷ 1 ∷ 0 ∷ [])
    ∷ (0 ∷ 0 ∷ 0 ∷ 0 ∷ 1 ∷ [])
    ∷ (1 ∷ 1 ∷ 1 ∷ 0 ∷ 0 ∷ 0 ∷ [])
    ∷ (0 ∷ 0 ∷ 1 ∷ 0 ∷ 0 ∷ 0 ∷ [])
    ∷ (0 ∷ 0 ∷ 1 ∷ 1 ∷ 1 ∷ 0 ∷ [])
    ∷ (0 ∷ 1 ∷ 0 ∷ 0 ∷ [])
    ∷ (0 ∷ 1 ∷ 1 ∷ 0 ∷ [])
    ∷ []
unfolding tabulate is_set is_corner corners_to times knot_from knot beyond functions is_inside
insides = refl
