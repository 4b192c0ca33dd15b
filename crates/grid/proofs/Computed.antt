-- The plan's definitions computed on small plans: ranges, supports, children and neighbourhoods, one table under one theorem. Assumes
-- nothing.
use Prim.Native.Nat.{ℕ}
use mathlib.Core.Path.{◌≡◌, refl}
use mathlib.Core.Bool.{Bool, true, not, ◌&&◌, ◌||◌}
use mathlib.Core.List.{List, [], ◌∷◌}
use lib.Dec.{T, eqb}
use Rattle.grid.specs.declared.Plan.{Plan}
use Rattle.grid.specs.declared.Place.{Place}
use Rattle.grid.specs.Numbering.{offset, number, level_of, place_on, place}
use Rattle.grid.specs.Plan.{between, numbers_in_range, corners_in_range, in_range, ratio, grown, cell_total, function_total, above, below, parent, child, supported_at, supported, ancestor, common_at, near_at}
use Rattle.grid.specs.Knots.{is_set, is_corner, corners_to, times, knot_from, knot, beyond, functions, covers, apart, together}
use Rattle.grid.specs.Side.{first_over, passed, before, around_span}
use Rattle.grid.specs.Spans.{around, ancestor_of, coarser_span, parents_of, neighbourhood}
use Rattle.facts.specs.Bounded.{some}

abbrev at : ℕ → ℕ → ℕ → Place
at k r c = record { level = k; row = r; column = c }

abbrev plan : ℕ → ℕ → ℕ → ℕ → ℕ → ℕ → Plan
plan a b l p q m = record { columns = a; rows = b; levels = l; degree_across = p; degree_up = q; class = m; corners_across = 0; corners_up = 0 }

-- the same with corners
abbrev cornered : Plan → ℕ → ℕ → Plan
cornered p across up = record {
  columns = p.columns;
  rows = p.rows;
  levels = p.levels;
  degree_across = p.degree_across;
  degree_up = p.degree_up;
  class = p.class;
  corners_across = across;
  corners_up = up;
}

pub data Row : Type 0 where
  -- the plan's numbers are in range; or one is not
  ranges outside : Plan → Row
  -- T and F
  totals : Plan → ℕ → ℕ → Row
  -- cell d is a child of cell c
  child_of : Plan → ℕ → ℕ → Row
  -- cell c lies in the support of function f; or it does not
  supports misses : Plan → ℕ → ℕ → Row
  -- the cell at c is in the neighbourhood of the cell at q; or it is not
  nears fars : Plan → Place → Place → Row

abbrev pub holds : Row → Bool
holds (ranges p) = in_range p
holds (outside p) = not (in_range p)
holds (totals p t f) = eqb (cell_total p) t && eqb (function_total p) f
holds (child_of p c d) = eqb (parent p d) c && (eqb (child p c 0 0) d || eqb (child p c 0 1) d || eqb (child p c 1 0) d || eqb (child p c 1 1) d)
holds (supports p f c) = supported p f c
holds (misses p f c) = not (supported p f c)
holds (nears p q c) = near_at p q c
holds (fars p q c) = not (near_at p q c)

abbrev pub all_hold : List Row → Bool
all_hold [] = true
all_hold (r ∷ rs) = let rest = all_hold rs in holds r && rest

pub table : List Row
table =
    -- "class m (0, or 2 to 8)", degrees 1 to 4, columns 1 to 16
    ranges (plan 16 16 8 4 4 8) ∷ ranges (plan 1 1 1 1 1 0) ∷ outside (plan 1 1 1 1 1 1) ∷ outside (plan 1 1 1 1 1 9) ∷ outside (plan 17 1 1 1 1 0)
    ∷ outside (plan 1 1 1 5 1 0) ∷ outside (plan 0 1 1 1 1 0) ∷ outside (plan 1 1 9 1 1 0)
    -- a corner before each inner column and row; "a bit outside 1 to A-1 (or B-1) is set": bit 0, the bit behind the last, bit 31; of one
    -- column any
    ∷ ranges (cornered (plan 3 2 1 1 1 0) 6 2) ∷ ranges (cornered (plan 16 16 4 4 4 0) 65534 65534) ∷ outside (cornered (plan 3 2 1 1 1 0) 1 0)
    ∷ outside (cornered (plan 3 2 1 1 1 0) 8 0) ∷ outside (cornered (plan 3 2 1 1 1 0) 0 4) ∷ outside (cornered (plan 3 2 1 1 1 0) 0 2147483648)
    ∷ outside (cornered (plan 1 1 1 1 1 0) 2 0)
    -- document 01's W0: T = 63, F = 94
    ∷ totals (plan 3 1 3 1 1 0) 63 94
    -- with a corner before column 1: degree 1 has as many functions; degree 2 has 6 by 3, 9 by 4 and 15 by 6
    ∷ totals (cornered (plan 3 1 3 1 1 0) 2 0) 63 94 ∷ totals (cornered (plan 3 1 3 2 2 0) 2 0) 63 144
    -- cell 1, in column 1 of level 0, has the children in columns 2 and 3, rows 0 and 1 of level 1, which is 6 wide and begins at 3
    ∷ child_of (plan 3 1 3 1 1 0) 1 5 ∷ child_of (plan 3 1 3 1 1 0) 1 6 ∷ child_of (plan 3 1 3 1 1 0) 1 11 ∷ child_of (plan 3 1 3 1 1 0) 1 12
    -- function 1 covers columns 0 and 1; function 0, at the edge, column 0 alone; function 3, at the other edge, column 2 alone
    ∷ supports (plan 3 1 3 1 1 0) 1 0 ∷ supports (plan 3 1 3 1 1 0) 1 1 ∷ misses (plan 3 1 3 1 1 0) 1 2
    ∷ supports (plan 3 1 3 1 1 0) 0 0 ∷ misses (plan 3 1 3 1 1 0) 0 1 ∷ supports (plan 3 1 3 1 1 0) 3 2 ∷ misses (plan 3 1 3 1 1 0) 3 1
    -- a cell of another level lies in no support
    ∷ misses (plan 3 1 3 1 1 0) 0 3
    -- degree 2, a corner before column 1: function 1 ends there, function 2 covers both sides of it, function 3 begins there
    ∷ supports (cornered (plan 3 1 3 2 2 0) 2 0) 1 0 ∷ misses (cornered (plan 3 1 3 2 2 0) 2 0) 1 1 ∷ supports (cornered (plan 3 1 3 2 2 0) 2 0) 2 1
    ∷ misses (cornered (plan 3 1 3 2 2 0) 2 0) 2 2 ∷ misses (cornered (plan 3 1 3 2 2 0) 2 0) 3 0 ∷ supports (cornered (plan 3 1 3 2 2 0) 2 0) 3 2
    -- class 2 and degree 1: with the cell of level 1 in row 2 and column 6 functions cover rows 1 to 3 and columns 5 to 7, which stand on
    -- rows 0 and 1 and columns 2 and 3 of level 0; the cell in row 0 and column 2 is near, though row 1 and column 3 are the ancestor's;
    -- the cell in column 4, beside the ancestor, is not, nor is one in column 5, beside column 6, the first cell's own
    ∷ nears (plan 6 4 2 1 1 2) (at 1 2 6) (at 0 0 2) ∷ nears (plan 6 4 2 1 1 2) (at 1 2 6) (at 0 1 3) ∷ fars (plan 6 4 2 1 1 2) (at 1 2 6) (at 0 1 4)
    ∷ fars (plan 6 4 2 1 1 2) (at 1 2 6) (at 0 2 3) ∷ fars (plan 6 4 2 1 1 2) (at 1 2 6) (at 0 1 5)
    -- class 3: the cells of level 2 on that cell have the same neighbours
    ∷ nears (plan 6 4 3 1 1 3) (at 2 5 13) (at 0 0 2) ∷ fars (plan 6 4 3 1 1 3) (at 2 5 13) (at 0 1 4)
    -- degree 2, with a corner before column 2: of level 1, column 4 has a function in common with column 3, before the corner, which stands on
    -- column 1; column 5 has none; without the corner it has one
    ∷ nears (cornered (plan 4 1 2 2 1 2) 4 0) (at 1 0 4) (at 0 0 1) ∷ fars (cornered (plan 4 1 2 2 1 2) 4 0) (at 1 0 5) (at 0 0 1)
    ∷ nears (plan 4 1 2 2 1 2) (at 1 0 5) (at 0 0 1) ∷ fars (plan 4 1 2 2 1 2) (at 1 0 5) (at 0 0 0)
    -- class 0: no cell has a neighbourhood
    ∷ fars (plan 6 4 2 1 1 0) (at 1 2 6) (at 0 1 3)
    ∷ []

-- the neighbourhood as a rectangle: its level, its rows and its columns, first and end
abbrev rectangle_of : Plan → Place → List ℕ
rectangle_of p q =
    let r = neighbourhood p q in
    r.level ∷ r.rows.first ∷ r.rows.end ∷ r.columns.first ∷ r.columns.end ∷ []

-- of the cell of level 1 in row 2 and column 6, above; of one on it in class 3; of its neighbour to the right, whose columns begin at 3; of the
-- first cell
pub rectangles :
    rectangle_of (plan 6 4 2 1 1 2) (at 1 2 6) ∷ rectangle_of (plan 6 4 3 1 1 3) (at 2 5 13) ∷ rectangle_of (plan 6 4 2 1 1 2) (at 1 2 7) ∷ rectangle_of (plan 6 4 2 1 1 2) (at 1 0 0) ∷ []
    ≡ (0 ∷ 0 ∷ 2 ∷ 2 ∷ 4 ∷ []) ∷ (0 ∷ 0 ∷ 2 ∷ 2 ∷ 4 ∷ []) ∷ (0 ∷ 0 ∷ 2 ∷ 3 ∷ 5 ∷ []) ∷ (0 ∷ 0 ∷ 1 ∷ 0 ∷ 1 ∷ []) ∷ []
unfolding ratio grown is_set corners_to beyond functions ancestor neighbourhood parents_of coarser_span around ancestor_of around_span before passed first_over
rectangles = refl

pub computed : T (all_hold table)
unfolding table between numbers_in_range corners_in_range in_range ratio grown offset number level_of place_on place above below parent child is_set is_corner corners_to times knot_from knot beyond functions covers apart some together supported_at supported ancestor common_at near_at
computed = tt
