-- The layout of small plans, worked by hand: one table under one theorem. Assumes nothing.
use mathlib.Core.Path.{◌≡◌, refl}
use mathlib.Core.List.{List, [], ◌∷◌}
use Prim.Native.Nat.{ℕ}
use Rattle.grid.specs.declared.Plan.{Plan}
use Rattle.grid.specs.Numbering.{offset, number, level_of, place_on, place}
use Rattle.grid.specs.Knots.{is_set, is_corner, corners_to, times, knot_from, knot, beyond}
use Rattle.grid.specs.Plan.{plan_of, between, numbers_in_range, corners_in_range, in_range, ratio, grown, too_large, plan_refusal}
use Rattle.layout.specs.Layout.{cells_length, functions_length, has_level, level_at, place_of, has_place, cell_at, support_at, support}

-- answers as lists of their numbers
abbrev lengths : Plan → List ℕ
lengths p = plan_refusal p ∷ cells_length p ∷ functions_length p ∷ []

abbrev level : Plan → ℕ → List ℕ
level p k =
    let l = level_at p k in
    l.first_cell ∷ l.columns ∷ l.rows ∷ l.first_function ∷ l.functions_across ∷ l.functions_up ∷ []

abbrev lies : Plan → ℕ → List ℕ
lies p c = let x = place_of p c in x.found ∷ x.level ∷ x.row ∷ x.column ∷ []

abbrev at : Plan → ℕ → ℕ → ℕ → List ℕ
at p k r c = let x = cell_at p (record { level = k; row = r; column = c }) in x.found ∷ x.cell ∷ []

abbrev covers : Plan → ℕ → List ℕ
covers p f =
    let s = support p f in
    s.found ∷ s.level ∷ s.first_row ∷ s.end_row ∷ s.first_column ∷ s.end_column ∷ []

pub record Row : Type 0 where
  pub answer : List ℕ
  pub worked : List ℕ

abbrev row : List ℕ → List ℕ → Row
row a w = record { answer = a; worked = w }

abbrev pub answers : List Row → List (List ℕ)
answers [] = []
answers (r ∷ rs) = r.answer ∷ answers rs

abbrev pub workings : List Row → List (List ℕ)
workings [] = []
workings (r ∷ rs) = r.worked ∷ workings rs

-- document 01's W2, "T = 63, F = 94"
abbrev w2 : Plan
w2 = plan_of (3 ∷ 1 ∷ 3 ∷ 1 ∷ 1 ∷ 2 ∷ [])

-- degree 2 across and a corner before column 1: the knots of level 0 are 0 0 0 1 1 2 3 3 3
abbrev cornered : Plan
cornered = plan_of (3 ∷ 1 ∷ 2 ∷ 2 ∷ 1 ∷ 0 ∷ 2 ∷ 0 ∷ [])

-- cell 9 begins the upper row of level 1; function 2 covers both sides of the corner. So few that an error shows both sides
pub two : lies w2 9 ∷ covers cornered 2 ∷ [] ≡ (1 ∷ 1 ∷ 1 ∷ 0 ∷ []) ∷ (1 ∷ 0 ∷ 0 ∷ 1 ∷ 0 ∷ 2 ∷ []) ∷ []
unfolding between numbers_in_range corners_in_range in_range ratio grown offset number level_of place_on place too_large plan_refusal is_set is_corner corners_to times knot_from knot beyond cells_length functions_length has_level level_at place_of has_place cell_at support_at support
two = refl

pub table : List Row
table =
    row (lengths w2) (0 ∷ 63 ∷ 94 ∷ [])
    -- refusals 1 and 2 have no lengths: "A = 0", "16 16 5, T = 87,296"
    ∷ row (lengths (plan_of (0 ∷ 1 ∷ 3 ∷ 1 ∷ 1 ∷ 2 ∷ []))) (1 ∷ 0 ∷ 0 ∷ [])
    ∷ row (lengths (plan_of (16 ∷ 16 ∷ 5 ∷ 1 ∷ 1 ∷ 0 ∷ []))) (2 ∷ 0 ∷ 0 ∷ [])
    -- level 1 has 6 by 2 cells from 3 on and 7 by 3 functions from 8 on; there is no level 3
    ∷ row (level w2 1) (3 ∷ 6 ∷ 2 ∷ 8 ∷ 7 ∷ 3 ∷ []) ∷ row (level w2 3) (0 ∷ 0 ∷ 0 ∷ 0 ∷ 0 ∷ 0 ∷ [])
    -- 62 is the last cell; a row of level 1 has no column 6
    ∷ row (lies w2 62) (1 ∷ 2 ∷ 3 ∷ 11 ∷ []) ∷ row (lies w2 63) (0 ∷ 0 ∷ 0 ∷ 0 ∷ [])
    ∷ row (at w2 1 1 0) (1 ∷ 9 ∷ []) ∷ row (at w2 1 1 6) (0 ∷ 0 ∷ []) ∷ row (at w2 1 2 0) (0 ∷ 0 ∷ []) ∷ row (at w2 3 0 0) (0 ∷ 0 ∷ [])
    -- function 1 covers columns 0 and 1; function 16, in row 1 and column 1 of level 1, rows and columns 0 and 1; 93 is the last
    ∷ row (covers w2 1) (1 ∷ 0 ∷ 0 ∷ 1 ∷ 0 ∷ 2 ∷ []) ∷ row (covers w2 16) (1 ∷ 1 ∷ 0 ∷ 2 ∷ 0 ∷ 2 ∷ [])
    ∷ row (covers w2 93) (1 ∷ 2 ∷ 3 ∷ 4 ∷ 11 ∷ 12 ∷ []) ∷ row (covers w2 94) (0 ∷ 0 ∷ 0 ∷ 0 ∷ 0 ∷ 0 ∷ [])
    -- function 1 ends at the corner, function 3 begins there
    ∷ row (lengths cornered) (0 ∷ 15 ∷ 39 ∷ []) ∷ row (level cornered 0) (0 ∷ 3 ∷ 1 ∷ 0 ∷ 6 ∷ 2 ∷ [])
    ∷ row (covers cornered 1) (1 ∷ 0 ∷ 0 ∷ 1 ∷ 0 ∷ 1 ∷ []) ∷ row (covers cornered 3) (1 ∷ 0 ∷ 0 ∷ 1 ∷ 1 ∷ 3 ∷ [])
    ∷ []

pub computed : answers table ≡ workings table
unfolding table between numbers_in_range corners_in_range in_range ratio grown offset number level_of place_on place too_large plan_refusal is_set is_corner corners_to times knot_from knot beyond cells_length functions_length has_level level_at place_of has_place cell_at support_at support
computed = refl
