-- What a plan alone decides: how long its tables are, where a level stands in them, where a cell lies and what a function covers. An answer is
-- all zeros where there is none: the plan is refused, or it does not have the level, the cell, the place or the function. Definitions only.
use Rattle.std.specs.Prelude.{Bool, ◌&&◌, cond, ℕ, ◌+◌, eqb, ltb}
use Rattle.grid.specs.declared.Plan.{Plan}
use Rattle.grid.specs.declared.Place.{Place}
use Rattle.grid.specs.declared.Rectangle.{Rectangle}
use Rattle.grid.specs.Knots.{knot_on}
use Rattle.grid.specs.Plan.{plan_refusal, columns_at, rows_at, function_columns_at, function_rows_at, cell_offset, function_offset, cell_total, function_total, cell_place, cell_number, function_place, across_at, up_at}
use Rattle.layout.specs.declared.Level.{Level}
use Rattle.layout.specs.declared.CellPlace.{CellPlace}
use Rattle.layout.specs.declared.CellAt.{CellAt}
use Rattle.layout.specs.declared.Support.{Support}

-- the plan gets neither refusal 1 nor refusal 2
abbrev pub is_taken : Plan → Bool
is_taken p = eqb (plan_refusal p) 0

-- T and F
unfoldable pub cells_length : Plan → ℕ
cells_length p = cond (is_taken p) (cell_total p) 0

unfoldable pub functions_length : Plan → ℕ
functions_length p = cond (is_taken p) (function_total p) 0

-- ---- levels: "A level is a run of the table that starts at its offset"

-- the plan has a level k
unfoldable pub has_level : Plan → ℕ → Bool
has_level p k = is_taken p && ltb k p.levels

unfoldable pub level_at : Plan → ℕ → Level
level_at p k =
    cond (has_level p k)
    (record {
      first_cell = cell_offset p k;
      columns = columns_at p k;
      rows = rows_at p k;
      first_function = function_offset p k;
      functions_across = function_columns_at p k;
      functions_up = function_rows_at p k;
    })
    (record { first_cell = 0; columns = 0; rows = 0; first_function = 0; functions_across = 0; functions_up = 0 })

-- ---- cells: "numbered from 0, level by level, row by row"

-- the place of cell c
unfoldable pub place_of : Plan → ℕ → CellPlace
place_of p c =
    let x = cell_place p c in
    cond (ltb c (cells_length p))
    (record { found = 1; level = x.level; row = x.row; column = x.column })
    (record { found = 0; level = 0; row = 0; column = 0 })

-- the plan has a cell at the place
unfoldable pub has_place : Plan → Place → Bool
has_place p x = has_level p x.level && (ltb x.row (rows_at p x.level) && ltb x.column (columns_at p x.level))

-- that cell
unfoldable pub cell_at : Plan → Place → CellAt
cell_at p x = cond (has_place p x) (record { found = 1; cell = cell_number p x }) (record { found = 0; cell = 0 })

-- ---- functions

-- a rectangle as an answer
abbrev pub answered : Rectangle → Support
answered r = record { found = 1; level = r.level; first_row = r.rows.first; end_row = r.rows.end; first_column = r.columns.first; end_column = r.columns.end }

-- what the function at a place covers. "supports follow from the knots": function i of a direction has the knots i to i + p + 1, and covers
-- the columns (or rows) from the line of the first up to that of the last
unfoldable pub support_at : Plan → Place → Support
support_at p x =
    let across = across_at p x.level in
    let up = up_at p x.level in
    record {
      found = 1;
      level = x.level;
      first_row = knot_on up x.row;
      end_row = knot_on up (x.row + p.degree_up + 1);
      first_column = knot_on across x.column;
      end_column = knot_on across (x.column + p.degree_across + 1);
    }

-- what function f covers. "A function's support is the rectangle of both": the cells of its level from the first row and column up to, not
-- including, the end
unfoldable pub support : Plan → ℕ → Support
support p f =
    cond (ltb f (functions_length p)) (support_at p (function_place p f))
    (record { found = 0; level = 0; first_row = 0; end_row = 0; first_column = 0; end_column = 0 })
