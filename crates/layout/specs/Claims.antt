-- What is claimed of a plan's layout: of any plan, taken or refused. proofs/Results.antt proves it. Definitions only.
use Rattle.std.specs.Prelude.{◌≡◌, Bool, ◌&&◌, cond, List, ℕ, ◌+◌, ◌*◌, ◌≤◌, ◌<◌, eqb, leb, ltb, length}
use Rattle.grid.specs.declared.Plan.{Plan}
use Rattle.grid.specs.declared.Place.{Place}
use Rattle.grid.specs.Plan.{plan_refusal, supported}
use Rattle.mesh.specs.Mesh.{refusal3}
use Rattle.layout.specs.declared.Level.{Level}
use Rattle.layout.specs.declared.CellPlace.{CellPlace}
use Rattle.layout.specs.declared.Support.{Support}
use Rattle.layout.specs.Layout.{is_taken, cells_length, functions_length, level_at, place_of, cell_at, support_at, support}

-- the cell lies in the rectangle: on its level, from the first row and column up to, not including, the end
unfoldable pub is_in : Support → CellPlace → Bool
is_in s c =
    eqb s.level c.level
    && ((leb s.first_column c.column && ltb c.column s.end_column)
    && (leb s.first_row c.row && ltb c.row s.end_row))

-- the rectangle is not empty, and has cells of its level alone
pub record Within (l : Level) (s : Support) : Type 0 where
  pub rows> : s.first_row < s.end_row
  pub rows≤ : s.end_row ≤ l.rows
  pub columns> : s.first_column < s.end_column
  pub columns≤ : s.end_column ≤ l.columns

pub record Claims (p : Plan) : Type 0 where
  -- the lengths are those that open and check ask for: refusals 1 and 2 are the plan's, and 3 is given to tables of any other length
  pub lengths : (cells functions : List ℕ)
      → refusal3 p cells functions
      ≡ cond (is_taken p) (cond (eqb (length cells) (cells_length p) && eqb (length functions) (functions_length p)) 0 3) (plan_refusal p)
  -- a level's cells and functions are numbered row by row, from its first on
  pub cell_number : (x : Place) → (cell_at p x).found ≡ 1
      → let l = level_at p x.level in (cell_at p x).cell ≡ l.first_cell + x.row * l.columns + x.column
  pub function_number : (x : Place) → let l = level_at p x.level in x.row < l.functions_up → x.column < l.functions_across
      → support p (l.first_function + x.row * l.functions_across + x.column) ≡ support_at p x
  -- the place of a cell and the cell of a place undo each other
  pub back : (c : ℕ) → c < cells_length p
      → let x = place_of p c in cell_at p (record { level = x.level; row = x.row; column = x.column }) ≡ record { found = 1; cell = c }
  pub forth : (x : Place) → (cell_at p x).found ≡ 1
      → place_of p (cell_at p x).cell ≡ record { found = 1; level = x.level; row = x.row; column = x.column }
  -- a cell lies in the answered rectangle just where it lies in the function's support
  pub covers : (f c : ℕ) → f < functions_length p → c < cells_length p → is_in (support p f) (place_of p c) ≡ supported p f c
  pub within : (f : ℕ) → f < functions_length p → Within (level_at p (support p f).level) (support p f)
