-- One level of the grid by itself, as the passes read it: its cells and its functions are counted from the level's first. proofs/ say
-- what of the plan these are. Definitions only.
use Rattle.std.specs.Prelude.{◌&&◌, cond, List, ℕ, ◌+◌, ◌*◌, ◌/◌, ◌%◌, ◌≤◌, eqb, get_or}
use Rattle.grid.specs.declared.Side.{Side}
use Rattle.grid.specs.Side.{first_over, firsts, SideIn}
use Rattle.windows.specs.Level.{value_at}

-- ---- functions: 1 where the byte is 2, deactivated, and the least byte of the support is 1

unfoldable pub picked : List ℕ → List ℕ → ℕ → ℕ
picked functions least j = cond (eqb (get_or functions j 0) 2 && eqb (get_or least j 0) 1) 1 0

-- ---- cells: what a table of windows has for them

unfoldable pub row_read : Side → List ℕ → ℕ → ℕ
row_read across table x = get_or table (first_over across x) 0

unfoldable pub level_read : Side → Side → List ℕ → ℕ → ℕ
level_read across up table j = get_or table (value_at across up (j / across.cells) (j % across.cells)) 0

pub record ReadIn (size room : ℕ) (across up : Side) : Type 0 where
  pub columns : SideIn across
  pub rows : SideIn up
  pub table≤ : (firsts up + 2 * up.degree) * (firsts across + 2 * across.degree) ≤ size
  pub out≤ : up.cells * across.cells ≤ room
