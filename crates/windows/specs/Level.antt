-- A level's cells under windows: each cell stands where its first functions across and up do. Definitions only.
use Rattle.std.specs.Prelude.{cond, List, ℕ, ◌+◌, ◌-◌, ◌*◌, ◌/◌, ◌%◌, ◌≤◌, ◌<◌, ◌≡◌, length, get_or}
use Rattle.facts.specs.Least.{least}
use Rattle.facts.specs.Mapped.{in_run}
use Rattle.grid.specs.declared.Plan.{Plan}
use Rattle.grid.specs.declared.Side.{Side}
use Rattle.grid.specs.Plan.{ratio, columns_at, rows_at, cell_total, function_total, cell_number, across_at, up_at, supported}
use Rattle.grid.specs.Side.{first_over, firsts, SideIn}
use Rattle.windows.specs.Windows.{in_rows}
use Rattle.grid.specs.Range.{InRange}

-- one direction: the least of g at the columns whose first functions are i or at most d before it
unfoldable pub least_over : Side → ℕ → ℕ → (ℕ → ℕ) → ℕ
least_over s d i g = least 2 s.cells (λ x. cond (in_run (first_over s x) (d + 1) i) (g x) 2)

-- a row of cells, each at the place of its first function; 2 where there is none
unfoldable pub placed_row : Side → (ℕ → ℕ) → ℕ → ℕ
placed_row s g i = least_over s 0 i g

-- so many rows of cells, each at the places of its first functions across, and row y where the first function over row y · step of `up`
-- is
unfoldable pub placed : Side → Side → ℕ → ℕ → List ℕ → ℕ → ℕ → ℕ
placed across up step rows from j i =
    least 2 rows (λ y. cond (in_run (first_over up (y * step)) 1 j) (placed_row across (in_rows from across.cells y) i) 2)

-- the first n entries are 2
abbrev pub Twos : ℕ → List ℕ → Type 0
Twos n out = (i : ℕ) → i < n → get_or out i 0 ≡ 2

-- a table of cells and one for them at their places, with `more` columns after them, of these sizes
pub record PlaceIn (across up : Side) (step rows size place more : ℕ) : Type 0 where
  pub across_in : SideIn across
  pub up_in : SideIn up
  pub step≥ : 1 ≤ step
  pub rows≤ : rows * step ≤ up.cells
  pub from≤ : rows * across.cells ≤ size
  pub out≤ : firsts up * (firsts across + more) ≤ place

-- the least byte of the cells of level k whose first functions are in row j and column i or at most `up` and `across` before them
unfoldable pub least_under : Plan → List ℕ → ℕ → ℕ → ℕ → ℕ → ℕ → ℕ
least_under p cells k across up j i =
    least_over (up_at p k) up j (λ y. least_over (across_at p k) across i (λ x. get_or cells (cell_number p (record { level = k; row = y; column = x })) 0))

-- the table of these bytes: its columns and rows
abbrev pub wide : Plan → ℕ → ℕ → ℕ
wide p k across = firsts (across_at p k) + across

abbrev pub high : Plan → ℕ → ℕ → ℕ
high p k up = firsts (up_at p k) + up

-- and its bytes
unfoldable pub level_least : Plan → List ℕ → ℕ → ℕ → ℕ → ℕ → ℕ
level_least p cells k across up t = least_under p cells k across up (t / wide p k across) (t % wide p k across)

-- a table of cells, one of scratch and one for the bytes, of these sizes, hold the level
pub record LevelRoom (p : Plan) (k size room place across up : ℕ) : Type 0 where
  pub range : InRange p
  pub level< : k < p.levels
  pub across≥ : 1 ≤ across
  pub up≥ : 1 ≤ up
  pub cells≤ : cell_total p ≤ size
  pub scratch≤ : high p k up * wide p k across ≤ room
  pub out≤ : high p k up * wide p k across ≤ place

-- n bytes are enough for the table of any level with windows of twice the degrees, and so for that of its functions with windows of the
-- degrees
pub record ValueRoom (p : Plan) (n : ℕ) : Type 0 where
  pub enough : (k : ℕ) → k < p.levels → high p k (2 * p.degree_up) * wide p k (2 * p.degree_across) ≤ n

-- n bytes are enough for the table of the neighbourhoods by the ancestors of any level but the last: these are cells of levels that have
-- finer ones
pub record NearRoom (p : Plan) (n : ℕ) : Type 0 where
  pub enough : (k : ℕ) → k < p.levels - 1 → high p k (2 * p.degree_up + (ratio p - 1)) * wide p k (2 * p.degree_across) ≤ n

-- ---- the functions over a cell

-- the least value of the functions that have the cell in their supports
unfoldable pub least_value : Plan → List ℕ → ℕ → ℕ
least_value p values c = least 2 (function_total p) (λ f. cond (supported p f c) (get_or values f 0) 2)

-- where a table that is wider and higher than a level by twice the degrees has what belongs to the cell in row y and column x
abbrev pub value_at : Side → Side → ℕ → ℕ → ℕ
value_at across up y x = (first_over up y + up.degree) * (firsts across + 2 * across.degree) + (first_over across x + across.degree)

pub record ValueTable (p : Plan) (values table : List ℕ) (k : ℕ) : Type 0 where
  pub long : high p k (2 * p.degree_up) * wide p k (2 * p.degree_across) ≤ length table
  pub made : (y x : ℕ) → y < rows_at p k → x < columns_at p k
      → get_or table (value_at (across_at p k) (up_at p k) y x) 0 ≡ least_value p values (cell_number p (record { level = k; row = y; column = x }))
