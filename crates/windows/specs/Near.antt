-- The least bytes of the neighbourhoods of a level's cells, as a table of windows has them. Definitions only.
use Rattle.std.specs.Prelude.{Bool, not, ◌&&◌, cond, List, ◌≡◌, ℕ, ◌+◌, ◌-◌, ◌*◌, ◌/◌, ◌%◌, ◌≤◌, ◌<◌, eqb, leb, get_or}
use Rattle.facts.specs.Least.{least}
use Rattle.facts.specs.Mapped.{in_run}
use Rattle.grid.specs.declared.Plan.{Plan}
use Rattle.grid.specs.declared.Place.{Place}
use Rattle.grid.specs.Plan.{ratio, rows_at, cell_total, cell_number, CellInside, across_at, up_at, ancestor, near}
use Rattle.grid.specs.Side.{first_over}
use Rattle.grid.specs.Spans.{ancestor_of}
use Rattle.windows.specs.Level.{least_over, wide}

-- a cell of level j has a neighbourhood: "m not 0 .. level j with j-m+1 at least 0"
unfoldable pub has_near : Plan → ℕ → Bool
has_near p j = not (eqb p.class 0) && leb p.class (j + 1)

-- the least byte of the neighbourhood of the cell c; 2 where it has none
unfoldable pub least_near : Plan → List ℕ → ℕ → ℕ
least_near p cells c = least 2 (cell_total p) (λ d. cond (near p c d) (get_or cells d 0) 2)

-- ---- the table: of level k, on which the ancestors are

-- each byte as many times as columns stand on one
unfoldable pub repeated : Plan → List ℕ → ℕ → ℕ
repeated p from x = get_or from (ancestor p 1 x) 0

-- there are such bytes
pub record RepeatIn (p : Plan) (n size room : ℕ) : Type 0 where
  pub out≤ : n ≤ room
  pub from< : (x : ℕ) → x < n → ancestor p 1 x < size

-- in row y of the level before k, the byte of the column on which column x of level k stands
unfoldable pub above_byte : Plan → List ℕ → ℕ → ℕ → ℕ → ℕ
above_byte p cells k y x = get_or cells (cell_number p (record { level = k - 1; row = y; column = ancestor p 1 x })) 0

-- how far windows go: across twice the degree, up twice the degree and to the last of the rows that stand on one
abbrev pub near_across : Plan → ℕ
near_across p = 2 * p.degree_across

abbrev pub near_up : Plan → ℕ
near_up p = 2 * p.degree_up + (ratio p - 1)

-- the least of these bytes, of the rows of which the first row on them has its first function in row j or at most so far before it, and of
-- the columns whose first functions are in column i or before it likewise
unfoldable pub near_least : Plan → List ℕ → ℕ → ℕ → ℕ → ℕ
near_least p cells k j i =
    least 2 (rows_at p (k - 1)) (λ y. cond (in_run (first_over (up_at p k) (y * ratio p)) (near_up p + 1) j) (least_over (across_at p k) (near_across p) i (above_byte p cells k y)) 2)

-- the table of these
unfoldable pub near_leasts : Plan → List ℕ → ℕ → ℕ → ℕ
near_leasts p cells k t = near_least p cells k (t / wide p k (near_across p)) (t % wide p k (near_across p))

-- ---- what is read

-- where the table has the least byte for the cell whose ancestor is at a: the degrees after its first functions
unfoldable pub near_index : Plan → Place → ℕ
near_index p a =
    (first_over (up_at p a.level) a.row + p.degree_up) * wide p a.level (near_across p) + (first_over (across_at p a.level) a.column + p.degree_across)

-- what is read there for the cell at x
unfoldable pub near_byte : Plan → List ℕ → Place → ℕ
near_byte p table x = cond (has_near p x.level) (get_or table (near_index p (ancestor_of p x)) 0) 2

-- the table of the neighbourhoods of the cells of level j
pub record NearTable (p : Plan) (cells table : List ℕ) (j : ℕ) : Type 0 where
  pub made : (x : Place) → CellInside p x → x.level ≡ j → near_byte p table x ≡ least_near p cells (cell_number p x)
