-- What the steps of a call have: a row and a level of the functions over a point. Definitions only.
use Rattle.std.specs.Prelude.{◌≡◌, List, ℕ, ◌+◌, ◌*◌, ◌≤◌, ◌<◌, T, ℤ, pos, nat_abs, Float, length}
use Rattle.exact.specs.Dyadic.{dyadic}
use Rattle.exact.specs.Sums.{sumℤ}
use Rattle.grid.specs.declared.Plan.{Plan}
use Rattle.grid.specs.Plan.{function_columns_at, function_rows_at, function_offset, function_total}
use Rattle.grid.specs.Range.{InRange}
use Rattle.splines.specs.declared.LocalValues.{LocalValues}
use Rattle.splines.specs.Local.{piece_of}
use Rattle.heights.specs.Heights.{on_mesh, product_of, product_at, places, all_low}

-- ---- what the refusals leave

-- a point of a plan that heights allow
pub record Point (p : Plan) (x y : ℕ) : Type 0 where
  pub range : InRange p
  pub across≤ : p.degree_across ≤ 2
  pub up≤ : p.degree_up ≤ 2
  pub levels≤ : p.levels ≤ 4
  pub inside : T (on_mesh p x y)

pub record OnSurface (p : Plan) (functions : List ℕ) (heights : List ℤ) (x y : ℕ) : Type 0 where
  pub point : Point p x y
  pub of_functions : length functions ≡ function_total p
  pub of_heights : length heights ≡ function_total p
  pub low : T (all_low p functions heights)

-- what the functions of level k add
unfoldable pub level_part : Plan → List ℕ → List ℤ → ℕ → ℕ → ℕ → ℤ
level_part p functions heights x y k =
    sumℤ (function_rows_at p k * function_columns_at p k) (λ i. product_at p functions heights x y (function_offset p k + i))

-- ---- the functions over a point

module _ (functions : List ℕ) (heights : List ℤ) where
  -- a row of functions, of which the first over the point is `first`, and whose value up is v
  unfoldable pub row_sum : ℕ → LocalValues → ℕ → ℤ
  row_sum first across v = sumℤ (across.degree + 1) (λ j. product_of functions heights (first + j) (piece_of across j * v))

  -- the rows over the point, w functions to a row
  unfoldable pub level_sum : ℕ → ℕ → LocalValues → LocalValues → ℤ
  level_sum first w across up = sumℤ (up.degree + 1) (λ i. row_sum (first + i * w) across (piece_of up i))

-- the most that a product has: 65,536 mm
abbrev pub most : ℕ
most = 4398046511104

-- a sum's parts: `unit` is one of them
pub record Unit (levels : ℕ) (unit : Float) : Type 0 where
  pub levels≤ : levels ≤ 4
  pub is : unit ≡ dyadic (places levels) (pos 1)

-- the functions over a point in one row lie in the tables, and what they add is small
pub record Row (functions : List ℕ) (heights : List ℤ) (first : ℕ) (across : LocalValues) (v : ℕ) : Type 0 where
  pub degree≤ : across.degree ≤ 2
  pub in_functions : first + across.degree < length functions
  pub in_heights : first + across.degree < length heights
  pub up≤ : v ≤ 8192
  pub across≤ : (j : ℕ) → j ≤ across.degree → piece_of across j ≤ 8192
  pub small : (j : ℕ) → j ≤ across.degree → nat_abs (product_of functions heights (first + j) (piece_of across j * v)) ≤ most

-- the rows of a level
pub record Rows (functions : List ℕ) (heights : List ℤ) (first w : ℕ) (across up : LocalValues) : Type 0 where
  pub degree≤ : up.degree ≤ 2
  pub row : (i : ℕ) → i ≤ up.degree → Row functions heights (first + i * w) across (piece_of up i)
