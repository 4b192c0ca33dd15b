-- One direction of one level as code finds it, in closed forms: proofs say that these are what the knots make. Definitions only.
use Rattle.std.specs.Prelude.{Bool, ◌&&◌, cond, ◌≡◌, ℕ, zero, suc, min, max, ◌+◌, ◌-◌, ◌*◌, ◌≤◌, ◌<◌, ltb}
use Rattle.grid.specs.declared.Side.{Side}
use Rattle.grid.specs.declared.Span.{Span}
use Rattle.grid.specs.Knots.{is_set}
unfoldable pub use Rattle.grid.specs.Knots.{functions, first_over}

-- how many functions there are up to the first over the last column
unfoldable pub firsts : Side → ℕ
firsts s = functions s - s.degree

-- what a corner on line z, where e more functions begin, makes of a count of columns
unfoldable pub passed : ℕ → ℕ → Bool → ℕ → ℕ
passed e z corner l = cond (corner && ltb z l) (max z (l - e)) l

-- how many columns have a first function below j, with the corners on the level 0 lines 1 to c; u columns stand on one of level 0
unfoldable pub before : ℕ → ℕ → ℕ → ℕ → ℕ → ℕ
before bits e u zero j = j
before bits e u (suc c) j = passed e (suc c * u) (is_set bits (suc c)) (before bits e u c j)

abbrev pub columns_before : Side → ℕ → ℕ
columns_before s j = before s.corners (s.degree - 1) s.unit (s.base - 1) j

-- the columns that function i covers
unfoldable pub support_span : Side → ℕ → Span
support_span s i = record { first = columns_before s (i - s.degree); end = min s.cells (columns_before s (i + 1)) }

-- the columns under a common function with column x
unfoldable pub around_span : Side → ℕ → Span
around_span s x = record {
  first = columns_before s (first_over s x - s.degree);
  end = min s.cells (columns_before s (first_over s x + s.degree + 1));
}

-- what makes a side: whole columns of level 0, and a degree
pub record Sized (s : Side) : Type 0 where
  pub base≥ : 1 ≤ s.base
  pub unit≥ : 1 ≤ s.unit
  pub degree≥ : 1 ≤ s.degree
  pub whole : s.cells ≡ s.base * s.unit

-- what its methods require
pub record SideIn (s : Side) : Type 0 where
  pub sized : Sized s
  pub cells≥ : 1 ≤ s.cells
  pub cells≤ : s.cells ≤ 2048
  pub base≤ : s.base ≤ 16
  pub unit≤ : s.unit ≤ 128
  pub degree≤ : s.degree ≤ 4

-- no corner lies between the columns x to end - 1: their first functions follow one another
pub record Run (s : Side) (x end : ℕ) : Type 0 where
  pub some : x < end
  pub within : end ≤ s.cells
  pub smooth : (y : ℕ) → x ≤ y → y < end → first_over s y ≡ first_over s x + (y - x)
