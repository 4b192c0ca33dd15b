-- How many cells and functions a plan has: T's closed form, and the largest F. Assumes nothing.
use Prim.Native.Nat.{ℕ, zero, suc, ◌+◌, ◌-◌, ◌*◌, ◌/◌, ◌^◌, ◌≤◌, ◌<◌}
use native.Mathlib.Nat.{pow-zero, pow-suc, mul-one, mul-sub, mul-le-mul, le_trans, div-eq_of_eq-mul_right}
use native.Mathlib.Omega.{arith}
use mathlib.Core.Bool.{Bool, ◌&&◌}
use mathlib.Core.Path.{◌≡◌, refl, ap, sym}
use lib.Dec.{T, leb, leb→le, le→leb, lit≤}
use Rattle.facts.specs.Bounded.{implies, every}
use Rattle.facts.proofs.Bounded.{every_e}
use Rattle.facts.proofs.Tests.{and_i, implies_e}
use Rattle.grid.specs.declared.Plan.{Plan}
use Rattle.grid.specs.Numbering.{offset}
use Rattle.grid.specs.Plan.{ratio, grown, columns_at, rows_at, function_columns_at, function_rows_at, cell_offset, cell_total, function_total}
use Rattle.grid.specs.Knots.{is_set, corners_to, beyond}
use Rattle.grid.specs.Range.{InRange}
use Rattle.grid.specs.Bounds.{most_cells, most_functions, most_near}
use Rattle.grid.proofs.Numbering.{level_ends}
use Rattle.grid.proofs.Knots.{corners_le}

-- ---- T = A·B·(4^L - 1)/3

pow_mul : (s t k : ℕ) → s ^ k * t ^ k ≡ (s * t) ^ k
pow_mul s t zero = simp (pow-zero, mul-one)
pow_mul s t (suc k) = simp pow-suc (omega (arith, ap (λ x. x * (s * t)) (pow_mul s t k)))

grown_area : (s t a b k : ℕ) → grown t b k * grown s a k ≡ a * b * (s * t) ^ k
unfolding grown
grown_area s t a b k = rw (← pow_mul) (omega arith)

-- the sum of a geometric row, with no difference and no quotient; s and t are the ratios across and up
pub closed : (s t a b k : ℕ) → offset (grown s a) (grown t b) k * (s * t) + a * b ≡ offset (grown s a) (grown t b) k + a * b * (s * t) ^ k
unfolding offset
closed s t a b zero = rw pow-zero (omega arith)
closed s t a b (suc k) = rw (grown_area s t a b k, pow-suc) (omega (arith, closed s t a b k))

pub cells_closed : (p : Plan) (k : ℕ) → 3 * cell_offset p k + p.columns * p.rows ≡ p.columns * p.rows * 4 ^ k
unfolding ratio
cells_closed p k = omega (arith, closed 2 2 p.columns p.rows k)

-- "T = A·B·(4^L - 1)/3"
pub cell_total_lem : (p : Plan) → cell_total p ≡ p.columns * p.rows * (4 ^ p.levels - 1) / 3
cell_total_lem p = sym (div-eq_of_eq-mul_right (lit≤ tt) (rw mul-sub (omega (arith, cells_closed p p.levels))))

-- ---- the largest F by the largest T: F grows with the degrees and the corners, and with the most of both each shape is tried

pub offset_le : (w h u v : ℕ → ℕ) → ((k : ℕ) → w k ≤ u k) → ((k : ℕ) → h k ≤ v k) → (k : ℕ) → offset w h k ≤ offset u v k
unfolding offset
offset_le w h u v f g zero = omega arith
offset_le w h u v f g (suc k) = omega (arith, offset_le w h u v f g k, mul-le-mul (g k) (f k))

-- the most functions that a row of a columns can have: degree 4, and a corner on each inner line
abbrev most : ℕ → ℕ → ℕ
most a k = grown 2 a k + (4 + 3 * (a - 1))

-- a plan of this shape, of degree 4, with all corners
abbrev shape : ℕ → ℕ → ℕ → Plan
shape L a b = record {
  columns = a;
  rows = b;
  levels = L;
  degree_across = 4;
  degree_up = 4;
  class = 0;
  corners_across = 2 ^ a - 2;
  corners_up = 2 ^ b - 2;
}

beyond_most : (degree corners base : ℕ) → degree ≤ 4 → beyond degree corners base ≤ 4 + 3 * (base - 1)
unfolding beyond
beyond_most degree corners base d =
    let h : degree - 1 ≤ 3 = omega arith in
    omega (arith, mul-le-mul h (corners_le corners (base - 1)))

-- where such a plan has at most `limit` cells, it has at most `bound` functions
unfoldable fits : ℕ → ℕ → ℕ → ℕ → ℕ → Bool
fits limit bound L a b = implies (leb 1 a && (leb 1 b && leb (cell_total (shape L a b)) limit)) (leb (offset (most a) (most b) L) bound)

abbrev rows_fit : ℕ → ℕ → ℕ → ℕ → Bool
rows_fit limit bound L a = every 17 (fits limit bound L a)

abbrev shapes_fit : ℕ → ℕ → ℕ → Bool
shapes_fit limit bound L = every 17 (rows_fit limit bound L)

module _ (limit bound : ℕ) (all_fit : T (every 9 (shapes_fit limit bound))) where
  fits_fact : (L a b : ℕ) → T (fits limit bound L a b) → 1 ≤ a → 1 ≤ b → cell_total (shape L a b) ≤ limit → offset (most a) (most b) L ≤ bound
  unfolding fits
  fits_fact L a b t x y m =
      leb→le _ _ (implies_e (leb 1 a && (leb 1 b && leb (cell_total (shape L a b)) limit)) _ t
      (and_i (leb 1 a) _ (le→leb 1 a x) (and_i (leb 1 b) _ (le→leb 1 b y) (le→leb _ _ m))))

  functions_within : (p : Plan) → InRange p → cell_total p ≤ limit → function_total p ≤ bound
  unfolding ratio
  functions_within p r m =
      let f1 = every_e 9 (shapes_fit limit bound) all_fit p.levels (omega arith) in
      let f2 = every_e 17 (rows_fit limit bound p.levels) f1 p.columns (omega arith) in
      let f3 = every_e 17 (fits limit bound p.levels p.columns) f2 p.rows (omega arith) in
      le_trans
      (offset_le (function_columns_at p) (function_rows_at p) (most p.columns) (most p.rows) (λ k. omega (arith, beyond_most p.degree_across p.corners_across p.columns r.across≤)) (λ k. omega (arith, beyond_most p.degree_up p.corners_up p.rows r.up≤)) p.levels)
      (fits_fact p.levels p.columns p.rows f3 r.columns≥ r.rows≥ m)

pub functions_bound : (p : Plan) → InRange p → cell_total p ≤ most_cells → function_total p ≤ most_functions
unfolding every fits offset grown ratio
functions_bound = functions_within most_cells most_functions tt

-- the session program's walls have at most 4,096 cells
pub session_functions_bound : (p : Plan) → InRange p → cell_total p ≤ 4096 → function_total p ≤ 18001
unfolding every fits offset grown ratio
session_functions_bound = functions_within 4096 18001 tt

-- and no smaller bounds hold: 16 16 4 and 15 13 3 of degree 4, with all corners, have as many
pub functions_reached : (p : Plan) × InRange p × (cell_total p ≤ most_cells) × (function_total p ≡ most_functions)
unfolding offset grown ratio beyond corners_to is_set
functions_reached = (shape 4 16 16, omega arith, lit≤ tt, refl)

pub session_functions_reached : (p : Plan) × InRange p × (cell_total p ≤ 4096) × (function_total p ≡ 18001)
unfolding offset grown ratio beyond corners_to is_set
session_functions_reached = (shape 3 15 13, omega arith, lit≤ tt, refl)

-- ---- one level with a place for each first function, and twice the degrees more: the tables of windows

-- of n columns, a on level 0: three functions more begin at each corner, and 8 is twice the greatest degree
abbrev pub spacious : ℕ → ℕ → ℕ
spacious a n = n + 3 * (a - 1) + 8

-- one more, for the rows that stand on one but the first
abbrev pub roomier : ℕ → ℕ → ℕ
roomier a n = spacious a n + 1

-- each level of which the level `finer` levels down has at most so many cells is tried; `high` says how many rows the table has
unfoldable tried : (ℕ → ℕ → ℕ) → ℕ → ℕ → ℕ → ℕ → ℕ → ℕ → Bool
tried high finer bound s k a b =
    implies (leb 1 a && (leb 1 b && leb (grown s b (k + finer) * grown s a (k + finer)) most_cells)) (leb (high b (grown s b k) * spacious a (grown s a k)) bound)

abbrev tried_row : (ℕ → ℕ → ℕ) → ℕ → ℕ → ℕ → ℕ → ℕ → Bool
tried_row high finer bound s k a = every 17 (tried high finer bound s k a)

abbrev tried_level : (ℕ → ℕ → ℕ) → ℕ → ℕ → ℕ → ℕ → Bool
tried_level high finer bound s k = every 17 (tried_row high finer bound s k)

module _ (high : ℕ → ℕ → ℕ) (finer bound : ℕ) (p : Plan) (all-tried : T (every 8 (tried_level high finer bound (ratio p)))) where
  tried_fact : (s k a b : ℕ) → T (tried high finer bound s k a b) → 1 ≤ a → 1 ≤ b → grown s b (k + finer) * grown s a (k + finer) ≤ most_cells → high b (grown s b k) * spacious a (grown s a k) ≤ bound
  unfolding tried
  tried_fact s k a b t x y l =
      leb→le _ _ (implies_e (leb 1 a && (leb 1 b && leb (grown s b (k + finer) * grown s a (k + finer)) most_cells)) _ t
      (and_i (leb 1 a) _ (le→leb 1 a x) (and_i (leb 1 b) _ (le→leb 1 b y) (le→leb _ _ l))))

  level_within : InRange p → cell_total p ≤ most_cells → (k : ℕ) → k + finer < p.levels → high p.rows (rows_at p k) * spacious p.columns (columns_at p k) ≤ bound
  level_within r m k l =
      let s = ratio p in
      let e = level_ends (columns_at p) (rows_at p) (k + finer) p.levels l in
      let t1 = every_e 8 (tried_level high finer bound s) all-tried k (omega (arith, r.levels≤)) in
      let t2 = every_e 17 (tried_row high finer bound s k) t1 p.columns (omega (arith, r.columns≤)) in
      let t3 = every_e 17 (tried high finer bound s k p.columns) t2 p.rows (omega (arith, r.rows≤)) in
      tried_fact s k p.columns p.rows t3 r.columns≥ r.rows≥ (omega arith)

pub windows_bound : (p : Plan) → InRange p → cell_total p ≤ most_cells → (k : ℕ) → k < p.levels → spacious p.rows (rows_at p k) * spacious p.columns (columns_at p k) ≤ most_functions
unfolding every tried grown ratio
windows_bound p r m k l = level_within spacious 0 most_functions p tt r m k (omega arith)

-- tables of neighbourhoods are of levels with a finer one: those of cells that have children, or coarser
pub near_bound : (p : Plan) → InRange p → cell_total p ≤ most_cells → (k : ℕ) → k + 1 < p.levels → roomier p.rows (rows_at p k) * spacious p.columns (columns_at p k) ≤ most_near
unfolding every tried grown ratio
near_bound p r m k l = level_within roomier 1 most_near p tt r m k l
