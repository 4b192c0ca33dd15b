-- Points and the cells that they lie in: each point lies in one cell of each level, that cell's parent is the one of the level
-- before, and each cell has a point. Assumes nothing.
use Prim.Native.Nat.{ℕ, suc, ◌+◌, ◌-◌, ◌*◌, ◌/◌, ◌^◌, ◌<◌}
use native.Mathlib.Nat.{div-lt_iff_lt-mul, div-div-eq-div-mul, mul-div_cancel, mul_assoc, pow-suc, one-le-pow, mul-lt-mul_of_pos_right}
use native.Mathlib.Omega.{arith}
use mathlib.Core.Path.{◌≡◌}
use lib.Pow.{pow-add}
use Rattle.grid.specs.declared.Plan.{Plan}
use Rattle.grid.specs.declared.Place.{Place}
use Rattle.grid.specs.Plan.{ratio, grown, columns_at, rows_at, CellInside, above, ancestor}
use Rattle.grid.specs.Range.{HasNeighbourhood}
use Rattle.grid.specs.Spans.{ancestor_level, ancestor_of}
use Rattle.grid.proofs.Laws.{ratio_pos}
use Rattle.basis.specs.Basis.{finest, cell_over}

-- ---- one direction

module _ (s : ℕ) (positive : 0 < s) where
  grown_add : (b k d : ℕ) → grown s b (k + d) ≡ grown s b k * s ^ d
  unfolding grown
  grown_add b k d = rw (pow-add, mul_assoc)

  -- x, d levels up, is in the grid there
  up_lt : (b k d x : ℕ) → x < grown s b (k + d) → x / s ^ d < grown s b k
  up_lt b k d x h = (div-lt_iff_lt-mul (one-le-pow d s positive)).1 (rw grown_add at h)

  up_suc : (d x : ℕ) → x / s ^ d / s ≡ x / s ^ suc d
  up_suc d x = rw (div-div-eq-div-mul, pow-suc)

  -- the first of those on x, d levels down
  down_lt : (b k d x : ℕ) → x < grown s b k → x * s ^ d < grown s b (k + d)
  down_lt b k d x h = rw grown_add (mul-lt-mul_of_pos_right h (one-le-pow d s positive))

  up_down : (d x : ℕ) → x * s ^ d / s ^ d ≡ x
  up_down d x = mul-div_cancel x (one-le-pow d s positive)

-- ---- both

module _ (p : Plan) where
  -- the point at row y and column x
  pub record Point (y x : ℕ) : Type 0 where
    pub row< : y < rows_at p (finest p)
    pub column< : x < columns_at p (finest p)

  module _ (k : ℕ) (b : k < p.levels) where
    split : k + (finest p - k) ≡ finest p
    unfolding finest
    split = omega arith

    pub over_in : (y x : ℕ) → Point y x → CellInside p (cell_over p k y x)
    unfolding cell_over ancestor
    over_in y x i = record {
      level< = b;
      row< = up_lt (ratio p) (ratio_pos p) p.rows k (finest p - k) y (rw split i.row<);
      column< = up_lt (ratio p) (ratio_pos p) p.columns k (finest p - k) x (rw split i.column<);
    }

  step : (k : ℕ) → suc k < p.levels → suc (finest p - suc k) ≡ finest p - k
  unfolding finest
  step k b = omega arith

  pub over_above : (k y x : ℕ) → suc k < p.levels → above p (cell_over p (suc k) y x) ≡ cell_over p k y x
  unfolding above cell_over ancestor
  over_above k y x b = λ i. record { level = k; row = to y i; column = to x i }
    where
      to : (z : ℕ) → z / ratio p ^ (finest p - suc k) / ratio p ≡ z / ratio p ^ (finest p - k)
      to z = rw (← step k b) (up_suc (ratio p) (ratio_pos p) (finest p - suc k) z)

  -- the ancestor of the cell that the point lies in has the point too
  pub over_ancestor : (j y x : ℕ) → j < p.levels → HasNeighbourhood p j → ancestor_of p (cell_over p j y x) ≡ cell_over p (ancestor_level p j) y x
  unfolding ancestor_of cell_over ancestor finest
  over_ancestor j y x b has = λ i. record { level = ancestor_level p j; row = to y i; column = to x i }
    where
      e : finest p - ancestor_level p j ≡ finest p - j + (p.class - 2)
      e = omega (arith, has.level≥, has.class≢)

      to : (z : ℕ) → z / ratio p ^ (finest p - j) / ratio p ^ (p.class - 2) ≡ z / ratio p ^ (finest p - ancestor_level p j)
      to z = rw (e, pow-add, div-div-eq-div-mul)

  -- each cell has a point
  pub record PointOf (c : Place) : Type 0 where
    pub row : ℕ
    pub column : ℕ
    pub point : Point row column
    pub over : cell_over p c.level row column ≡ c

  pub point_of : (c : Place) → CellInside p c → PointOf c
  unfolding cell_over ancestor
  point_of c i = record {
    row = c.row * ratio p ^ d;
    column = c.column * ratio p ^ d;
    point = record {
      row< = rw (split c.level i.level<) at (down_lt (ratio p) (ratio_pos p) p.rows c.level d c.row i.row<);
      column< = rw (split c.level i.level<) at (down_lt (ratio p) (ratio_pos p) p.columns c.level d c.column i.column<);
    };
    over = λ j. record { level = c.level; row = up_down (ratio p) (ratio_pos p) d c.row j; column = up_down (ratio p) (ratio_pos p) d c.column j };
  }
    where
      d : ℕ
      d = finest p - c.level
