-- How large the grid's numbers can be: every width, height, offset and total of a plan in range fits 32 bits. Assumes nothing.
use mathlib.Core.Path.{◌≡◌, refl}
use Prim.Native.Nat.{ℕ, zero, suc, ◌+◌, ◌*◌, ◌^◌, ◌/◌, ◌%◌, ◌≤◌, ◌<◌}
use native.Mathlib.Nat.{add-zero, le_refl, mul-le-mul, mod-eq_of_lt}
use native.Mathlib.Omega.{arith}
use lib.Pow.{pow_mono}
use Rattle.grid.specs.declared.Plan.{Plan}
use Rattle.grid.specs.declared.Place.{Place}
use Rattle.grid.specs.Numbering.{Inside, offset, number}
use Rattle.grid.proofs.Numbering.{number_lt}
use Rattle.grid.specs.Plan.{ratio, grown, widened, columns_at, rows_at, ancestor}
use Rattle.grid.specs.Range.{InRange, Beyond}

-- at most 16, times a power of two below 2 ^ 8
pub grown_small : (p : Plan) {b k : ℕ} → b ≤ 16 → k < 8 → grown (ratio p) b k ≤ 2048
unfolding grown ratio
grown_small p h l = mul-le-mul h (pow_mono {j = 7} (omega arith))

pub unit_small : (p : Plan) {k : ℕ} → k < 8 → grown (ratio p) 1 k ≤ 128
unfolding grown ratio
unit_small p l = mul-le-mul (le_refl 1) (pow_mono {j = 7} (omega arith))

-- the columns of the next level on a column of some level, and their end
pub finer_small : (p : Plan) {b k x s : ℕ} → b ≤ 16 → k < 8 → x < grown (ratio p) b k → s ≡ ratio p → x * s + s ≤ 4096
unfolding ratio
finer_small p {x = x} h l i e = let g : x * 2 + 2 ≤ 4096 = omega (arith, grown_small p h l) in rw e g

-- a shift by less than 8 loses no bit
pub shifted : (p : Plan) {b k : ℕ} → b ≤ 2048 → k < 8 → (b * 2 ^ k) % 2 ^ 32 ≡ grown (ratio p) b k
unfolding grown ratio
shifted p {b} {k} h l = mod-eq_of_lt (omega (arith, mul-le-mul {n₁ = b} h (pow_mono {i = k} {j = 7} (omega arith))))

pub shifted_down : (p : Plan) (x d : ℕ) → x / 2 ^ d ≡ ancestor p d x
unfolding ancestor ratio
shifted_down p x d = refl

-- with nothing beyond them, the levels are those of cells
pub as_cells : {A : Type 0} (p : Plan) (f : (ℕ → ℕ) → (ℕ → ℕ) → A) → f (widened (columns_at p) 0) (widened (rows_at p) 0) ≡ f (columns_at p) (rows_at p)
as_cells p f = λ i. f (λ k. add-zero (columns_at p k) i) (λ k. add-zero (rows_at p k) i)

-- the levels with `across` columns and `up` rows beyond those of cells
module _ (p : Plan) (range : InRange p) (across up : ℕ) (beyond : Beyond across up) where
  abbrev w : ℕ → ℕ
  w = widened (columns_at p) across

  abbrev h : ℕ → ℕ
  h = widened (rows_at p) up

  pub columns_small : (k : ℕ) → k < p.levels → w k ≤ 2097
  columns_small k l = omega (arith, grown_small p {k = k} range.columns≤ (omega arith))

  pub rows_small : (k : ℕ) → k < p.levels → h k ≤ 2097
  rows_small k l = omega (arith, grown_small p {k = k} range.rows≤ (omega arith))

  pub area_small : (k : ℕ) → k < p.levels → h k * w k ≤ 4397409
  area_small k l = mul-le-mul (rows_small k l) (columns_small k l)

  pub offset_small : (k : ℕ) → k ≤ p.levels → offset w h k ≤ 4397409 * k
  unfolding offset
  offset_small zero l = omega arith
  offset_small (suc k) l = omega (arith, offset_small k (omega arith), area_small k l)

  -- the sums that make a place's number fit
  pub number_small : (x : Place) → Inside w h p.levels x → number w h x < 35179273
  number_small x i = omega (arith, number_lt w h p.levels x i, offset_small p.levels (le_refl _))
