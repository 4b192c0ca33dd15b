-- One direction: columns (or rows) that grow by a ratio s from level to level, and what division by s does to them. Assumes nothing.
use Prim.Native.Nat.{ℕ, zero, suc, pred, ◌+◌, ◌-◌, ◌*◌, ◌/◌, ◌^◌, ◌<◌, ◌≤◌}
use native.Mathlib.Nat.{div-lt_iff_lt-mul, div-div-eq-div-mul, mul_comm, mul_assoc, pow-suc, one-le-mul, one-le-pow, sub-add_cancel}
use native.Mathlib.Omega.{arith}
use mathlib.Core.Path.{◌≡◌}
use lib.Arith.{digits_lt}
use lib.Pow.{pow-add}
use Rattle.grid.specs.Plan.{grown}

module _ (s : ℕ) (positive : 0 < s) where
  pub grown_pos : (b k : ℕ) → 0 < b → 0 < grown s b k
  unfolding grown
  grown_pos b k h = one-le-mul h (one-le-pow k s positive)

  grown_suc : (b k : ℕ) → grown s b (suc k) ≡ grown s b k * s
  unfolding grown
  grown_suc b k = rw (pow-suc, mul_assoc)

  pub grown_up : (b k c : ℕ) → 0 < k → c < grown s b k → c / s < grown s b (pred k)
  grown_up b zero c z h = absurd (omega arith)
  grown_up b (suc k) c z h = (div-lt_iff_lt-mul positive).1 (rw grown_suc at h)

  pub grown_down : (b k c a : ℕ) → c < grown s b k → a < s → c * s + a < grown s b (suc k)
  grown_down b k c a h l = rw grown_suc (digits_lt h l)

  -- d levels up
  pub grown_ancestor : (b k d c : ℕ) → d ≤ k → c < grown s b k → c / s ^ d < grown s b (k - d)
  unfolding grown
  grown_ancestor b k d c l h =
      let e : b * s ^ k ≡ b * s ^ (k - d) * s ^ d = rw (mul_assoc, ← pow-add, sub-add_cancel l) in
      (div-lt_iff_lt-mul (one-le-pow d s positive)).1 (rw e at h)

  pub div_swap : (y d : ℕ) → y / s ^ d / s ≡ y / s / s ^ d
  div_swap y d = simp div-div-eq-div-mul (rw (mul_comm (s ^ d)))

  -- the columns of the level on one of level 0
  pub grown_one : (b k : ℕ) → grown s b k ≡ b * grown s 1 k
  unfolding grown
  grown_one b k = omega arith

  pub grown_unit : (k : ℕ) → 0 < k → grown s 1 k ≡ s * grown s 1 (pred k)
  grown_unit zero z = absurd (omega arith)
  grown_unit (suc k) z = rw grown_suc (mul_comm (grown s 1 k) s)

  pub grown_more : (b k : ℕ) → 0 < k → grown s b k ≡ grown s b (pred k) * s
  grown_more b zero z = absurd (omega arith)
  grown_more b (suc k) z = grown_suc b k
