-- Corners: e more functions begin at each. C counts the corners up to a column of level 0, on which u columns of the level stand.
-- Assumes nothing.
use Prim.Native.Nat.{ℕ, zero, suc, ◌+◌, ◌-◌, ◌*◌, ◌/◌, ◌≤◌, ◌<◌}
use native.Mathlib.Nat.{le_refl, le_trans, zero-add, suc-add, div-eq_of_lt, div-mul-le_self, le-div_iff_mul-le, one-le-mul, mul-le-mul, div-lt_iff_lt-mul, div-div-eq-div-mul, lt-div-mul-add, le-mul_of_pos_right, le_of_suc-le-suc}
use native.Mathlib.Omega.{arith}
use mathlib.Core.Path.{◌≡◌, refl}
use Rattle.grid.proofs.Knots.{Next, next, within, begins}
use Rattle.grid.proofs.Rising.{Rises, Tied}

pub divided : (v : ℕ) → 0 < v → (x y : ℕ) → x ≤ y → x / v ≤ y / v
divided v z x y l = (le-div_iff_mul-le z).1 (le_trans (div-mul-le_self x v) l)

-- ---- counting corners

pub record Counts (C : ℕ → ℕ) : Type 0 where
  pub none : C 0 ≡ 0
  pub keeps : (c : ℕ) → C c ≤ C (suc c)
  pub slow : (c : ℕ) → C (suc c) ≤ C c + 1

-- ---- the first function over a column

unfoldable pub first : (ℕ → ℕ) → ℕ → ℕ → ℕ → ℕ
first C e u x = x + e * C (x / u)

module _ (C : ℕ → ℕ) (counts : Counts C) where
  counts_on : (x k : ℕ) → C x ≤ C (k + x)
  counts_on x zero = rw zero-add (le_refl _)
  counts_on x (suc k) = rw (suc-add k x) (le_trans (counts_on x k) (counts.keeps (k + x)))

  pub counts_up : (x y : ℕ) → x ≤ y → C x ≤ C y
  counts_up x y l = let f : y - x + x ≡ y = omega arith in rw f at (counts_on x (y - x))

  -- ---- it rises by 1, or by e + 1 at a corner

  module _ (e u : ℕ) (wide : 0 < u) where
    one_more : (x y : ℕ) → C x ≤ C y → C y ≤ C x + 1 → (e * C x ≤ e * C y) × (e * C y ≤ e * C x + e)
    one_more x y l h = (mul-le-mul (le_refl e) l, omega (arith, mul-le-mul (le_refl e) h))

    pub first_rises : Rises (e + 1) (first C e u)
    unfolding first
    first_rises = record {
      starts = let f : 0 / u ≡ 0 = div-eq_of_lt wide in rw (f, counts.none) (omega arith);
      rises = λ x. (go x (next u wide x)).0;
      step = λ x. (go x (next u wide x)).1;
    }
      where
        go : (x : ℕ) → Next u wide x → (x + e * C (x / u) < suc x + e * C (suc x / u)) × (suc x + e * C (suc x / u) ≤ x + e * C (x / u) + (e + 1))
        go x (within f _) = rw f (omega arith, omega arith)
        go x (begins f _) = let (l, h) = one_more (x / u) (suc (x / u)) (counts.keeps (x / u)) (counts.slow (x / u)) in rw f (omega arith, omega arith)

  -- ---- two levels, s columns of the one on a column of the other

  module _ (e s u : ℕ) (some : 0 < s) (wide : 0 < u) where
    reach : (g x y : ℕ) → x ≤ y + g → x / s ≤ y / s + g
    reach g x y h = le_of_suc-le-suc ((div-lt_iff_lt-mul some).1 (omega (arith, lt-div-mul-add {a = y} some, le-mul_of_pos_right g some)))

    -- the same corners stand before both, so only the columns between them shrink
    reach_more : (a b x y d : ℕ) → (x ≤ y → a ≤ b) → x + a ≤ y + b + d → x / s + a ≤ y / s + b + d
    reach_more a b x y d up h = go (a - (b + d)) refl
      where
        go : (t : ℕ) → a - (b + d) ≡ t → x / s + a ≤ y / s + b + d
        go zero f = omega (arith, reach (b + d - a) x y (omega arith))
        go (suc t) f = absurd (omega (arith, up (omega arith)))

    pub first_tied : Tied s (e + 1) (first C e (s * u)) (first C e u)
    unfolding first
    first_tied x y h =
        rw (div-div-eq-div-mul x s u, div-div-eq-div-mul y s u)
        (reach_more (e * C (x / (s * u))) (e * C (y / (s * u))) x y (e + 1)
        (λ l. mul-le-mul (le_refl e) (counts_up _ _ (divided (s * u) (one-le-mul some wide) x y l))) h)
