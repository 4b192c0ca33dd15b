-- A test of a range, passed part by part: one number, one row. Assumes nothing.
use mathlib.Core.Path.{◌≡◌, refl, sym, ap, ◌∙◌}
use mathlib.Core.Bool.{Bool, true, ◌&&◌}
use Prim.Native.Nat.{ℕ, ◌+◌, ◌*◌, ◌≤◌, ◌<◌}
use native.Mathlib.Nat.{mul-le-mul_right}
use native.Mathlib.Omega.{arith}
use Rattle.facts.specs.Ranges.{every_from}
use Rattle.facts.proofs.Tests.{and_i, and_l, and_r, same, T_true, true_T}
use Rattle.facts.proofs.Ranges.{from_i, from_e, from_none, from_one, from_more}

-- a row of a rectangle ends before the last one does
pub row_ends : (r R w : ℕ) → r < R → r * w + w ≤ R * w
row_ends r R w l = omega (arith, mul-le-mul_right w l)

module _ (a : ℕ) (p : ℕ → Bool) where
  pub from_zero : (n : ℕ) → n ≡ 0 → true ≡ every_from a n p
  from_zero n z = rw (z, from_none a p)

  pub from_join : (m n b : ℕ) → b ≡ a + m → every_from a m p && every_from b n p ≡ every_from a (m + n) p
  from_join m n b e = same _ _
      (λ t. true_T _ (from_more a m n b p (T_true _ (and_l (every_from a m p) _ t)) e (T_true _ (and_r (every_from a m p) (every_from b n p) t))))
      (λ t. and_i (every_from a m p) _ (from_i a m p (λ k l u. from_e a (m + n) p t k l (omega arith))) (from_i b n p (λ k l u. from_e a (m + n) p t k (omega arith) (omega arith))))

  pub from_next : (n : ℕ) → every_from a n p && p (a + n) ≡ every_from a (n + 1) p
  from_next n = ap (λ b. every_from a n p && b) (sym (from_one (a + n) p)) ∙ from_join n 1 (a + n) refl

  -- a level's rows, w numbers each
  pub rows_join : (w row at : ℕ) {n : ℕ} {x y : Bool} → at ≡ a + row * w → n ≡ w → x ≡ every_from a (row * w) p → y ≡ every_from at n p → x && y ≡ every_from a ((row + 1) * w) p
  rows_join w row at e en ex ey = let q : (row + 1) * w ≡ row * w + w = omega arith in rw (ex, ey, en, q) (from_join (row * w) w at e)
