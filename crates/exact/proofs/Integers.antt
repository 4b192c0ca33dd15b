-- Integers: sizes, sums, and times whole numbers. Assumes nothing.
use mathlib.Core.Path.{◌≡◌, refl, sym, ap, ◌∙◌}
use Prim.Native.Nat.{ℕ, zero, suc, ◌+◌, ◌*◌}
use native.Mathlib.Nat.{zero-mul, mul-add, mul_assoc}
use native.Mathlib.Numerals.{add-one}
use native.Mathlib.Omega.{arith}
use lib.IntN.{ℤ, pos, negsuc, neg_ℤ, nat_abs, ◌+ℤ◌, ◌-ℤ◌, ◌*ℤ◌, one, *ℤ-one, *ℤ-zero, +ℤ_assoc, +ℤ_comm, neg_ℤ-neg_ℤ, neg_ℤ-+ℤ}

pub abs_neg : (z : ℤ) → nat_abs (neg_ℤ z) ≡ nat_abs z
abs_neg (pos zero) = refl
abs_neg (pos (suc n)) = refl
abs_neg (negsuc n) = refl

pub abs_none : (z : ℤ) → nat_abs z ≡ 0 → z ≡ pos 0
abs_none (pos n) e = ap pos e
abs_none (negsuc n) e = absurd (omega arith)

-- the middle two of four change places
pub swap : (a b c d : ℤ) → a +ℤ b +ℤ (c +ℤ d) ≡ a +ℤ c +ℤ (b +ℤ d)
swap a b c d =
    +ℤ_assoc a b (c +ℤ d) ∙ ap (λ z. a +ℤ z) (sym (+ℤ_assoc b c d) ∙ ap (λ z. z +ℤ d) (+ℤ_comm b c) ∙ +ℤ_assoc c b d) ∙ sym (+ℤ_assoc a c (b +ℤ d))

pub times_one : (y : ℤ) → y *ℤ pos 1 ≡ y
unfolding one
times_one y = *ℤ-one y

pub times_add : (z : ℤ) (a b : ℕ) → z *ℤ pos (a + b) ≡ z *ℤ pos a +ℤ z *ℤ pos b
times_add (pos n) a b = ap pos (mul-add n a b)
times_add (negsuc n) a b = ap (λ m. neg_ℤ (pos m)) (mul-add (suc n) a b) ∙ neg_ℤ-+ℤ (pos (suc n * a)) (pos (suc n * b))

pub add_times : (y z : ℤ) (n : ℕ) → (y +ℤ z) *ℤ pos n ≡ y *ℤ pos n +ℤ z *ℤ pos n
add_times y z zero = rw (*ℤ-zero (y +ℤ z), *ℤ-zero y, *ℤ-zero z)
add_times y z (suc n) =
    rw (← add-one n, times_add (y +ℤ z) n 1, times_add y n 1, times_add z n 1, add_times y z n, times_one (y +ℤ z), times_one y, times_one z)
    (swap (y *ℤ pos n) (z *ℤ pos n) y z)

pub neg_times : (k n : ℕ) → neg_ℤ (pos k) *ℤ pos n ≡ neg_ℤ (pos (k * n))
neg_times zero n = rw zero-mul
neg_times (suc k) n = refl

negated : (z : ℤ) (n : ℕ) → neg_ℤ z *ℤ pos n ≡ neg_ℤ (z *ℤ pos n)
negated (pos k) n = neg_times k n
negated (negsuc k) n = sym (neg_ℤ-neg_ℤ (pos (suc k * n)))

pub times_times : (z : ℤ) (m n : ℕ) → z *ℤ pos m *ℤ pos n ≡ z *ℤ pos (m * n)
times_times (pos k) m n = ap pos (mul_assoc k m n)
times_times (negsuc k) m n = neg_times (suc k * m) n ∙ ap (λ w. neg_ℤ (pos w)) (mul_assoc (suc k) m n)

pub less_times : (y z : ℤ) (n : ℕ) → (y -ℤ z) *ℤ pos n ≡ y *ℤ pos n -ℤ z *ℤ pos n
less_times y z n = add_times y (neg_ℤ z) n ∙ ap (λ w. y *ℤ pos n +ℤ w) (negated z n)
