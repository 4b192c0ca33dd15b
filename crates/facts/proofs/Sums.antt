-- Sums over a range, over a rectangle counted row by row, and over digits. Assumes nothing.
use mathlib.Core.Path.{◌≡◌, refl, ap, ◌∙◌}
use Prim.Native.Nat.{ℕ, zero, suc, ◌+◌, ◌*◌, ◌/◌, ◌≤◌, ◌<◌, zero-le}
use native.Mathlib.Nat.{le_refl, zero-mul, suc-mul}
use native.Mathlib.Numerals.{unary_clauses}
use native.Mathlib.Omega.{arith}
use lib.Arith.{digits_div}
use Rattle.facts.specs.Bounded.{sum}

pub sum_same : (n : ℕ) (f g : ℕ → ℕ) → ((k : ℕ) → k < n → f k ≡ g k) → sum n f ≡ sum n g
unfolding sum
sum_same zero f g h = refl
sum_same (suc n) f g h = rw (h n (le_refl (suc n)), sum_same n f g (λ k l. h k (omega arith)))

pub sum_le : (n : ℕ) (f g : ℕ → ℕ) → ((k : ℕ) → k < n → f k ≤ g k) → sum n f ≤ sum n g
unfolding sum
sum_le zero f g h = zero-le
sum_le (suc n) f g h = omega (arith, h n (le_refl (suc n)), sum_le n f g (λ k l. h k (omega arith)))

pub sum_zero : (n : ℕ) (f : ℕ → ℕ) → ((k : ℕ) → k < n → f k ≡ 0) → sum n f ≡ 0
unfolding sum
sum_zero zero f h = refl
sum_zero (suc n) f h = omega (arith, h n (le_refl (suc n)), sum_zero n f (λ k l. h k (omega arith)))

pub sum_const : (n x : ℕ) → sum n (λ k. x) ≡ n * x
unfolding sum
sum_const zero x = omega arith
sum_const (suc n) x = omega (arith, sum_const n x)

pub sum_add : (n : ℕ) (f g : ℕ → ℕ) → sum n (λ k. f k + g k) ≡ sum n f + sum n g
unfolding sum
sum_add zero f g = refl
sum_add (suc n) f g = omega (arith, sum_add n f g)

pub sum_mul : (n a : ℕ) (f : ℕ → ℕ) → sum n (λ k. a * f k) ≡ a * sum n f
unfolding sum
sum_mul zero a f = omega arith
sum_mul (suc n) a f = omega (arith, sum_mul n a f)

-- the numbers below a, and then the n from there on
pub sum_split : (a n : ℕ) (f : ℕ → ℕ) → sum (a + n) f ≡ sum a f + sum n (λ k. f (a + k))
unfolding sum
sum_split a zero f = simp unary_clauses
sum_split a (suc n) f = simp unary_clauses (omega (arith, sum_split a n f))

-- h rows of w numbers each
pub sum_rows : (h w : ℕ) (f : ℕ → ℕ) → sum (h * w) f ≡ sum h (λ r. sum w (λ c. f (r * w + c)))
unfolding sum
sum_rows zero w f = rw (zero-mul w)
sum_rows (suc h) w f = rw (suc-mul h w, sum_split (h * w) w f, sum_rows h w f)

-- each of the n numbers is the first digit of s
pub sum_digits : (n s : ℕ) (f : ℕ → ℕ) → sum (n * s) (λ k. f (k / s)) ≡ s * sum n f
sum_digits n s f =
    sum_rows n s (λ k. f (k / s))
    ∙ sum_same n _ (λ r. s * f r) (λ r l. sum_same s _ (λ c. f r) (λ c m. ap f (digits_div r m)) ∙ sum_const s (f r))
    ∙ sum_mul n s f
