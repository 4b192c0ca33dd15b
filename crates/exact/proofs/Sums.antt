-- Sums of integers: their sizes, their parts, and sums of which only a stretch is not zero. Assumes nothing.
use mathlib.Core.Path.{◌≡◌, refl, sym, ap, ap₂, subst, ◌∙◌}
use mathlib.Core.Logic.{◌≢◌}
use mathlib.Core.Bool.{Bool, true, false, cond}
use Prim.Native.Nat.{ℕ, zero, suc, ◌+◌, ◌-◌, ◌*◌, ◌≤◌, ◌<◌, zero-le}
use native.Mathlib.Nat.{le_refl, add_comm, add-zero, add-suc, add-sub_of_le, suc-mul, zero-mul}
use native.Mathlib.Numerals.{add-one}
use native.Mathlib.Omega.{arith}
use lib.Dec.{eqb, ltb, eqb→eq, ltb→lt}
use lib.IntN.{ℤ, pos, negsuc, neg_ℤ, nat_abs, ◌+ℤ◌, ◌-ℤ◌, ◌*ℤ◌, sub_ℕ, +ℤ_idl, +ℤ_idr, +ℤ_assoc, +ℤ_comm, neg_ℤ-+ℤ, *ℤ-zero}
use Rattle.facts.specs.Bounded.{sum}
use Rattle.facts.proofs.Tests.{cases, differ}
use Rattle.exact.specs.Sums.{sumℤ}
use Rattle.exact.proofs.Integers.{swap, times_add}

-- ---- sizes

abs_sub : (a b : ℕ) → nat_abs (sub_ℕ a b) ≤ a + b
abs_sub a b = go (ltb a b) refl
  where
    low : (a b : ℕ) → a < b → suc (b - suc a) ≤ a + b
    low a b h = omega arith

    high : (a b : ℕ) → a - b ≤ a + b
    high a b = omega arith

    go : (c : Bool) → ltb a b ≡ c → nat_abs (cond c (negsuc (b - suc a)) (pos (a - b))) ≤ a + b
    go true e = low a b (ltb→lt a b (rw e tt))
    go false e = high a b

pub abs_add : (y z : ℤ) → nat_abs (y +ℤ z) ≤ nat_abs y + nat_abs z
abs_add (pos a) (pos b) = le_refl (a + b)
abs_add (pos a) (negsuc b) = abs_sub a (suc b)
abs_add (negsuc a) (pos b) = rw (add_comm (suc a) b) (abs_sub b (suc a))
abs_add (negsuc a) (negsuc b) = both a b
  where
    both : (a b : ℕ) → suc (suc (a + b)) ≤ suc a + suc b
    both a b = omega arith

-- a sum of n numbers of size at most b
pub sum_bound : (n b : ℕ) (f : ℕ → ℤ) → ((k : ℕ) → k < n → nat_abs (f k) ≤ b) → nat_abs (sumℤ n f) ≤ n * b
unfolding sumℤ
sum_bound zero b f h = zero-le
sum_bound (suc n) b f h =
    omega (arith, abs_add (sumℤ n f) (f n), sum_bound n b f (λ k l. h k (omega arith)), h n (le_refl (suc n)))

-- two sums are apart by no more than their numbers
less_add : (a b c d : ℤ) → a +ℤ b -ℤ (c +ℤ d) ≡ a -ℤ c +ℤ (b -ℤ d)
less_add a b c d = ap (λ z. a +ℤ b +ℤ z) (neg_ℤ-+ℤ c d) ∙ swap a b (neg_ℤ c) (neg_ℤ d)

pub sum_apart : (n : ℕ) (f g : ℕ → ℤ) → nat_abs (sumℤ n f -ℤ sumℤ n g) ≤ sum n (λ k. nat_abs (f k -ℤ g k))
unfolding sumℤ sum
sum_apart zero f g = zero-le
sum_apart (suc n) f g =
    rw (less_add (sumℤ n f) (f n) (sumℤ n g) (g n)) (omega (arith, abs_add (sumℤ n f -ℤ sumℤ n g) (f n -ℤ g n), sum_apart n f g))

-- ---- parts

-- one number more, as code counts
pub sum_next : (n : ℕ) (f : ℕ → ℤ) → sumℤ (n + 1) f ≡ sumℤ n f +ℤ f n
unfolding sumℤ
sum_next n f = rw (add-one n)

pub sum_same : (n : ℕ) (f g : ℕ → ℤ) → ((k : ℕ) → k < n → f k ≡ g k) → sumℤ n f ≡ sumℤ n g
unfolding sumℤ
sum_same zero f g h = refl
sum_same (suc n) f g h = rw (sum_same n f g (λ k l. h k (omega arith)), h n (le_refl (suc n)))

pub sum_zero : (n : ℕ) (f : ℕ → ℤ) → ((k : ℕ) → k < n → f k ≡ pos 0) → sumℤ n f ≡ pos 0
unfolding sumℤ
sum_zero zero f h = refl
sum_zero (suc n) f h = rw (sum_zero n f (λ k l. h k (omega arith)), h n (le_refl (suc n)))

-- f is g, and more by e at i alone
pub sum_one : (n i : ℕ) (f g : ℕ → ℤ) (e : ℤ) → i < n → ((k : ℕ) → k < n → k ≢ i → f k ≡ g k) → f i ≡ g i +ℤ e → sumℤ n f ≡ sumℤ n g +ℤ e
unfolding sumℤ
sum_one zero i f g e l others here = absurd (omega arith)
sum_one (suc n) i f g e l others here =
    cases (eqb n i)
    (λ y. let q = eqb→eq n i y in
    ap₂ ◌+ℤ◌ (sum_same n f g (λ k m. others k (omega arith) (omega arith))) (subst (λ z. f z ≡ g z +ℤ e) (sym q) here)
    ∙ sym (+ℤ_assoc (sumℤ n g) (g n) e))
    (λ y. let q = differ n i y in
    ap₂ ◌+ℤ◌ (sum_one n i f g e (omega arith) (λ k m. others k (omega arith)) here) (others n (le_refl (suc n)) q)
    ∙ +ℤ_assoc (sumℤ n g) e (g n)
    ∙ ap (λ z. sumℤ n g +ℤ z) (+ℤ_comm e (g n))
    ∙ sym (+ℤ_assoc (sumℤ n g) (g n) e))

-- the numbers below a, and then the n from there on
pub sum_split : (a n : ℕ) (f : ℕ → ℤ) → sumℤ (a + n) f ≡ sumℤ a f +ℤ sumℤ n (λ k. f (a + k))
unfolding sumℤ
sum_split a zero f = rw (add-zero, +ℤ_idr)
sum_split a (suc n) f = rw (add-suc a n) (rw (sum_split a n f) (+ℤ_assoc (sumℤ a f) (sumℤ n (λ k. f (a + k))) (f (a + n))))

-- a number times each of f, and times their sum
pub sum_times : (n : ℕ) (z : ℤ) (f : ℕ → ℕ) → sumℤ n (λ k. z *ℤ pos (f k)) ≡ z *ℤ pos (sum n f)
unfolding sumℤ sum
sum_times zero z f = sym (*ℤ-zero z)
sum_times (suc n) z f = ap (λ s. s +ℤ z *ℤ pos (f n)) (sum_times n z f) ∙ sym (times_add z (sum n f) (f n))

-- h rows of w numbers each
pub sum_rows : (h w : ℕ) (f : ℕ → ℤ) → sumℤ (h * w) f ≡ sumℤ h (λ r. sumℤ w (λ c. f (r * w + c)))
unfolding sumℤ
sum_rows zero w f = rw (zero-mul w)
sum_rows (suc h) w f = rw (suc-mul h w, sum_split (h * w) w f, sum_rows h w f)

-- of n numbers only the m from c on are not zero
pub sum_window : (n c m : ℕ) (f : ℕ → ℤ) → c + m ≤ n → ((k : ℕ) → k < c → f k ≡ pos 0) → ((k : ℕ) → c + m ≤ k → k < n → f k ≡ pos 0)
    → sumℤ n f ≡ sumℤ m (λ k. f (c + k))
sum_window n c m f h before after =
    ap (λ z. sumℤ z f) (sym (add-sub_of_le h))
    ∙ sum_split (c + m) (n - (c + m)) f
    ∙ rw (sum_zero (n - (c + m)) (λ k. f (c + m + k)) (λ k l. after (c + m + k) (omega arith) (omega arith)), +ℤ_idr)
    (sum_split c m f ∙ rw (sum_zero c f before, +ℤ_idl))
