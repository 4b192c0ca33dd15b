-- Lists of heights: their lengths, their entries, and when two are the same. Assumes nothing.
use mathlib.Core.Path.{◌≡◌, refl, ap, ap₂, ◌∙◌}
use mathlib.Core.List.{List, [], ◌∷◌}
use Prim.Native.Nat.{ℕ, zero, suc, ◌≤◌, ◌<◌}
use native.Mathlib.Nat.{le_of_suc-le-suc, zero-lt-suc}
use native.Mathlib.Omega.{arith}
use lib.IntN.{ℤ, pos}
use lib.ListN.{length, get_or-eq_default}
use Rattle.carry.specs.Carry.{heights_of, at}

pub heights_length : (n : ℕ) (h : ℕ → ℤ) → length (heights_of n h) ≡ n
unfolding heights_of
heights_length zero h = refl
heights_length (suc n) h = ap suc (heights_length n (λ i. h (suc i)))

pub heights_at : (n : ℕ) (h : ℕ → ℤ) (i : ℕ) → i < n → at (heights_of n h) i ≡ h i
unfolding heights_of
heights_at zero h i l = absurd (omega arith)
heights_at (suc n) h zero l = refl
heights_at (suc n) h (suc i) l = heights_at n (λ i. h (suc i)) i (le_of_suc-le-suc l)

-- after the last there is none
pub at_none : (xs : List ℤ) (i : ℕ) → length xs ≤ i → at xs i ≡ pos 0
at_none xs i l = get_or-eq_default xs (pos 0) l

pub heights_none : (n : ℕ) (h : ℕ → ℤ) (i : ℕ) → n ≤ i → at (heights_of n h) i ≡ pos 0
heights_none n h i l = at_none (heights_of n h) i (omega (arith, heights_length n h))

-- the same entries make the same list
pub heights_same : (n : ℕ) (f g : ℕ → ℤ) → ((i : ℕ) → i < n → f i ≡ g i) → heights_of n f ≡ heights_of n g
unfolding heights_of
heights_same zero f g e = refl
heights_same (suc n) f g e = ap₂ ◌∷◌ (e 0 (zero-lt-suc n)) (heights_same n (λ i. f (suc i)) (λ i. g (suc i)) (λ i l. e (suc i) (omega arith)))

pub heights_all : (xs : List ℤ) → xs ≡ heights_of (length xs) (at xs)
unfolding heights_of
heights_all [] = refl
heights_all (x ∷ xs) = ap (λ ys. x ∷ ys) (heights_all xs)

pub heights_is : (n : ℕ) (h : ℕ → ℤ) (xs : List ℤ) → length xs ≡ n → ((i : ℕ) → i < n → at xs i ≡ h i) → xs ≡ heights_of n h
heights_is n h xs s e = heights_all xs ∙ ap (λ m. heights_of m (at xs)) s ∙ heights_same n (at xs) h e
