-- The smallest value: it is below each, and above what is below all. Assumes nothing.
use mathlib.Core.Path.{◌≡◌, refl}
use Prim.Native.Nat.{ℕ, zero, suc, ◌<◌, ◌≤◌}
use native.Mathlib.Nat.{not-suc-le-zero, le_refl, le_trans, min-le_left, min-le_right, le-min}
use native.Mathlib.Omega.{arith}
use lib.Dec.{eqb, eqb→eq}
use Rattle.facts.specs.Least.{least}
use Rattle.facts.proofs.Tests.{cases, differ}

pub least_same : (top n : ℕ) (f g : ℕ → ℕ) → ((k : ℕ) → k < n → f k ≡ g k) → least top n f ≡ least top n g
unfolding least
least_same top zero f g h = refl
least_same top (suc n) f g h = rw (h n (le_refl (suc n)), least_same top n f g (λ k l. h k (omega arith)))

pub least_le : (top n : ℕ) (f : ℕ → ℕ) (k : ℕ) → k < n → least top n f ≤ f k
unfolding least
least_le top zero f k h = absurd (not-suc-le-zero h)
least_le top (suc n) f k h =
    cases (eqb k n) (λ e. rw (eqb→eq k n e) (min-le_right (least top n f) (f n)))
    (λ e. le_trans (min-le_left (least top n f) (f n)) (least_le top n f k (omega (arith, differ k n e))))

pub least_top : (top n : ℕ) (f : ℕ → ℕ) → least top n f ≤ top
unfolding least
least_top top zero f = le_refl top
least_top top (suc n) f = le_trans (min-le_left (least top n f) (f n)) (least_top top n f)

pub least_ge : (top n : ℕ) (f : ℕ → ℕ) (x : ℕ) → x ≤ top → ((k : ℕ) → k < n → x ≤ f k) → x ≤ least top n f
unfolding least
least_ge top zero f x t h = t
least_ge top (suc n) f x t h = le-min (least_ge top n f x t (λ k l. h k (omega arith))) (h n (le_refl (suc n)))
