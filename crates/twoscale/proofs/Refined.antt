-- How the knots of a function and those of the next level lie, by plain numbers. Assumes nothing.
use mathlib.Core.Path.{◌≡◌}
use mathlib.Core.Logic.{◌≢◌}
use Prim.Native.Nat.{ℕ, suc, ◌+◌, ◌*◌, ◌≤◌, ◌<◌}
use lib.Dec.{eqb, eqb→eq}
use Rattle.facts.proofs.Tests.{cases, differ}

-- of n cells and so many functions of degree p: t are the knots from those of function i on, v those of the next level
pub record Refined (p n count i : ℕ) (t v : ℕ → ℕ) : Type 0 where
  pub number : i < count
  pub up : (k : ℕ) → k ≤ p → t k ≤ t (suc k)
  pub one : (k : ℕ) → k ≤ p → t (suc k) ≤ suc (t k)
  pub some : t 0 < t (suc p)
  pub within : t (suc p) ≤ n
  -- only the first function has all knots but its last on one line, only the last all but its first
  pub start : t 0 ≡ t p → (t 0 ≡ 0) × (i ≡ 0)
  pub end : t 1 ≡ t (suc p) → (t 1 ≡ n) × (i + 1 ≡ count)
  -- on each line of the next level that was there before, and on those between
  pub even : (k j : ℕ) → (k ≤ suc p) × (j ≡ i + k + t k) → v j ≡ 2 * t k
  pub odd : (k j : ℕ) → (k ≤ p) × (t (suc k) ≡ suc (t k)) × (j ≡ i + k + t k + 1) → v j ≡ suc (2 * t k)
  pub rising : (a b : ℕ) → a ≤ b → b ≤ count + n + p → v a ≤ v b

-- two numbers are equal or not
pub either : {C : Type 0} (a b : ℕ) → (a ≡ b → C) → (a ≢ b → C) → C
either a b f g = cases (eqb a b) (λ y. f (eqb→eq a b y)) (λ y. g (differ a b y))
