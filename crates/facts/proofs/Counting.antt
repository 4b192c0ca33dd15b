-- How many numbers below n pass a test: at most so many, of tests joined by "or". Assumes nothing.
use mathlib.Core.Path.{◌≡◌, refl}
use mathlib.Core.Bool.{Bool, true, false, ◌||◌, cond}
use mathlib.Core.List.{[], ◌∷◌}
use Prim.Native.Nat.{ℕ, zero, suc, ◌+◌, ◌*◌, ◌≤◌, ◌<◌, zero-le}
use native.Mathlib.Nat.{le_refl}
use native.Mathlib.Omega.{arith}
use lib.Dec.{T, eqb, eqb→eq}
use lib.ListN.{length, length-append}
use Rattle.facts.specs.Bounded.{some}
use Rattle.facts.specs.Numbers.{listed}
use Rattle.facts.proofs.Tests.{or_l}
use Rattle.facts.proofs.Turns.{listed_between}

-- at most a numbers below n pass
abbrev pub Few : ℕ → (ℕ → Bool) → ℕ → Type 0
Few n p a = length (listed n p) ≤ a

-- n is one more if it passes
pub listed_next : (n : ℕ) (p : ℕ → Bool) → length (listed (suc n) p) ≡ length (listed n p) + cond (p n) 1 0
unfolding listed
listed_next n p = omega (arith, length-append (listed n p) (cond (p n) (n ∷ []) []), one (p n))
  where
    one : (b : Bool) → length {A = ℕ} (cond b (n ∷ []) []) ≡ cond b 1 0
    one true = refl
    one false = refl

-- where each that passes passes one of two other tests, there are no more of them than of those two
listed_or : (n : ℕ) (r p q : ℕ → Bool) → ((c : ℕ) → c < n → T (r c) → T (p c || q c)) → length (listed n r) ≤ length (listed n p) + length (listed n q)
listed_or zero r p q h = unfold listed in zero-le
listed_or (suc n) r p q h =
    omega (arith, listed_next n r, listed_next n p, listed_next n q, listed_or n r p q (λ c l. h c (omega arith)), either (r n) (p n) (q n) (h n (le_refl (suc n))))
  where
    either : (a b c : Bool) → (T a → T (b || c)) → cond a 1 0 ≤ cond b 1 0 + cond c 1 0
    either false b c f = zero-le
    either true true c f = omega arith
    either true false true f = omega arith
    either true false false f = absurd (f tt)

module _ (n : ℕ) where
  pub few_none : (r : ℕ → Bool) → ((c : ℕ) → c < n → T (r c) → ⊥) → Few n r 0
  few_none r h = omega (arith, listed_between r 0 0 n (λ c l t. absurd (h c l t)))

  pub few_one : (x : ℕ) → Few n (λ c. eqb c x) 1
  few_one x = omega (arith, listed_between (λ c. eqb c x) x (suc x) n (λ c l t. let e = eqb→eq c x t in (omega arith, omega arith)))

  pub few_or : {a b : ℕ} (r p q : ℕ → Bool) → ((c : ℕ) → c < n → T (r c) → T (p c || q c)) → Few n p a → Few n q b → Few n r (a + b)
  few_or r p q h f g = omega (arith, listed_or n r p q h)

  pub few_within : {a : ℕ} (r p : ℕ → Bool) → ((c : ℕ) → c < n → T (r c) → T (p c)) → Few n p a → Few n r a
  few_within r p h f =
      let z : Few n (λ c. false) 0 = few_none (λ c. false) (λ c l t. t) in
      omega (arith, listed_or n r p (λ c. false) (λ c l t. or_l (p c) false (h c l t)))

  -- those that pass one of k tests
  pub few_some : (k a : ℕ) (p : ℕ → ℕ → Bool) → ((i : ℕ) → i < k → Few n (p i) a) → Few n (λ c. some k (λ i. p i c)) (k * a)
  unfolding some
  few_some zero a p h = omega (arith, few_none (λ c. false) (λ c l t. t))
  few_some (suc k) a p h =
      let r : ℕ → Bool = λ c. p k c || some k (λ i. p i c) in
      let f : Few n r (a + k * a) = few_or r (p k) (λ c. some k (λ i. p i c)) (λ c l t. t) (h k (le_refl (suc k))) (few_some k a p (λ i l. h i (omega arith))) in
      omega arith
