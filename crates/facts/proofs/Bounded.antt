-- Bounded tests: to show one and to use one. Assumes nothing.
use mathlib.Core.Path.{◌≡◌, refl, subst}
use mathlib.Core.Bool.{Bool, ◌&&◌}
use Prim.Native.Nat.{ℕ, zero, suc, ◌+◌, ◌<◌}
use native.Mathlib.Nat.{not-suc-le-zero, le_refl}
use native.Mathlib.Numerals.{add-one}
use native.Mathlib.Omega.{arith}
use lib.Dec.{T, eqb, eqb→eq}
use Rattle.facts.specs.Bounded.{some, every}
use Rattle.facts.proofs.Tests.{and_i, and_l, and_r, or_l, or_r, or_e, cases, differ}

pub some_i : (n : ℕ) (p : ℕ → Bool) (k : ℕ) → k < n → T (p k) → T (some n p)
unfolding some
some_i zero p k h t = absurd (not-suc-le-zero h)
some_i (suc n) p k h t =
    cases (eqb k n) (λ e. or_l (p n) (some n p) (subst (λ j. T (p j)) (eqb→eq k n e) t))
    (λ e. or_r (p n) (some n p) (some_i n p k (omega (arith, differ k n e)) t))

pub some_e : (n : ℕ) (p : ℕ → Bool) → T (some n p) → (k : ℕ) × (k < n) × T (p k)
unfolding some
some_e zero p t = absurd t
some_e (suc n) p t =
    or_e (p n) (some n p) t (λ q. (n, le_refl (suc n), q)) (λ q. let r = some_e n p q in (r.0, omega (arith, r.1), r.2))

pub every_i : (n : ℕ) (p : ℕ → Bool) → ((k : ℕ) → k < n → T (p k)) → T (every n p)
unfolding every
every_i zero p h = tt
every_i (suc n) p h = and_i (p n) (every n p) (h n (le_refl (suc n))) (every_i n p (λ k l. h k (omega arith)))

pub every_e : (n : ℕ) (p : ℕ → Bool) → T (every n p) → (k : ℕ) → k < n → T (p k)
unfolding every
every_e zero p t k h = absurd (not-suc-le-zero h)
every_e (suc n) p t k h =
    cases (eqb k n) (λ e. rw (eqb→eq k n e) (and_l (p n) (every n p) t)) (λ e. every_e n p (and_r (p n) (every n p) t) k (omega (arith, differ k n e)))

pub some_same : (n : ℕ) (p q : ℕ → Bool) → ((k : ℕ) → k < n → p k ≡ q k) → some n p ≡ some n q
unfolding some
some_same zero p q h = refl
some_same (suc n) p q h = rw (h n (le_refl (suc n)), some_same n p q (λ k l. h k (omega arith)))

-- one number more; the loops that test have it before the others
pub every_next : (n : ℕ) (p : ℕ → Bool) {a ok : Bool} → a ≡ p n → ok ≡ every n p → a && ok ≡ every (n + 1) p
unfolding every
every_next n p e f = rw (add-one n, e, f)

pub every_same : (n : ℕ) (p q : ℕ → Bool) → ((k : ℕ) → k < n → p k ≡ q k) → every n p ≡ every n q
unfolding every
every_same zero p q h = refl
every_same (suc n) p q h = rw (h n (le_refl (suc n)), every_same n p q (λ k l. h k (omega arith)))
