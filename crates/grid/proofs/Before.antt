-- The code's way to the ends of a support is right: `before` counts the columns whose first function is below j. Assumes nothing.
use Prim.Native.Nat.{ℕ, zero, suc, min, max, ◌+◌, ◌-◌, ◌*◌, ◌/◌, ◌≤◌, ◌<◌}
use native.Mathlib.Nat.{div-lt_iff_lt-mul, le-div_iff_mul-le, le-add_right}
use native.Mathlib.Omega.{arith}
use mathlib.Core.Bool.{cond}
use mathlib.Core.Logic.{◌↔◌}
use mathlib.Core.Path.{◌≡◌, refl}
use lib.Dec.{ltb, ltb→lt, nltb→le}
use Rattle.facts.proofs.Tests.{cases, T_true, T_false, not_e}
use Rattle.grid.specs.Knots.{is_set, corners_to}
use Rattle.grid.specs.Side.{passed, before}
use Rattle.grid.proofs.Knots.{bit_le}
use Rattle.grid.proofs.Corners.{Counts, first, counts_up}

-- bit k as a number
abbrev pub bit : ℕ → ℕ → ℕ
bit bits k = cond (is_set bits k) 1 0

pub corners_count : (bits : ℕ) → Counts (corners_to bits)
unfolding corners_to
corners_count bits = record { none = refl; keeps = λ c. omega arith; slow = λ c. omega (arith, bit_le (is_set bits (suc c))) }

-- the corners up to column c of level 0 alone
abbrev pub up_to : ℕ → ℕ → ℕ → ℕ
up_to bits c q = corners_to bits (min c q)

pub capped_count : (bits c : ℕ) → Counts (up_to bits c)
capped_count bits c = record {
  none = let f : min c 0 ≡ 0 = omega arith in rw f (corners_count bits).none;
  keeps = λ q. counts_up (corners_to bits) (corners_count bits) (min c q) (min c (suc q)) (omega arith);
  slow = λ q. go q (c - q) refl;
}
  where
    go : (q a : ℕ) → c - q ≡ a → up_to bits c (suc q) ≤ up_to bits c q + 1
    go q zero l = let f : min c (suc q) ≡ min c q = omega arith in rw f (le-add_right _ _)
    go q (suc a) l =
        let f : min c (suc q) ≡ suc q = omega arith in
        let g : min c q ≡ q = omega arith in
        rw (f, g) ((corners_count bits).slow q)

module _ (bits e u : ℕ) (wide : 0 < u) where
  abbrev pub G : ℕ → ℕ → ℕ
  G c = first (up_to bits c) e u

  -- before the line of the next corner nothing changes, and from there on it counts
  early : (c x : ℕ) → x < suc c * u → G (suc c) x ≡ G c x
  unfolding first
  early c x l =
      let h : x / u < suc c = (div-lt_iff_lt-mul wide).1 l in
      let f : min (suc c) (x / u) ≡ min c (x / u) = omega arith in
      rw f refl

  late : (c x : ℕ) → suc c * u ≤ x → (G c x ≡ x + e * corners_to bits c) × (G (suc c) x ≡ x + e * (corners_to bits c + bit bits (suc c)))
  unfolding first corners_to
  late c x l =
      let h : suc c ≤ x / u = (le-div_iff_mul-le wide).1 l in
      let f : min c (x / u) ≡ c = omega arith in
      let g : min (suc c) (x / u) ≡ suc c = omega arith in
      (rw f refl, rw g refl)

  module _ (c j l : ℕ) (told : (x : ℕ) → (x < l) ↔ (G c x < j)) where
    abbrev z : ℕ
    z = suc c * u

    plain : bit bits (suc c) ≡ 0 → (x : ℕ) → (x < l) ↔ (G (suc c) x < j)
    plain n x = rw f (told x)
      where
        go : (a : ℕ) → suc x - z ≡ a → G (suc c) x ≡ G c x
        go zero h = early c x (omega arith)
        go (suc a) h = let (p, q) = late c x (omega arith) in omega (arith, p, rw n at q)

        f : G (suc c) x ≡ G c x
        f = go (suc x - z) refl

    -- a corner that the count does not reach
    short : bit bits (suc c) ≡ 1 → l ≤ z → (x : ℕ) → (x < l) ↔ (G (suc c) x < j)
    short n h x = go (suc x - z) refl
      where
        go : (a : ℕ) → suc x - z ≡ a → (x < l) ↔ (G (suc c) x < j)
        go zero m = rw (early c x (omega arith)) (told x)
        go (suc a) m =
            let (p, q) = late c x (omega arith) in
            let q' : G (suc c) x ≡ x + e * (corners_to bits c + 1) = rw n at q in
            (λ k. absurd (omega arith), λ k. (told x).1 (omega (arith, p, q')))

    -- one that it passes
    past : bit bits (suc c) ≡ 1 → z < l → (x : ℕ) → (x < max z (l - e)) ↔ (G (suc c) x < j)
    past n h x = go (suc x - z) refl
      where
        go : (a : ℕ) → suc x - z ≡ a → (x < max z (l - e)) ↔ (G (suc c) x < j)
        go zero m = (λ k. rw (early c x (omega arith)) ((told x).0 (omega arith)), λ k. omega arith)
        go (suc a) m =
            let (p, q) = late c x (omega arith) in
            let (p', _) = late c (x + e) (omega arith) in
            let q' : G (suc c) x ≡ x + e * (corners_to bits c + 1) = rw n at q in
            (λ k. omega (arith, q', p', (told (x + e)).0 (omega arith)), λ k. omega (arith, (told (x + e)).1 (omega (arith, q', p'))))

    pub passed_is : (x : ℕ) → (x < passed e z (is_set bits (suc c)) l) ↔ (G (suc c) x < j)
    unfolding passed
    passed_is x = cases (is_set bits (suc c))
        (λ t. let n : bit bits (suc c) ≡ 1 = rw (T_true (is_set bits (suc c)) t) in
        cases (ltb z l)
        (λ k. rw (T_true (is_set bits (suc c)) t, T_true (ltb z l) k) (past n (ltb→lt z l k) x))
        (λ k. rw (T_true (is_set bits (suc c)) t, T_false (ltb z l) (not_e (ltb z l) k)) (short n (nltb→le z l k) x)))
        (λ t. let f = T_false (is_set bits (suc c)) (not_e (is_set bits (suc c)) t) in rw f (plain (rw f) x))

  pub before_is : (c j x : ℕ) → (x < before bits e u c j) ↔ (G c x < j)
  unfolding before first corners_to
  before_is zero j x = let f : min 0 (x / u) ≡ 0 = omega arith in rw f (λ k. omega arith, λ k. omega arith)
  before_is (suc c) j x = passed_is c j (before bits e u c j) (before_is c j) x
