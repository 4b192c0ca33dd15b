-- From knot to knot of a side there is no line or one. Assumes nothing.
use mathlib.Core.Bool.{true, ◌&&◌}
use mathlib.Core.Logic.{◌≢◌}
use mathlib.Core.Path.{◌≡◌, refl}
use Prim.Native.Nat.{ℕ, suc, ◌+◌, ◌≤◌, ◌<◌}
use native.Mathlib.Nat.{le_refl}
use native.Mathlib.Omega.{arith}
use lib.Dec.{eqb, eqb→eq, leb, le→leb, ltb, ltb→lt, nltb→le}
use Rattle.facts.specs.Bounded.{sum}
use Rattle.facts.proofs.Tests.{cases, differ, T_true, T_false, and_i, eqb_of}
use Rattle.grid.specs.declared.Side.{Side}
use Rattle.grid.specs.Knots.{times, knot_on, functions}
use Rattle.grid.specs.Side.{Sized}
use Rattle.twoscale.specs.declared.Children.{Children}
use Rattle.twoscale.specs.Passing.{quarters_of}
use Rattle.grid.proofs.Knots.{knot_le, below_of_le, above_of_gt, knot_next, knots_all, times_least}

module _ (s : Side) (z : Sized s) where
  abbrev n : ℕ
  n = s.cells

  -- knots i and i + 1
  pub record Step (i j : ℕ) : Type 0 where
    pub up : knot_on s i ≤ knot_on s j
    pub one : knot_on s j ≤ suc (knot_on s i)
    pub within : knot_on s j ≤ n

  pub step : (i j : ℕ) → j ≡ i + 1 → i < functions s + s.degree → Step i j
  step i j e h =
      let k : j ≡ suc i = omega arith in
      let all : suc i < sum (suc n) (times s) = omega (arith, knots_all s z) in
      rw k (record {
        up = cases (ltb (knot_on s (suc i)) (knot_on s i))
            (λ y. let l = ltb→lt (knot_on s (suc i)) (knot_on s i) y in
            absurd (omega (arith, (above_of_gt (times s) n i (knot_on s (suc i)) l).1, below_of_le (times s) n (suc i) (knot_on s (suc i)) (le_refl (knot_on s (suc i))) all)))
            (λ y. nltb→le (knot_on s (suc i)) (knot_on s i) y);
        one = knot_next (times s) n (λ j l. times_least s z j) i all;
        within = knot_le (times s) n (suc i) n all all;
      })

  -- of function i: its first knot and its last but one, its second and its last
  pub record Spread (i : ℕ) : Type 0 where
    pub low : knot_on s i ≤ knot_on s (i + s.degree)
    pub low≤ : knot_on s (i + s.degree) ≤ knot_on s i + 2
    pub high : knot_on s (i + 1) ≤ knot_on s (i + s.degree + 1)
    pub high≤ : knot_on s (i + s.degree + 1) ≤ knot_on s (i + 1) + 2
    pub first≤ : knot_on s i ≤ n
    pub within : knot_on s (i + s.degree + 1) ≤ n

  pub spread : (i : ℕ) → i < functions s → s.degree ≤ 2 → Spread i
  spread i h d =
      cases (eqb s.degree 1)
      (λ y. let e = eqb→eq s.degree 1 y in
      let a = step i (i + s.degree) (omega arith) (omega arith) in
      let b = step (i + 1) (i + s.degree + 1) (omega arith) (omega arith) in
      record {
        low = a.up;
        low≤ = omega (arith, a.one);
        high = b.up;
        high≤ = omega (arith, b.one);
        first≤ = omega (arith, a.up, b.up, b.within);
        within = b.within;
      })
      (λ y. let e : s.degree ≡ 2 = omega (arith, differ s.degree 1 y, z.degree≥) in
      let a = step i (i + 1) refl (omega arith) in
      let b = step (i + 1) (i + s.degree) (omega arith) (omega arith) in
      let c = step (i + s.degree) (i + s.degree + 1) refl (omega arith) in
      record {
        low = omega (arith, a.up, b.up);
        low≤ = omega (arith, a.one, b.one);
        high = omega (arith, b.up, c.up);
        high≤ = omega (arith, b.one, c.one);
        first≤ = omega (arith, a.up, b.up, c.up, c.within);
        within = c.within;
      })

-- ---- the quarters of one of the children

module _ (a : Children) (j : ℕ) (from : a.first ≤ j) (to : j ≤ a.last) where
  one_of : leb a.first j && leb j a.last ≡ true
  one_of = T_true (leb a.first j && leb j a.last) (and_i (leb a.first j) (leb j a.last) (le→leb a.first j from) (le→leb j a.last to))

  pub is_low : j ≡ a.first → a.low ≡ quarters_of a j
  unfolding quarters_of
  is_low e = rw (one_of, T_true (eqb j a.first) (eqb_of j a.first e)) refl

  pub is_high : j ≢ a.first → j ≡ a.last → a.high ≡ quarters_of a j
  unfolding quarters_of
  is_high d e = rw (one_of, T_false (eqb j a.first) (λ y. d (eqb→eq j a.first y)), T_true (eqb j a.last) (eqb_of j a.last e)) refl

  pub is_middle : j ≢ a.first → j ≢ a.last → a.middle ≡ quarters_of a j
  unfolding quarters_of
  is_middle d e = rw (one_of, T_false (eqb j a.first) (λ y. d (eqb→eq j a.first y)), T_false (eqb j a.last) (λ y. e (eqb→eq j a.last y))) refl
