-- The children of a function of a side, by its own knots. Assumes nothing.
use mathlib.Core.Path.{◌≡◌, refl, ap}
use Prim.Native.Nat.{ℕ, zero, suc, ◌+◌, ◌*◌, ◌/◌, ◌≤◌, ◌<◌}
use native.Mathlib.Nat.{le_refl}
use native.Mathlib.Omega.{arith}
use Rattle.facts.specs.Bounded.{sum}
use Rattle.grid.specs.declared.Side.{Side}
use Rattle.grid.specs.Knots.{times, knot, knot_on, functions}
use Rattle.grid.specs.Side.{Sized}
use Rattle.grid.proofs.Knots.{line, knot_at, knot_le, below_of_le, knots_all, times_start, times_end, times_most}
use Rattle.splines.specs.Values.{basis, scale, cell_of, from}
use Rattle.twoscale.specs.TwoScale.{coefficient, quarters}
use Rattle.twoscale.specs.Passing.{children_of, quarters_of}
use Rattle.twoscale.specs.Claims.{Halved}
use Rattle.twoscale.proofs.Finer.{sized', functions_finer}
use Rattle.twoscale.proofs.Hats.{hat_children}
use Rattle.twoscale.proofs.Lines.{even_knot, odd_knot}
use Rattle.twoscale.proofs.Parabolas.{parabola_children}
use Rattle.twoscale.proofs.Refined.{Refined, either}
use Rattle.twoscale.proofs.Shifts.{children_by, hat_is, parabola_is}
use Rattle.twoscale.proofs.Steps.{step}

-- knots follow one another
rising : (m : ℕ → ℕ) (n a b : ℕ) → a ≤ b → b < sum (suc n) m → knot m n a ≤ knot m n b
rising m n a b l h = knot_le m n a (knot m n b) (omega (arith, below_of_le m n b (knot m n b) (le_refl (knot m n b)) h)) (omega arith)

module _ (s : Side) (z : Sized s) where
  abbrev p : ℕ
  p = s.degree

  -- more than p knots on one line: it is the first or the last
  crowd : {C : Type 0} (a b : ℕ) → b ≤ functions s + p → a + p ≤ b → knot_on s a ≡ knot_on s b
      → ((knot_on s a ≡ 0) × (a ≡ 0) × (b ≡ p) → C) → ((knot_on s a ≡ s.cells) × (a ≡ functions s) → C) → C
  unfolding sum
  crowd a b h l e first last =
      let all = knots_all s z in
      let (j, w, x, y) = line (times s) (suc s.cells) a (omega arith) in
      let f = knot_at (times s) s.cells j a (omega arith) x y in
      let g : b < sum j (times s) + times s j = below_of_le (times s) s.cells b j (omega arith) (omega arith) in
      either j 0
      (λ o. let q : sum j (times s) ≡ 0 = rw o refl in first (omega (arith, times_start s z, ap (times s) o)))
      (λ o. either j s.cells
      (λ k. last (omega (arith, times_end s z, ap (times s) k, ap (λ y. sum y (times s)) k)))
      (λ k. absurd (omega (arith, times_most s z j (omega arith) (omega arith)))))

-- ---- a side and its next level

module _ (s s' : Side) (half : Halved s s') (i : ℕ) (h : i < functions s) where
  abbrev z : Sized s
  z = half.sized

  abbrev t : ℕ → ℕ
  t k = knot_on s (i + k)

  some : t 0 < t (suc s.degree)
  some =
      let a = rising (times s) s.cells (i + 0) (i + suc s.degree) (omega arith) (omega (arith, knots_all s z)) in
      either (t 0) (t (suc s.degree))
      (λ e. crowd s z (i + 0) (i + suc s.degree) (omega arith) (omega arith) e (λ f. absurd (omega arith)) (λ f. absurd (omega arith)))
      (λ e. omega arith)

  next : (k : ℕ) → t (suc k) ≡ suc (t k) → knot_on s (i + k + 1) ≡ suc (t k)
  next k e = let f : i + k + 1 ≡ i + suc k = omega arith in rw f e

  refined : Refined s.degree s.cells (functions s) i (from (knot_on s) i) (knot_on s')
  refined = record {
    number = h;
    up = λ k l. (step s z (i + k) (i + suc k) (omega arith) (omega arith)).up;
    one = λ k l. (step s z (i + k) (i + suc k) (omega arith) (omega arith)).one;
    some = some;
    within = (step s z (i + s.degree) (i + suc s.degree) (omega arith) (omega arith)).within;
    start = λ e. crowd s z (i + 0) (i + s.degree) (omega arith) (omega arith) e (λ f. omega arith) (λ f. absurd (omega arith));
    end = λ e. crowd s z (i + 1) (i + suc s.degree) (omega arith) (omega arith) e (λ f. absurd (omega arith)) (λ f. omega arith);
    even = λ k j e. rw e.1 (even_knot s s' half (i + k) (omega arith));
    odd = λ k j e. rw e.2 (odd_knot s s' half (i + k) (omega arith) (next k e.1));
    rising = λ a b l w. rising (times s') s'.cells a b l (omega (arith, knots_all s' (sized' s s' half), functions_finer s s' half, half.degree));
  }

-- ---- degrees 1 and 2

by_degree : (p n count i j : ℕ) (t v : ℕ → ℕ) → 1 ≤ p → p ≤ 2 → Refined p n count i t v → j < count + n
    → basis 2 (cell_of 2 n (v (j + 1))) (λ d. v (j + suc d)) p t * 4 / scale 2 p ≡ quarters_of (children_by i (t 0) (t 1) (t p) (t (suc p))) j
unfolding scale
by_degree zero n count i j t v a b r l = absurd (omega arith)
by_degree (suc zero) n count i j t v a b r l = rw (hat_is (cell_of 2 n (v (j + 1))) (λ d. v (j + suc d)) t) (hat_children n count i t v r j l)
by_degree (suc (suc zero)) n count i j t v a b r l = rw (parabola_is (cell_of 2 n (v (j + 1))) (λ d. v (j + suc d)) t) (parabola_children n count i t v r j l)
by_degree (suc (suc (suc p))) n count i j t v a b r l = absurd (omega arith)

pub children_are : (s s' : Side) → Halved s s' → (i j : ℕ) → i < functions s → j < functions s' → quarters s s' i j ≡ quarters_of (children_of s i) j
unfolding quarters coefficient children_of
children_are s s' half i j h l =
    let first : i + 0 ≡ i = omega arith in
    let last : i + s.degree + 1 ≡ i + suc s.degree = omega arith in
    let law = by_degree s.degree s.cells (functions s) i j (from (knot_on s) i) (knot_on s') half.sized.degree≥ half.degree≤
    (refined s s' half i h) (omega (arith, functions_finer s s' half)) in
    rw last (rw first at law)
