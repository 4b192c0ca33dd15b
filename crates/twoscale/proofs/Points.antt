-- The values at a point of the functions over its cell, by where it lies there; sums of them, each times a number. Assumes nothing.
use mathlib.Core.Path.{◌≡◌, refl, sym, ap, subst, ◌∙◌}
use mathlib.Core.Bool.{Bool}
use mathlib.Core.Logic.{◌≢◌}
use Prim.Native.Nat.{ℕ, suc, ◌+◌, ◌*◌, ◌/◌, ◌≤◌, ◌<◌}
use native.Mathlib.Nat.{mul_comm, div-div-eq-div-mul, mul-zero}
use native.Mathlib.Omega.{arith}
use lib.Dec.{eqb, eqb→eq}
use Rattle.facts.specs.Bounded.{sum}
use Rattle.facts.proofs.Tests.{cases, differ}
use Rattle.grid.specs.declared.Side.{Side}
use Rattle.grid.specs.Knots.{times, knot_on, functions, first_over}
use Rattle.grid.specs.Side.{Sized}
use Rattle.grid.proofs.Knots.{knots_to, knots_all}
use Rattle.splines.specs.Values.{basis, cell_of, from, value, value_in, value_on}
use Rattle.splines.specs.Local.{full}
use Rattle.splines.proofs.Three.{three, three_0, three_1, three_2, three_off, three_same, three_times, places, sum_window}
use Rattle.splines.proofs.Local.{Open, Point, last2, middle2, first2, one_local, two_local}
use Rattle.splines.proofs.Opened.{open_times}
use Rattle.splines.proofs.Values.{in_1, in_2}

-- the point x lies in cell c, u parts behind its first line and v before its second; g is the first function over the cell
pub record At (s : Side) (h x c g u v : ℕ) : Type 0 where
  pub sized : Sized s
  pub parts≥ : 1 ≤ h
  pub cell : cell_of h s.cells x ≡ c
  pub inside : c < s.cells
  pub first : first_over s c ≡ g
  pub point : Point h c x u v

module _ (s : Side) (h x c g u v : ℕ) (a : At s h x c g u v) where
  abbrev n : ℕ
  n = s.cells

  abbrev t : ℕ → ℕ
  t = knot_on s

  pub value_1 : s.degree ≡ 1 → (i : ℕ) → i < functions s → value_on s h i x ≡ three g (2 * h * v) (2 * h * u) 0 i
  unfolding value_on value
  value_1 e i k =
      ap (λ p. value_in h n p t i x) e
      ∙ in_1 h n t i x a.parts≥
      ∙ ap (λ z. basis h z (λ d. x) 1 (from t i) * (2 * h)) a.cell
      ∙ ap (λ z. z * (2 * h)) (one_local n (times s) o c g a.inside (omega (arith, knots_to s a.sized c a.inside, a.first)) h (λ d. x) u v a.point i (omega (arith, knots_all s a.sized)))
      ∙ three_times g v u 0 (2 * h) i
      ∙ three_same g i refl refl (mul-zero (2 * h))
    where
      o : Open 1 n (times s)
      o = subst (λ p. Open p n (times s)) e (open_times s a.sized)

  -- l and r: the cell's lines are full
  pub value_2 : s.degree ≡ 2 → (l r : Bool) → full (times s) c ≡ l → full (times s) (suc c) ≡ r → (i : ℕ) → i < functions s
      → value_on s h i x ≡ three g (last2 l v v) (middle2 l r u v u v) (first2 r u u) i
  unfolding value_on value
  value_2 e l r el er i k =
      ap (λ p. value_in h n p t i x) e
      ∙ in_2 h n t i x a.parts≥
      ∙ ap (λ z. basis h z (λ d. x) 2 (from t i)) a.cell
      ∙ rw (← el, ← er) (two_local n (times s) o c g a.inside (omega (arith, knots_to s a.sized c a.inside, a.first)) h (λ d. x) u v u v a.point a.point i (omega (arith, knots_all s a.sized)))
    where
      o : Open 2 n (times s)
      o = subst (λ p. Open p n (times s)) e (open_times s a.sized)

-- the cell over a cell of the next level
pub cell_over_lem : (h n x : ℕ) → cell_of (2 * h) n x ≡ cell_of h (2 * n) x / 2
unfolding cell_of
cell_over_lem h n x =
    let e : x / (2 * h) ≡ x / h / 2 = ap (λ z. x / z) (mul_comm 2 h) ∙ sym (div-div-eq-div-mul x h 2) in
    rw e (omega arith)

-- a sum of three numbers side by side, each times another; the third may stand outside where it is 0
pub weighed : (N f p q r : ℕ) (k : ℕ → ℕ) → f + 2 ≤ N → (N ≡ f + 2 → r ≡ 0) → sum N (λ j. k j * three f p q r j) ≡ k f * p + k (f + 1) * q + k (f + 2) * r
unfolding sum
weighed N f p q r k h z =
    cases (eqb N (f + 2))
    (λ y. let e = eqb→eq N (f + 2) y in
    sum_window N f 2 (λ j. k j * three f p q r j) h (λ i l. off i (omega arith) (omega arith) (omega arith)) (λ i l m. absurd (omega arith))
    ∙ rw (nil, at_0, at_1, z e) (omega arith))
    (λ y. let e = differ N (f + 2) y in
    sum_window N f 3 (λ j. k j * three f p q r j) (omega arith) (λ i l. off i (omega arith) (omega arith) (omega arith)) (λ i l m. off i (omega arith) (omega arith) (omega arith))
    ∙ rw (nil, at_0, at_1, at_2) (omega arith))
  where
    nil : f + 0 ≡ f
    nil = omega arith

    at_0 : three f p q r f ≡ p
    at_0 = three_0 f p q r f refl

    at_1 : three f p q r (f + 1) ≡ q
    at_1 = three_1 f p q r (f + 1) refl

    at_2 : three f p q r (f + 2) ≡ r
    at_2 = three_2 f p q r (f + 2) refl

    off : (i : ℕ) → i ≢ f → i ≢ f + 1 → i ≢ f + 2 → k i * three f p q r i ≡ 0
    off i a b d = rw (three_off f p q r i a b d) (omega arith)

-- what holds of each of the three numbers holds at each i
pub combine : (f i w w' w'' a a' a'' b b' b'' d d' d'' x y z : ℕ) → w ≡ a * x + b * y + d * z → w' ≡ a' * x + b' * y + d' * z → w'' ≡ a'' * x + b'' * y + d'' * z
    → three f w w' w'' i ≡ three f a a' a'' i * x + three f b b' b'' i * y + three f d d' d'' i * z
combine f i w w' w'' a a' a'' b b' b'' d d' d'' x y z p q r =
    places f i
    (λ e. rw (three_0 f w w' w'' i e, three_0 f a a' a'' i e, three_0 f b b' b'' i e, three_0 f d d' d'' i e) p)
    (λ e. rw (three_1 f w w' w'' i e, three_1 f a a' a'' i e, three_1 f b b' b'' i e, three_1 f d d' d'' i e) q)
    (λ e. rw (three_2 f w w' w'' i e, three_2 f a a' a'' i e, three_2 f b b' b'' i e, three_2 f d d' d'' i e) r)
    (λ s t v. rw (three_off f w w' w'' i s t v, three_off f a a' a'' i s t v, three_off f b b' b'' i s t v, three_off f d d' d'' i s t v) (omega arith))
