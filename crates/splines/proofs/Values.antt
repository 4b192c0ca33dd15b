-- Degrees 1 and 2 in the same parts: the values at a point of the functions over its cell, of which 2 * h * h make 1, with nothing lost.
-- Over any knots that are open. Assumes nothing.
use mathlib.Core.Path.{◌≡◌, refl, sym, ap, subst, ◌∙◌}
use mathlib.Core.Bool.{Bool, true, false, cond}
use Prim.Native.Nat.{ℕ, suc, ◌+◌, ◌-◌, ◌*◌, ◌<◌, ◌≤◌}
use native.Mathlib.Nat.{mul-div_cancel, mul-pos, mul-zero}
use native.Mathlib.Omega.{arith}
use lib.Dec.{eqb, eqb→eq}
use Rattle.facts.specs.Bounded.{sum}
use Rattle.facts.proofs.Tests.{cases, differ}
use Rattle.grid.specs.Knots.{knot}
use Rattle.splines.specs.Values.{scale, cell_of, value, value_in}
use Rattle.splines.specs.Local.{full, outer}
use Rattle.splines.proofs.Three.{three, three_same, three_times}
use Rattle.splines.proofs.Local.{Open, last2, middle2, one_local, two_local}
use Rattle.splines.proofs.Halves.{unity2}
use Rattle.splines.proofs.Cells.{cell_inside, cell_point}

-- what holds of degree 1 and of degree 2
pub degrees : (P : ℕ → Type 0) → P 1 → P 2 → (p : ℕ) → 1 ≤ p → p ≤ 2 → P p
degrees P a b p g l =
    cases (eqb p 1) (λ y. subst P (sym (eqb→eq p 1 y)) a) (λ y. let e : 2 ≡ p = omega (arith, differ p 1 y) in subst P e b)

-- ---- the divisions leave no rest

module _ (h n : ℕ) (t : ℕ → ℕ) (i x : ℕ) (some : 1 ≤ h) where
  pub in_1 : value_in h n 1 t i x ≡ value h n 1 t i x * (2 * h)
  unfolding value_in scale
  in_1 =
      let s : 1 * h * 1 ≡ h = omega arith in
      let e : value h n 1 t i x * (2 * h * h) ≡ value h n 1 t i x * (2 * h) * h = omega arith in
      rw (s, e) (mul-div_cancel (value h n 1 t i x * (2 * h)) {n = h} some)

  pub in_2 : value_in h n 2 t i x ≡ value h n 2 t i x
  unfolding value_in scale
  in_2 =
      let s : 2 * h * (1 * h * 1) ≡ 2 * h * h = omega arith in
      rw s (mul-div_cancel (value h n 2 t i x) {n = 2 * h * h} (mul-pos (mul-pos (omega arith) some) some))

abbrev Whole : ℕ → Type 0
Whole p = (h n : ℕ) (t : ℕ → ℕ) (i x : ℕ) → 1 ≤ h → value_in h n p t i x * scale h p ≡ value h n p t i x * (2 * h * h)

pub whole : (p : ℕ) → 1 ≤ p → p ≤ 2 → Whole p
unfolding scale
whole = degrees Whole
    (λ h n t i x s. rw (in_1 h n t i x s) (omega arith))
    (λ h n t i x s. rw (in_2 h n t i x s) (omega arith))

-- ---- the functions over a cell

-- the three of them, by the degree: the cell has h parts, of which u lie before the point and v behind it; l and r say whether its lines
-- are full
module _ (p : ℕ) (l r : Bool) (h u v : ℕ) where
  abbrev pub between : ℕ
  between = 2 * h * h - outer p l h v - outer p r h u

  abbrev pub second : ℕ
  second = cond (eqb p 1) (outer p r h u) between

  abbrev pub third : ℕ
  third = cond (eqb p 1) 0 (outer p r h u)

-- they make 1
outer_2 : (l : Bool) (h v : ℕ) → outer 2 l h v ≡ last2 l v v
unfolding outer
outer_2 true h v = omega arith
outer_2 false h v = omega arith

pub between_2 : (l r : Bool) (h u v : ℕ) → u + v ≡ h → between 2 l r h u v ≡ middle2 l r u v u v
between_2 l r h u v e = rw (outer_2 l h v, outer_2 r h u, ← e) (omega (arith, unity2 l r u v))

abbrev Makes : ℕ → Type 0
Makes p = (l r : Bool) (h u v : ℕ) → u + v ≡ h → outer p l h v + second p l r h u v + third p l r h u v ≡ 2 * h * h

makes_1 : Makes 1
unfolding outer
makes_1 l r h u v e = rw (← e) (omega arith)

makes_2 : Makes 2
makes_2 l r h u v e = rw (between_2 l r h u v e, outer_2 l h v, outer_2 r h u, ← e) (unity2 l r u v)

pub makes : (p : ℕ) → 1 ≤ p → p ≤ 2 → Makes p
makes = degrees Makes makes_1 makes_2

-- f is the first function over the point's cell
abbrev Locally : ℕ → Type 0
Locally p =
    (n : ℕ) (m : ℕ → ℕ) → Open p n m → (h x f : ℕ) → 1 ≤ h → x ≤ n * h → sum (suc (cell_of h n x)) m ≡ f + (p + 1) → (i : ℕ) → i + (p + 1) < sum (suc n) m →
    let c = cell_of h n x in
    let l = full m c in
    let r = full m (suc c) in
    let u = x - c * h in
    let v = suc c * h - x in
    value_in h n p (knot m n) i x ≡ three f (outer p l h v) (second p l r h u v) (third p l r h u v) i

locally_1 : Locally 1
unfolding value outer
locally_1 n m o h x f s b first i k =
    in_1 h n (knot m n) i x s
    ∙ ap (λ z. z * (2 * h)) (one_local n m o (cell_of h n x) f (cell_inside h n x o.some) first h (λ d. x) _ _ (cell_point h n x s o.some b) i k)
    ∙ three_times f _ _ 0 (2 * h) i
    ∙ three_same f i refl refl (mul-zero (2 * h))

locally_2 : Locally 2
unfolding value
locally_2 n m o h x f s b first i k =
    let q = cell_point h n x s o.some b in
    in_2 h n (knot m n) i x s
    ∙ two_local n m o (cell_of h n x) f (cell_inside h n x o.some) first h (λ d. x) _ _ _ _ q q i k
    ∙ three_same f i (sym (outer_2 _ h _)) (sym (between_2 _ _ h _ _ q.parts)) (sym (outer_2 _ h _))

pub locally : (p : ℕ) → 1 ≤ p → p ≤ 2 → Locally p
locally = degrees Locally locally_1 locally_2
