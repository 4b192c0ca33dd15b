-- The functions over one cell of a level, by degree: which they are, and what they are worth there. Assumes nothing.
use mathlib.Core.Path.{◌≡◌, refl, sym, ap, ◌∙◌}
use mathlib.Core.Bool.{Bool, true, false, not, cond}
use Prim.Native.Nat.{ℕ, suc, pred, ◌+◌, ◌-◌, ◌*◌, ◌<◌, ◌≤◌}
use native.Mathlib.Nat.{le_refl}
use native.Mathlib.Omega.{arith}
use lib.Dec.{T, ltb, eqb, ltb→lt, nltb→le, eqb→eq}
use Rattle.facts.specs.Bounded.{sum}
use Rattle.facts.proofs.Tests.{cases, differ}
use Rattle.grid.specs.Knots.{knot}
use Rattle.grid.proofs.Knots.{knot_at, knot_le, knot_gt}
use Rattle.splines.specs.Values.{rise, fall, basis, from}
use Rattle.splines.specs.Local.{full}
use Rattle.splines.proofs.Three.{three, three_0, three_1, three_2, three_off, places}
use Rattle.splines.proofs.Recursion.{zero_behind, zero_before, rise_near, fall_near, rise_far, fall_far, one_last, one_first, two_last, two_middle, two_first}

-- how often each of n + 1 lines may be taken at degree p
pub record Open (p n : ℕ) (m : ℕ → ℕ) : Type 0 where
  pub some : 1 ≤ n
  pub near : m 0 ≡ p + 1
  pub far : m n ≡ p + 1
  pub least : (j : ℕ) → j ≤ n → 1 ≤ m j
  pub most : (j : ℕ) → 1 ≤ j → j < n → m j ≤ p

-- the pieces of degree 2 on a cell, by whether its two lines are full; of the parts u and v of the cell before and behind the point
abbrev pub last2 : Bool → ℕ → ℕ → ℕ
last2 l v v' = cond l (2 * v') v' * v

abbrev pub middle2 : Bool → Bool → ℕ → ℕ → ℕ → ℕ → ℕ
middle2 l r u v u' v' = cond l (2 * u') (2 * u' + v') * v + cond r (2 * v') (u' + 2 * v') * u

abbrev pub first2 : Bool → ℕ → ℕ → ℕ
first2 r u u' = cond r (2 * u') u' * u

-- a point of cell c: u parts behind its first line and v before its second
pub record Point (h c x u v : ℕ) : Type 0 where
  pub place : x ≡ c * h + u
  pub parts : u + v ≡ h

pub point_rise : (h c x u v : ℕ) → Point h c x u v → x - c * h ≡ u
point_rise h c x u v p = omega (arith, p.place)

pub point_fall : (h c x u v : ℕ) → Point h c x u v → suc c * h - x ≡ v
point_fall h c x u v p = omega (arith, p.place, p.parts)

-- the lines that the knots beside a cell lie on
abbrev pub left_line : Bool → ℕ → ℕ
left_line l c = cond l c (pred c)

abbrev pub right_line : Bool → ℕ → ℕ
right_line r c = cond r (suc c) (suc (suc c))

module _ (h c x u v : ℕ) (p : Point h c x u v) where
  left_fall : (l : Bool) → (T (not l) → 1 ≤ c) → fall h 2 (left_line l c) (suc c) x ≡ cond l (2 * v) v
  left_fall true g = rw (fall_near h c x, point_fall h c x u v p)
  left_fall false g = let e : c ≡ suc (pred c) = omega (arith, g tt) in ap (λ z. fall h 2 (pred c) (suc z) x) e ∙ fall_far h (pred c) x ∙ ap (λ z. suc z * h - x) (sym e) ∙ point_fall h c x u v p

  left_rise : (l : Bool) → (T (not l) → 1 ≤ c) → rise h 2 (left_line l c) (suc c) x ≡ cond l (2 * u) (2 * u + v)
  left_rise true g = rw (rise_near h c x, point_rise h c x u v p)
  left_rise false g = let e : c ≡ suc (pred c) = omega (arith, g tt) in ap (λ z. rise h 2 (pred c) (suc z) x) e ∙ rise_far h (pred c) x ∙ omega (arith, p.place, p.parts, ap (λ z. z * h) e)

  right_fall : (r : Bool) → fall h 2 c (right_line r c) x ≡ cond r (2 * v) (u + 2 * v)
  right_fall true = rw (fall_near h c x, point_fall h c x u v p)
  right_fall false = fall_far h c x ∙ omega (arith, p.place, p.parts)

  right_rise : (r : Bool) → rise h 2 c (right_line r c) x ≡ cond r (2 * u) u
  right_rise true = rw (rise_near h c x, point_rise h c x u v p)
  right_rise false = rise_far h c x ∙ point_rise h c x u v p

-- ---- degree 1

-- f is the first of the two functions over cell c
module _ (n : ℕ) (m : ℕ → ℕ) (o : Open 1 n m) (c f : ℕ) (inside : c < n) (first : sum (suc c) m ≡ f + 2) where
  pub one_here : (i : ℕ) → i ≡ f + 1 → knot m n i ≡ c
  unfolding sum
  one_here i e = knot_at m n c i (omega arith) (omega (arith, o.least c (omega arith))) (omega arith)

  pub one_next : (i : ℕ) → i ≡ f + 2 → knot m n i ≡ suc c
  unfolding sum
  one_next i e = knot_at m n (suc c) i (omega arith) (omega arith) (omega (arith, o.least (suc c) (omega arith)))

  pub one_local : (h : ℕ) (x : ℕ → ℕ) (u v : ℕ) → Point h c (x 0) u v → (i : ℕ) → i + 2 < sum (suc n) m → basis h c x 1 (from (knot m n) i) ≡ three f v u 0 i
  one_local h x u v p i b =
      places f i
      (λ e. one_last h c x (from (knot m n) i) (knot_le m n (i + 0) c (omega arith) (omega arith)) (one_here (i + 1) (omega arith)) (one_next (i + 2) (omega arith))
      ∙ point_fall h c (x 0) u v p ∙ sym (three_0 f v u 0 i e))
      (λ e. one_first h c x (from (knot m n) i) (one_here (i + 0) (omega arith)) (one_next (i + 1) (omega arith)) ∙ point_rise h c (x 0) u v p ∙ sym (three_1 f v u 0 i e))
      (λ e. behind (omega arith) ∙ sym (three_2 f v u 0 i e))
      (λ y z w. cases (ltb i f)
      (λ k. let l = ltb→lt i f k in zero_behind h c x 1 (from (knot m n) i) (λ j q. knot_le m n (i + j) c (omega arith) (omega arith)))
      (λ k. let l = nltb→le i f k in behind (omega arith))
      ∙ sym (three_off f v u 0 i y z w))
    where
      behind : f + 2 ≤ i → basis h c x 1 (from (knot m n) i) ≡ 0
      behind l = zero_before h c x 1 (from (knot m n) i) (λ j k. knot_gt m n (i + j) c (omega arith) (omega arith))

-- ---- degree 2

-- f is the first of the three functions over cell c
module _ (n : ℕ) (m : ℕ → ℕ) (o : Open 2 n m) (c f : ℕ) (inside : c < n) (first : sum (suc c) m ≡ f + 3) where
  pub here : (i : ℕ) → i ≡ f + 2 → knot m n i ≡ c
  unfolding sum
  here i e = knot_at m n c i (omega arith) (omega (arith, o.least c (omega arith))) (omega arith)

  pub next : (i : ℕ) → i ≡ f + 3 → knot m n i ≡ suc c
  unfolding sum
  next i e = knot_at m n (suc c) i (omega arith) (omega arith) (omega (arith, o.least (suc c) (omega arith)))

  pub not_first : T (not (full m c)) → 1 ≤ c
  not_first y = cases (eqb c 0) (λ z. absurd (omega (arith, o.near, ap m (eqb→eq c 0 z), nltb→le 1 (m c) y))) (λ z. omega (arith, differ c 0 z))

  pub not_last : T (not (full m (suc c))) → suc (suc c) ≤ n
  not_last y = cases (eqb (suc c) n) (λ z. absurd (omega (arith, o.far, ap m (eqb→eq (suc c) n z), nltb→le 1 (m (suc c)) y))) (λ z. omega (arith, differ (suc c) n z))

  pub left : (i : ℕ) → i ≡ f + 1 → (l : Bool) → full m c ≡ l → knot m n i ≡ left_line l c
  unfolding sum
  left i e true g = knot_at m n c i (omega arith) (omega (arith, ltb→lt 1 (m c) (rw g tt))) (omega arith)
  left i e false g =
      let y : T (not (full m c)) = rw g tt in
      let z : c ≡ suc (pred c) = omega (arith, not_first y) in
      let w : sum c m ≡ sum (suc (pred c)) m = ap (λ k. sum k m) z in
      knot_at m n (pred c) i (omega arith) (omega (arith, nltb→le 1 (m c) y, o.least c (omega arith), o.least (pred c) (omega arith))) (omega (arith, nltb→le 1 (m c) y, o.least c (omega arith)))

  pub right : (i : ℕ) → i ≡ f + 4 → (r : Bool) → full m (suc c) ≡ r → knot m n i ≡ right_line r c
  unfolding sum
  right i e true g = knot_at m n (suc c) i (omega arith) (omega arith) (omega (arith, ltb→lt 1 (m (suc c)) (rw g tt)))
  right i e false g =
      let y : T (not (full m (suc c))) = rw g tt in
      let z : suc (suc c) ≤ n = not_last y in
      knot_at m n (suc (suc c)) i z (omega (arith, nltb→le 1 (m (suc c)) y, o.least (suc c) (omega arith))) (omega (arith, nltb→le 1 (m (suc c)) y, o.least (suc c) (omega arith), o.least (suc (suc c)) z))

  module _ (h : ℕ) (x : ℕ → ℕ) (u v u' v' : ℕ) (p : Point h c (x 0) u v) (p' : Point h c (x 1) u' v') where
    abbrev l : Bool
    l = full m c

    abbrev r : Bool
    r = full m (suc c)

    pub two_local : (i : ℕ) → i + 3 < sum (suc n) m →
        basis h c x 2 (from (knot m n) i) ≡ three f (last2 l v v') (middle2 l r u v u' v') (first2 r u u') i
    two_local i b =
        places f i
        (λ e. two_last h c x (from (knot m n) i) (left_line l c) (knot_le m n (i + 0) c (omega arith) (omega arith)) (left (i + 1) (omega arith) l refl)
        (left_le l) (here (i + 2) (omega arith)) (next (i + 3) (omega arith))
        ∙ rw (left_fall h c (x 1) u' v' p' l not_first, point_fall h c (x 0) u v p) (sym (three_0 f _ _ _ i e)))
        (λ e. two_middle h c x (from (knot m n) i) (left_line l c) (right_line r c) (left (i + 0) (omega arith) l refl) (left_le l) (here (i + 1) (omega arith)) (next (i + 2) (omega arith)) (right (i + 3) (omega arith) r refl) (right_gt r)
        ∙ rw (left_rise h c (x 1) u' v' p' l not_first, right_fall h c (x 1) u' v' p' r, point_fall h c (x 0) u v p, point_rise h c (x 0) u v p) (sym (three_1 f _ _ _ i e)))
        (λ e. two_first h c x (from (knot m n) i) (right_line r c) (here (i + 0) (omega arith)) (next (i + 1) (omega arith)) (right (i + 2) (omega arith) r refl) (right_gt r)
        ∙ rw (right_rise h c (x 1) u' v' p' r, point_rise h c (x 0) u v p) (sym (three_2 f _ _ _ i e)))
        (λ a b' d. cases (ltb i f)
        (λ y. let z = ltb→lt i f y in zero_behind h c x 2 (from (knot m n) i) (λ j k. knot_le m n (i + j) c (omega arith) (omega arith)))
        (λ y. let z = nltb→le i f y in zero_before h c x 2 (from (knot m n) i) (λ j k. knot_gt m n (i + j) c (omega arith) (omega arith)))
        ∙ sym (three_off f _ _ _ i a b' d))
      where
        left_le : (l : Bool) → left_line l c ≤ c
        left_le true = le_refl c
        left_le false = let e : pred c ≤ c = omega arith in e

        right_gt : (r : Bool) → c < right_line r c
        right_gt true = le_refl (suc c)
        right_gt false = let e : c < suc (suc c) = omega arith in e
