-- Where a function is not 0: inside its support, and only there. Assumes nothing.
use mathlib.Core.Path.{◌≡◌, refl, sym, ap, subst, ◌∙◌}
use mathlib.Core.Logic.{◌≢◌}
use mathlib.Core.Bool.{Bool, true, false, not, ◌&&◌, ◌||◌, cond}
use Prim.Native.Nat.{ℕ, zero, suc, pred, ◌+◌, ◌-◌, ◌*◌, ◌<◌, ◌≤◌, zero-le}
use native.Mathlib.Nat.{mul-le-mul_right, mul-pos, le_refl}
use native.Mathlib.Omega.{arith}
use lib.Dec.{T, eqb, leb, ltb, eqb→eq, leb→le, le→leb, ltb→lt, lt→ltb, nltb→le}
use Rattle.facts.specs.Bounded.{sum}
use Rattle.facts.proofs.Tests.{cases, same, not_i, not_e, and_i, and_l, and_r, or_l, or_r, or_e, T_true, T_false, eqb_of, differ, zero_or}
use Rattle.grid.specs.declared.Side.{Side}
use Rattle.grid.specs.Knots.{times, knot_on, functions, covers, first_over}
use Rattle.grid.proofs.Knots.{knot_at, knot_le, knot_gt, times_most, first_zero, knots_to, knots_all, first_lt, functions_last, covers_test}
use Rattle.splines.specs.Values.{cell_of, value_on, is_inside}
use Rattle.splines.specs.Local.{full, outer, local_of, piece_of}
use Rattle.splines.specs.Claims.{OnSide, Values}
use Rattle.splines.proofs.Local.{Open, Point, middle2, left_line, right_line, left, right, not_first}
use Rattle.splines.proofs.Located.{inside, point, starts, ends}
use Rattle.splines.proofs.Values.{between, between_2}
use Rattle.splines.proofs.Sides.{opened, value_over, value_outside, value_factors, value_whole, value_most, value_one, value_continuous}

-- ---- the pieces over a cell

-- the first and the last
outer_some : (p : ℕ) (l : Bool) (h v : ℕ) → 1 ≤ h → 1 ≤ v → 1 ≤ outer p l h v
unfolding outer
outer_some p l h v g k = go (eqb p 1) l
  where
    go : (b l : Bool) → 1 ≤ cond b (2 * h * v) (cond l (2 * (v * v)) (v * v))
    go true l = omega (arith, mul-pos g k)
    go false true = omega (arith, mul-pos k k)
    go false false = mul-pos k k

outer_none : (p : ℕ) (l : Bool) (h v : ℕ) → v ≡ 0 → outer p l h v ≡ 0
unfolding outer
outer_none p l h v e = rw e (go (eqb p 1) l)
  where
    go : (b l : Bool) → cond b (2 * h * 0) (cond l (2 * (0 * 0)) (0 * 0)) ≡ 0
    go true l = omega arith
    go false true = refl
    go false false = refl

-- the one between them, at degree 2
middle_some : (l r : Bool) (u v : ℕ) → 1 ≤ u + v → (T l → 1 ≤ u) → (T r → 1 ≤ v) → 1 ≤ middle2 l r u v u v
middle_some true true u v g a b = omega (arith, mul-pos (a tt) (b tt))
middle_some true false u v g a b = omega (arith, mul-pos (a tt) (a tt))
middle_some false true u v g a b = omega (arith, mul-pos (b tt) (b tt))
middle_some false false zero v g a b = let w : 1 ≤ v = omega arith in omega (arith, mul-pos w w)
middle_some false false (suc u) v g a b = omega arith

middle_none_left : (l r : Bool) (u v : ℕ) → T l → u ≡ 0 → middle2 l r u v u v ≡ 0
middle_none_left true r u v a e = rw e (omega arith)
middle_none_left false r u v a e = elim a [ ]

middle_none_right : (l r : Bool) (u v : ℕ) → T r → v ≡ 0 → middle2 l r u v u v ≡ 0
middle_none_right l true u v a e = rw e (omega arith)
middle_none_right l false u v a e = elim a [ ]

module _ (s : Side) (h x : ℕ) (on : OnSide s h x) where
  abbrev p : ℕ
  p = s.degree

  all : sum (suc s.cells) (times s) ≡ functions s + p + 1
  all = knots_all s on.sized

  -- ---- the test

  module _ (i : ℕ) where
    abbrev behind : Bool
    behind = eqb i 0 || ltb (knot_on s i * h) x

    abbrev before : Bool
    before = eqb (i + 1) (functions s) || ltb x (knot_on s (i + p + 1) * h)

    is_inside_lem : (i ≢ 0 → knot_on s i * h < x) → (i + 1 ≢ functions s → x < knot_on s (i + p + 1) * h) → T (is_inside s h i x)
    unfolding is_inside
    is_inside_lem a b =
        and_i behind before
        (cases (eqb i 0) (λ y. or_l (eqb i 0) _ y) (λ y. or_r (eqb i 0) (ltb (knot_on s i * h) x) (lt→ltb _ x (a (differ i 0 y)))))
        (cases (eqb (i + 1) (functions s)) (λ y. or_l (eqb (i + 1) (functions s)) _ y)
        (λ y. or_r (eqb (i + 1) (functions s)) (ltb x (knot_on s (i + p + 1) * h)) (lt→ltb x _ (b (differ (i + 1) (functions s) y)))))

    module _ (t : T (is_inside s h i x)) where
      behind_first : i ≢ 0 → knot_on s i * h < x
      unfolding is_inside
      behind_first n = or_e (eqb i 0) _ (and_l behind before t) (λ y. absurd (n (eqb→eq i 0 y))) (λ y. ltb→lt (knot_on s i * h) x y)

      before_last : i + 1 ≢ functions s → x < knot_on s (i + p + 1) * h
      unfolding is_inside
      before_last n = or_e (eqb (i + 1) (functions s)) _ (and_r behind before t) (λ y. absurd (n (eqb→eq (i + 1) (functions s) y))) (λ y. ltb→lt x (knot_on s (i + p + 1) * h) y)

  -- ---- a cell that the point touches

  module _ (c : ℕ) (l : c < s.cells) (from : c * h ≤ x) (to : x ≤ suc c * h) where
    abbrev f : ℕ
    f = first_over s c

    -- the knots on its first line or before it, and behind it
    knot_low : (j : ℕ) → j ≤ f + p → knot_on s j * h ≤ x
    knot_low j k = omega (arith, mul-le-mul_right h (knot_le (times s) s.cells j c (omega (arith, knots_to s on.sized c l)) (omega (arith, all, first_lt s on.sized c l))))

    knot_high : (j : ℕ) → f + p < j → j ≤ functions s + p → x ≤ knot_on s j * h
    knot_high j k m = omega (arith, mul-le-mul_right h (knot_gt (times s) s.cells j c (omega (arith, knots_to s on.sized c l)) (omega (arith, all))))

    -- a function that does not cover it
    off : (i : ℕ) → i < functions s → (f ≤ i → i ≤ f + p → ⊥) → T (not (is_inside s h i x))
    off i b n = not_i (is_inside s h i x) (λ t. cases (ltb i f)
        (λ y. let z = ltb→lt i f y in absurd (omega (arith, knot_low (i + p + 1) (omega arith), before_last i t (omega (arith, first_lt s on.sized c l)))))
        (λ y. let z = nltb→le i f y in
        let w : f + p < i = cases (ltb (f + p) i) (λ q. ltb→lt (f + p) i q) (λ q. absurd (n z (nltb→le (f + p) i q))) in
        absurd (omega (arith, knot_high i w (omega arith), behind_first i t (omega arith)))))

  -- ---- the functions over the point's cell

  abbrev c : ℕ
  c = cell_of h s.cells x

  abbrev u : ℕ
  u = x - c * h

  abbrev v : ℕ
  v = suc c * h - x

  abbrev first : ℕ
  first = first_over s c

  place : Point h c x u v
  place = point on refl

  in_cells : c < s.cells
  in_cells = inside on refl

  knots : sum (suc c) (times s) ≡ first + p + 1
  knots = knots_to s on.sized c in_cells

  -- the last knot on the cell's first line, and the first on its second
  here : knot_on s (first + p) ≡ c
  unfolding sum
  here = knot_at (times s) s.cells c (first + p) (omega (arith, in_cells)) (omega (arith, knots, (opened s h x on).least c (omega (arith, in_cells)))) (omega (arith, knots))

  next : knot_on s (first + p + 1) ≡ suc c
  unfolding sum
  next = knot_at (times s) s.cells (suc c) (first + p + 1) in_cells (omega (arith, knots)) (omega (arith, knots, (opened s h x on).least (suc c) in_cells))

  -- the first of them begins before the cell, the last ends behind it; on an end of the side it is the outermost
  begins : first ≢ 0 → knot_on s first * h < x
  unfolding sum
  begins n =
      let g : c ≢ 0 = λ e. n (ap (first_over s) e ∙ first_zero s on.sized) in
      let e : suc (c - 1) ≡ c = omega arith in
      let m : sum (suc (c - 1)) (times s) ≡ sum c (times s) = ap (λ k. sum k (times s)) e in
      let k : knot_on s first ≤ c - 1 = knot_le (times s) s.cells first (c - 1) (omega (arith, m, knots, times_most s on.sized c (omega arith) in_cells)) (omega (arith, all, first_lt s on.sized c in_cells)) in
      omega (arith, mul-le-mul_right h k, ap (λ z. z * h) e, starts on refl, on.parts≥)

  stops : first + p + 1 ≢ functions s → x < knot_on s (first + p + p + 1) * h
  unfolding sum
  stops n =
      let g : suc c ≢ s.cells = λ e. let z : s.cells - 1 ≡ c = omega arith in n (omega (arith, functions_last s on.sized, ap (first_over s) z)) in
      let k : suc c < s.cells = omega (arith, in_cells) in
      let m : suc c < knot_on s (first + p + p + 1) = knot_gt (times s) s.cells (first + p + p + 1) (suc c) (omega (arith, knots, times_most s on.sized (suc c) (omega arith) k)) (omega (arith, all, first_lt s on.sized c in_cells)) in
      omega (arith, mul-le-mul_right h m, ends on refl, on.parts≥)

  -- a value by what it is: both tests say the same where each follows from the other
  module _ (i : ℕ) {n : ℕ} (is : value_on s h i x ≡ n) where
    tested : (1 ≤ n → T (is_inside s h i x)) → (T (is_inside s h i x) → 1 ≤ n) → ltb 0 (value_on s h i x) ≡ is_inside s h i x
    tested a b = rw is (same (ltb 0 n) (is_inside s h i x) (λ y. a (ltb→lt 0 n y)) (λ t. lt→ltb 0 n (b t)))

  abbrev Tested : ℕ → Type 0
  Tested i = ltb 0 (value_on s h i x) ≡ is_inside s h i x

  low_tested : Tested first
  unfolding piece_of local_of
  low_tested =
      let e : first + 0 ≡ first = omega arith in
      let k = ap (λ z. z * h) next in
      tested first (ap (λ i. value_on s h i x) (sym e) ∙ value_over s h x on 0 zero-le)
      (λ g. is_inside_lem first begins (λ n. zero_or v (λ z. absurd (omega (arith, outer_none p (full (times s) c) h v z))) (λ y. omega arith)))
      (λ t. outer_some p (full (times s) c) h v on.parts≥ (omega (arith, before_last first t (omega (arith, first_lt s on.sized c in_cells, on.sized.degree≥)))))

  high_tested : Tested (first + p)
  unfolding piece_of local_of
  high_tested =
      let k = ap (λ z. z * h) here in
      let a = T_false (eqb p 0) (λ y. absurd (omega (arith, eqb→eq p 0 y, on.sized.degree≥))) in
      let b = T_true (eqb p p) (eqb_of p p refl) in
      tested (first + p) (value_over s h x on p (le_refl p) ∙ rw (a, b) refl)
      (λ g. is_inside_lem (first + p) (λ n. zero_or u (λ z. absurd (omega (arith, outer_none p (full (times s) (suc c)) h u z))) (λ y. omega arith)) stops)
      (λ t. outer_some p (full (times s) (suc c)) h u on.parts≥ (omega (arith, behind_first (first + p) t (omega (arith, on.sized.degree≥)))))

  -- the one between them: it begins or ends on a line of the cell where that is full
  module _ (e : p ≡ 2) where
    abbrev l : Bool
    l = full (times s) c

    abbrev r : Bool
    r = full (times s) (suc c)

    open2 : Open 2 s.cells (times s)
    open2 = subst (λ d. Open d s.cells (times s)) e (opened s h x on)

    begins_at : knot_on s (first + 1) ≡ left_line l c
    begins_at = left s.cells (times s) open2 c first in_cells (omega (arith, knots)) (first + 1) refl l refl

    ends_at : knot_on s (first + 1 + p + 1) ≡ right_line r c
    ends_at = right s.cells (times s) open2 c first in_cells (omega (arith, knots)) (first + 1 + p + 1) (omega arith) r refl

    after_line : (b : Bool) → (T (not b) → 1 ≤ c) → (T b → 1 ≤ u) → left_line b c * h < x
    after_line true n g = omega (arith, g tt)
    after_line false n g = let z : suc (pred c) ≡ c = omega (arith, n tt) in omega (arith, ap (λ k. k * h) z, starts on refl, on.parts≥)

    before_line : (b : Bool) → (T b → 1 ≤ v) → x < right_line b c * h
    before_line true g = omega (arith, g tt)
    before_line false g = omega (arith, ends on refl, on.parts≥)

    after_of : (b : Bool) → left_line b c * h < x → T b → 1 ≤ u
    after_of true g t = omega arith
    after_of false g t = elim t [ ]

    before_of : (b : Bool) → x < right_line b c * h → T b → 1 ≤ v
    before_of true g t = omega arith
    before_of false g t = elim t [ ]

    middle_is : (d : ℕ) → d ≡ 2 → cond (eqb 1 d) (outer d r h u) (between d l r h u v) ≡ middle2 l r u v u v
    middle_is d g = rw g (between_2 l r h u v place.parts)

    middle_tested : Tested (first + 1)
    unfolding piece_of local_of
    middle_tested =
        let k = ap (λ z. z * h) begins_at in
        let m = ap (λ z. z * h) ends_at in
        tested (first + 1) {n = middle2 l r u v u v} (value_over s h x on 1 on.sized.degree≥ ∙ middle_is p e)
        (λ g. is_inside_lem (first + 1)
        (λ n. omega (
          arith,
          after_line l (not_first s.cells (times s) open2 c first in_cells (omega (arith, knots)))
              (λ t. zero_or u (λ z. absurd (omega (arith, middle_none_left l r u v t z))) (λ y. y)),
        ))
        (λ n. omega (arith, before_line r (λ t. zero_or v (λ z. absurd (omega (arith, middle_none_right l r u v t z))) (λ y. y)))))
        (λ t. middle_some l r u v (omega (arith, place.parts, on.parts≥))
        (after_of l (omega (arith, behind_first (first + 1) t (omega arith))))
        (before_of r (omega (arith, before_last (first + 1) t (omega (arith, first_lt s on.sized c in_cells))))))

  -- ---- all of them

  inside_over : (j : ℕ) → j ≤ p → Tested (first + j)
  inside_over j k =
      cases (eqb j 0)
      (λ y. let z : first ≡ first + j = omega (arith, eqb→eq j 0 y) in subst Tested z low_tested)
      (λ y. cases (eqb j p)
      (λ w. subst (λ d. Tested (first + d)) (sym (eqb→eq j p w)) high_tested)
      (λ w. let a = differ j 0 y in
      let b = differ j p w in
      let z : 1 ≡ j = omega (arith, on.degree≤) in
      subst (λ d. Tested (first + d)) z (middle_tested (omega (arith, on.degree≤)))))

  pub value_inside : (i : ℕ) → i < functions s → ltb 0 (value_on s h i x) ≡ is_inside s h i x
  value_inside i b =
      cases (leb first i && leb i (first + p))
      (λ y. let a = leb→le first i (and_l (leb first i) _ y) in
      let z : first + (i - first) ≡ i = omega arith in
      subst Tested z (inside_over (i - first) (omega (arith, leb→le i (first + p) (and_r (leb first i) (leb i (first + p)) y)))))
      (λ y. let n : first ≤ i → i ≤ first + p → ⊥ = λ q w. not_e (leb first i && leb i (first + p)) y (and_i (leb first i) (leb i (first + p)) (le→leb first i q) (le→leb i (first + p) w)) in
      rw (value_outside s h x on i b n, T_false (is_inside s h i x) (not_e (is_inside s h i x) (off c in_cells (starts on refl) (ends on refl) i b n))))

  pub value_off : (c i : ℕ) → c < s.cells → c * h ≤ x → x ≤ suc c * h → i < functions s → T (not (covers s i c)) → value_on s h i x ≡ 0
  value_off c i l a b k n =
      let q = off c l a b i k (λ w z. not_e (covers s i c) n (covers_test s on.sized i c l w z)) in
      zero_or (value_on s h i x) (λ z. z) (λ g. absurd (not_e (is_inside s h i x) q (rw (← value_inside i k) (lt→ltb 0 (value_on s h i x) g))))

  pub values : Values s h x
  values = record {
    factors = value_factors s h x on;
    whole = value_whole s h x on;
    most = value_most s h x on;
    one = value_one s h x on;
    outside = value_off;
    inside = value_inside;
    continuous = value_continuous s h x on;
  }
