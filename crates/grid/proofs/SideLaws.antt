-- The laws of one direction of a level, over any corners: what supports and neighbourhoods rest on. Assumes nothing.
use Prim.Native.Nat.{ℕ, zero, suc, min, ◌+◌, ◌-◌, ◌*◌, ◌/◌, ◌%◌, ◌≤◌, ◌<◌}
use native.Mathlib.Nat.{le_refl, lt-div-mul-add, mul-le-mul_right, div-lt_iff_lt-mul, le-div_iff_mul-le, mod-lt, div-add-mod'}
use native.Mathlib.Omega.{arith}
use mathlib.Core.Bool.{◌&&◌}
use mathlib.Core.Logic.{◌↔◌}
use mathlib.Core.Path.{◌≡◌, refl, ap, sym, subst, ◌∙◌}
use lib.Arith.{digits_div}
use lib.Dec.{T, eqb, eqb→eq, leb, ltb, leb→le, le→leb, nleb→lt, ltb→lt, nltb→le, lt→ltb}
use Rattle.facts.specs.Bounded.{some, sum}
use Rattle.facts.proofs.Tests.{cases, not_i, not_e, T_true, T_false, and_i, and_l, and_r, same}
use Rattle.facts.proofs.Bounded.{some_i, some_e}
use Rattle.grid.specs.declared.Side.{Side}
use Rattle.grid.specs.declared.Span.{Span}
use Rattle.grid.specs.Knots.{times, knot_on, covers, apart, together, corners_to, functions, first_over}
use Rattle.grid.specs.Side.{columns_before, support_span, around_span, Sized, Run}
use Rattle.grid.specs.Spans.{in_span, coarser_span}
use Rattle.grid.proofs.Rising.{Rises, Apart, Covers, In, columns_apart, apart_common, span_covers, span_some, span_together, Tied}
use Rattle.grid.proofs.Corners.{divided, first, first_rises, first_tied}
use Rattle.grid.proofs.Knots.{knot_le, knot_gt, some_cells, knots_to, knots_all, functions_last, covers_fact, covers_test, plain_first}
use Rattle.grid.proofs.Before.{corners_count, up_to, capped_count, before_is}

-- ---- tests as facts

pub in_fact : (s : Span) (x : ℕ) → T (in_span s x) → In s.first s.end x
unfolding in_span
in_fact s x t = record {
  from = leb→le s.first x (and_l (leb s.first x) (ltb x s.end) t);
  to = ltb→lt x s.end (and_r (leb s.first x) (ltb x s.end) t);
}

pub in_test : (s : Span) (x : ℕ) → In s.first s.end x → T (in_span s x)
unfolding in_span
in_test s x i = and_i (leb s.first x) (ltb x s.end) (le→leb s.first x i.from) (lt→ltb x s.end i.to)

-- a span of the numbers below n, with at least one
pub record SpanIn (n : ℕ) (s : Span) : Type 0 where
  pub some : s.first < s.end
  pub within : s.end ≤ n

module _ (s : Side) (sized : Sized s) where
  abbrev d : ℕ
  d = s.degree

  abbrev e : ℕ
  e = s.degree - 1

  abbrev u : ℕ
  u = s.unit

  abbrev n : ℕ
  n = s.cells

  -- ---- the columns that there are

  abbrev G : ℕ → ℕ
  G = first (up_to s.corners (s.base - 1)) e u

  some_columns : 0 < n
  some_columns = some_cells s sized

  rises : Rises d G
  rises = let f : e + 1 ≡ d = omega (arith, sized.degree≥) in rw f at (first_rises _ (capped_count s.corners (s.base - 1)) e u sized.unit≥)

  -- each stands on a column of level 0, so all corners before it count
  first_is : (x : ℕ) → x < n → G x ≡ first_over s x
  unfolding first first_over
  first_is x l =
      let h : x / u < s.base = (div-lt_iff_lt-mul sized.unit≥).1 (rw sized.whole at l) in
      let f : min (s.base - 1) (x / u) ≡ x / u = omega arith in
      rw f refl

  functions_are : functions s ≡ G (n - 1) + d + 1
  functions_are = functions_last s sized ∙ ap (λ (g : ℕ). g + d + 1) (sym (first_is (n - 1) (omega (arith, some_columns))))

  inverse : (j x : ℕ) → (x < columns_before s j) ↔ (G x < j)
  inverse = before_is s.corners e u sized.unit≥ (s.base - 1)

  -- ---- knots

  -- the line of a knot, by the columns with a first function before it
  pub knot_is : (i : ℕ) → i ≤ functions s + d → knot_on s i ≡ min n (columns_before s (i - d))
  knot_is i l =
      cases (ltb t (min n b))
      (λ y. let k = ltb→lt t (min n b) y in
      let z : G t < i - d = (inverse (i - d) t).0 (omega arith) in
      absurd (omega (arith, knot_gt (times s) n i t (omega (arith, knots_to s sized t (omega arith), first_is t (omega arith))) known)))
      (λ y. cases (ltb (min n b) t)
      (λ w. let k = ltb→lt (min n b) t w in
      let z : i - d ≤ G b = nltb→le (G b) (i - d) (not_i (ltb (G b) (i - d)) (λ q. let r : b < b = (inverse (i - d) b).1 (ltb→lt (G b) (i - d) q) in absurd (omega arith))) in
      let c : b < n = omega (arith, most) in
      absurd (omega (arith, knot_le (times s) n i b (omega (arith, knots_to s sized b c, first_is b c)) known)))
      (λ w. omega (arith, nltb→le t (min n b) y, nltb→le (min n b) t w)))
    where
      t : ℕ
      t = knot_on s i

      b : ℕ
      b = columns_before s (i - d)

      known : i < sum (suc n) (times s)
      known = omega (arith, knots_all s sized)

      most : t ≤ n
      most = knot_le (times s) n i n known known

  -- ---- supports

  covered_of : (i x : ℕ) → x < n → Covers d (G x) i → T (covers s i x)
  covered_of i x l c = let k = rw (first_is x l) at c in covers_test s sized i x l k.from k.to

  covered_by : (i x : ℕ) → T (covers s i x) → (x < n) × Covers d (G x) i
  covered_by i x t = let (l, a, b) = covers_fact s sized i x t in (l, rw (first_is x l) (record { from = a; to = b }))

  -- the span has just the columns that the function covers
  pub support_is : (i x : ℕ) → in_span (support_span s i) x ≡ covers s i x
  unfolding support_span
  support_is i x = same (in_span (support_span s i) x) (covers s i x)
      (λ t. let k = in_fact (support_span s i) x t in
      let l : x < n = omega (arith, k.to) in
      covered_of i x l ((span_covers d G rises (columns_before s) inverse n some_columns i x l).0 k))
      (λ t. let (l, c) = covered_by i x t in
      in_test (support_span s i) x ((span_covers d G rises (columns_before s) inverse n some_columns i x l).1 c))

  -- no support is empty
  pub support_span_in : (i : ℕ) → i < functions s → SpanIn n (support_span s i)
  unfolding support_span
  support_span_in i l = record {
    some = span_some d G rises (columns_before s) inverse n some_columns i (rw functions_are at l);
    within = omega arith;
  }

  -- the span begins at the function's first knot and ends at its last
  pub support_knots : (i : ℕ) → i < functions s → support_span s i ≡ record { first = knot_on s i; end = knot_on s (i + d + 1) }
  unfolding support_span
  support_knots i l =
      let k = support_span_in i l in
      let a : columns_before s (i - d) ≡ knot_on s i = omega (arith, knot_is i (omega arith), k.some, k.within) in
      let e : i + d + 1 - d ≡ i + 1 = omega arith in
      let b : min n (columns_before s (i + 1)) ≡ knot_on s (i + d + 1) = rw e at (sym (knot_is (i + d + 1) (omega arith))) in
      λ j. record { first = a j; end = b j }

  -- ---- "covered by a common function of that level"

  -- their first functions are at most the degree apart
  pub common_fact : (i x y : ℕ) → T (covers s i x) → T (covers s i y) → Apart d (first_over s x) (first_over s y)
  common_fact i x y t u =
      let (l, a, b) = covers_fact s sized i x t in
      let (m, a', b') = covers_fact s sized i y u in
      record { right = omega arith; left = omega arith }

  -- such columns have a common function
  pub apart_covered : (x y : ℕ) → x < n → y < n → Apart d (first_over s x) (first_over s y) → T (some (functions s) (λ i. covers s i x && covers s i y))
  apart_covered x y l m a =
      let (i, h, p, q) = apart_common d G rises n x y l m (rw (first_is x l, first_is y m) a) in
      some_i (functions s) _ i (rw functions_are h) (and_i (covers s i x) _ (covered_of i x l p) (covered_of i y m q))

  pub together_fact : (x y : ℕ) → T (together s x y) → Apart d (first_over s x) (first_over s y)
  unfolding together apart
  together_fact x y t = cases (eqb s.corners 0)
      (λ z. let e = plain_first s (eqb→eq s.corners 0 z) in
      let u : T (leb x (y + d) && leb y (x + d)) = rw (T_true (eqb s.corners 0) z) at t in
      rw (e x, e y) (record { right = leb→le x (y + d) (and_l (leb x (y + d)) _ u); left = leb→le y (x + d) (and_r (leb x (y + d)) _ u) }))
      (λ z. let (i, l, k) = some_e (functions s) (λ i. covers s i x && covers s i y) (rw (T_false (eqb s.corners 0) (not_e (eqb s.corners 0) z)) at t) in
      common_fact i x y (and_l (covers s i x) _ k) (and_r (covers s i x) _ k))

  pub together_test : (x y : ℕ) → x < n → y < n → Apart d (first_over s x) (first_over s y) → T (together s x y)
  unfolding together apart
  together_test x y l m a = cases (eqb s.corners 0)
      (λ z. let e = plain_first s (eqb→eq s.corners 0 z) in
      let b : Apart d x y = rw (e x, e y) at a in
      rw (T_true (eqb s.corners 0) z) (and_i (leb x (y + d)) _ (le→leb x (y + d) b.right) (le→leb y (x + d) b.left)))
      (λ z. rw (T_false (eqb s.corners 0) (not_e (eqb s.corners 0) z)) (apart_covered x y l m a))

  -- "covered by a common function of that level" says it with corners and without
  pub together_covered : (x y : ℕ) → x < n → y < n → together s x y ≡ some (functions s) (λ i. covers s i x && covers s i y)
  together_covered x y l m = same (together s x y) _
      (λ t. apart_covered x y l m (together_fact x y t))
      (λ t. let (i, h, k) = some_e (functions s) (λ i. covers s i x && covers s i y) t in
      together_test x y l m (common_fact i x y (and_l (covers s i x) _ k) (and_r (covers s i x) _ k)))

  pub together_self : (x : ℕ) → x < n → T (together s x x)
  together_self x l = together_test x x l l (record { right = omega arith; left = omega arith })

  -- the span has just the columns under a common function with x
  pub around_is : (x y : ℕ) → x < n → y < n → in_span (around_span s x) y ≡ together s y x
  unfolding around_span
  around_is x y l m =
      let (f, g) = span_together d G rises (columns_before s) inverse n some_columns (first_over s x) y m in
      same (in_span (around_span s x) y) (together s y x)
      (λ t. together_test y x m l (rw (first_is y m) at (f (in_fact (around_span s x) y t))))
      (λ t. in_test (around_span s x) y (g (rw (first_is y m) (together_fact y x t))))

  around_end : (x : ℕ) → (around_span s x).end ≤ n
  unfolding around_span
  around_end x = omega arith

  pub around_span_in : (x : ℕ) → x < n → SpanIn n (around_span s x)
  around_span_in x l =
      let i = in_fact (around_span s x) x (rw (around_is x x l l) (together_self x l)) in
      record { some = omega (arith, i.from, i.to); within = around_end x }

  -- such columns are at most the degree apart
  pub together_near : (x y : ℕ) → x < n → y < n → T (together s x y) → Apart d x y
  together_near x y l m t = columns_apart d G rises x y (rw (first_is x l, first_is y m) (together_fact x y t))

  -- ---- columns with no corner between them

  pub run_plain : s.corners ≡ 0 → (x : ℕ) → x < n → Run s x n
  run_plain z x l = record { some = l; within = le_refl _; smooth = λ y a b. omega (arith, plain_first s z x, plain_first s z y) }

  pub run_unit : (x : ℕ) → x < n → Run s x ((x / u + 1) * u)
  unfolding first_over
  run_unit x l =
      let h : x / u < s.base = (div-lt_iff_lt-mul sized.unit≥).1 (rw sized.whole at l) in
      let e : x / u + 1 ≤ s.base = omega arith in
      record {
        some = omega (arith, lt-div-mul-add {a = x} sized.unit≥);
        within = rw sized.whole (mul-le-mul_right u e);
        smooth = λ y a b.
            let q : y / u < x / u + 1 = (div-lt_iff_lt-mul sized.unit≥).1 b in
            let c : y / u ≡ x / u = omega (arith, divided u sized.unit≥ x y a) in
            rw c (omega arith);
      }

-- ---- two levels: r columns of t stand on a column of s

module _ (r : ℕ) (wide : 0 < r) (s t : Side) (sized : Sized s) (ed : t.degree ≡ s.degree) (ec : t.corners ≡ s.corners) (eu : t.unit ≡ r * s.unit) where
  firsts_tied : Tied r s.degree (first (corners_to s.corners) (s.degree - 1) (r * s.unit)) (first (corners_to s.corners) (s.degree - 1) s.unit)
  firsts_tied =
      let f : s.degree - 1 + 1 ≡ s.degree = omega (arith, sized.degree≥) in
      rw f at (first_tied (corners_to s.corners) (corners_count s.corners) (s.degree - 1) r s.unit wide sized.unit≥)

  finer_first : (x : ℕ) → first_over t x ≡ first (corners_to s.corners) (s.degree - 1) (r * s.unit) x
  unfolding first first_over
  finer_first x = rw (ed, ec, eu) refl

  coarser_first : (x : ℕ) → first_over s x ≡ first (corners_to s.corners) (s.degree - 1) s.unit x
  unfolding first first_over
  coarser_first x = refl

  reach_up : (x y : ℕ) → first_over t x ≤ first_over t y + s.degree → first_over s (x / r) ≤ first_over s (y / r) + s.degree
  reach_up x y h = rw (coarser_first (x / r), coarser_first (y / r)) (firsts_tied x y (rw (finer_first x, finer_first y) at h))

  -- the parents of columns under a common function are under one too
  pub together_up : (x y : ℕ) → Sized t → t.cells ≡ s.cells * r → x < t.cells → y < t.cells → T (together t x y) → T (together s (x / r) (y / r))
  together_up x y fine w l m k =
      let a : Apart s.degree (first_over t x) (first_over t y) = subst (λ (g : ℕ). Apart g (first_over t x) (first_over t y)) ed (together_fact t fine x y k) in
      together_test s sized (x / r) (y / r) ((div-lt_iff_lt-mul wide).1 (rw w at l)) ((div-lt_iff_lt-mul wide).1 (rw w at m))
      (record { right = reach_up x y a.right; left = reach_up y x a.left })

-- ---- the columns on which those near column a of t stand, r on each; n of them

module _ (r : ℕ) (wide : 0 < r) (t : Side) (sized : Sized t) (n : ℕ) (whole : t.cells ≡ n * r) (a : ℕ) (la : a < t.cells) where
  abbrev lo : ℕ
  lo = (around_span t a).first

  abbrev hi : ℕ
  hi = (around_span t a).end

  own : In lo hi a
  own = in_fact (around_span t a) a (rw (around_is t sized a a la la) (together_self t sized a la))

  child_in : (x b : ℕ) → x < n → b < r → x * r + b < t.cells
  child_in x b l m = rw whole ((div-lt_iff_lt-mul wide).0 (rw (digits_div x m) l))

  reached : (x y : ℕ) → x < n → y / r ≡ x → lo ≤ y → y < hi → (b : ℕ) × (b < r) × T (together t (x * r + b) a)
  reached x y l q p k =
      let m : y < t.cells = omega (arith, (around_span_in t sized a la).within) in
      let u : T (together t y a) = rw (around_is t sized a y la m) at (in_test (around_span t a) y (record { from = p; to = k })) in
      let e : x * r + y % r ≡ y = ap (λ z. z * r + y % r) (sym q) ∙ div-add-mod' y r in
      (y % r, mod-lt y wide, subst (λ (z : ℕ). T (together t z a)) (sym e) u)

  -- each of them has such a column on it
  pub coarser_e : (x : ℕ) → x < n → T (in_span (coarser_span r (around_span t a)) x) → (b : ℕ) × (b < r) × T (together t (x * r + b) a)
  unfolding coarser_span
  coarser_e x l k = go (lo - x * r) refl
    where
      i : In (lo / r) ((hi - 1) / r + 1) x
      i = in_fact (coarser_span r (around_span t a)) x k

      o : x * r ≤ hi - 1
      o = (le-div_iff_mul-le wide).0 (omega (arith, i.to))

      go : (k : ℕ) → lo - x * r ≡ k → (b : ℕ) × (b < r) × T (together t (x * r + b) a)
      go zero q = reached x (x * r + 0) l (digits_div x wide) (omega arith) (omega (arith, o, own.to))
      go (suc k) q =
          let p : x ≤ lo / r = (le-div_iff_mul-le wide).1 (omega arith) in
          reached x lo l (omega (arith, i.from)) (le_refl lo) (omega (arith, own.from, own.to))

  pub coarser_i : (x b : ℕ) → x < n → b < r → T (together t (x * r + b) a) → T (in_span (coarser_span r (around_span t a)) x)
  unfolding coarser_span
  coarser_i x b l m k =
      let i = in_fact (around_span t a) (x * r + b) (rw (around_is t sized a (x * r + b) la (child_in x b l m)) k) in
      let q = digits_div x m in
      let f = divided r wide lo (x * r + b) i.from in
      let g = divided r wide (x * r + b) (hi - 1) (omega (arith, i.to)) in
      in_test (coarser_span r (around_span t a)) x (record { from = omega arith; to = omega arith })

  pub coarser_span_in : SpanIn n (coarser_span r (around_span t a))
  unfolding coarser_span
  coarser_span_in =
      let f = divided r wide lo (hi - 1) (omega (arith, own.from, own.to)) in
      let h : hi - 1 < t.cells = omega (arith, (around_span_in t sized a la).within, own.to) in
      let g : (hi - 1) / r < n = (div-lt_iff_lt-mul wide).1 (subst (λ (m : ℕ). hi - 1 < m) whole h) in
      record { some = omega arith; within = omega arith }

  -- the columns on one have first functions that follow one another, so those near a are told by the first of them
  module _ (v : ℕ) (eu : t.unit ≡ r * v) where
    child_follows : (x b : ℕ) → x < n → b < r → first_over t (x * r + b) ≡ first_over t (x * r) + b
    child_follows x b l m =
        let f : x * r < t.cells = rw whole (omega (arith, mul-le-mul_right r l)) in
        let e : (x * r / t.unit + 1) * t.unit ≡ (x * r / t.unit + 1) * v * r = ap (λ (z : ℕ). (x * r / t.unit + 1) * z) eu ∙ omega arith in
        let h : x * r < (x * r / t.unit + 1) * v * r = omega (arith, lt-div-mul-add {a = x * r} sized.unit≥) in
        let g : x < (x * r / t.unit + 1) * v = lt_mul x ((x * r / t.unit + 1) * v) h in
        let k : x * r + b < (x * r / t.unit + 1) * t.unit = omega (arith, mul-le-mul_right r g) in
        let run = run_unit t sized (x * r) f in
        let o : x * r + b - x * r ≡ b = omega arith in
        run.smooth (x * r + b) (omega arith) k ∙ ap (λ (z : ℕ). first_over t (x * r) + z) o
      where
        lt_mul : (y z : ℕ) → y * r < z * r → y < z
        lt_mul y z h = cases (leb z y) (λ t. absurd (omega (arith, mul-le-mul_right r (leb→le z y t)))) (λ t. nleb→lt z y t)

    pub span_first : (x : ℕ) → x < n → T (in_span (coarser_span r (around_span t a)) x)
        → (first_over t (x * r) ≤ first_over t a + t.degree) × (first_over t a ≤ first_over t (x * r) + t.degree + (r - 1))
    span_first x l k =
        let (b, m, u) = coarser_e x l k in
        let o = together_fact t sized (x * r + b) a u in
        let e = child_follows x b l m in
        (omega (arith, o.right), omega (arith, o.left))

    pub first_span : (x : ℕ) → x < n → first_over t (x * r) ≤ first_over t a + t.degree → first_over t a ≤ first_over t (x * r) + t.degree + (r - 1)
        → T (in_span (coarser_span r (around_span t a)) x)
    first_span x l h g =
        let m : first_over t a - (first_over t (x * r) + t.degree) < r = omega arith in
        let e = child_follows x (first_over t a - (first_over t (x * r) + t.degree)) l m in
        coarser_i x (first_over t a - (first_over t (x * r) + t.degree)) l m
        (together_test t sized (x * r + (first_over t a - (first_over t (x * r) + t.degree))) a (child_in x (first_over t a - (first_over t (x * r) + t.degree)) l m) la (record { right = omega arith; left = omega arith }))
