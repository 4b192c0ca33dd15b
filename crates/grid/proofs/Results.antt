-- What is claimed of corners. Assumes nothing.
use mathlib.Core.Path.{◌≡◌, sym, ap, ◌∙◌}
use mathlib.Core.Bool.{Bool, ◌&&◌}
use mathlib.Core.Logic.{◌↔◌}
use Prim.Native.Nat.{ℕ, zero, suc, ◌+◌, ◌/◌, ◌%◌, ◌^◌, ◌≤◌, ◌<◌}
use native.Mathlib.Nat.{mod-lt, pow-zero, pow-suc, div-one, div-div-eq-div-mul, div-add-mod', div-eq_of_lt, le-div_iff_mul-le, mul_comm, one-le-pow}
use native.Mathlib.Omega.{arith}
use lib.Dec.{T, leb, ltb, leb→le, le→leb, eqb, eqb→eq, ltb→lt, nltb→le}
use lib.Pow.{pow_mono, pow-add}
use Rattle.facts.proofs.Tests.{cases, same, differ, and_i, and_l, and_r, eqb_of}
use Rattle.grid.specs.declared.Plan.{Plan}
use Rattle.grid.specs.declared.Side.{Side}
use Rattle.grid.specs.Plan.{numbers_in_range, corners_in_range, in_range, across_at, up_at}
use Rattle.grid.specs.Range.{InRange}
use Rattle.grid.specs.Knots.{is_set, covers, apart, together, first_over}
use Rattle.grid.specs.Side.{Sized}
use Rattle.grid.specs.Claims.{ByKnots, Smooth, OnlyInner}
use Rattle.grid.proofs.Knots.{knots_all, covers_fact, covers_test, covers_between, plain_first, plain_functions}
use Rattle.grid.proofs.SideLaws.{together_covered, together_near}
use Rattle.grid.proofs.Laws.{across_sized, up_sized, corners_below, corners_even, corners_i}

apart_test : (d x y : ℕ) → x ≤ y + d → y ≤ x + d → T (apart d x y)
unfolding apart
apart_test d x y a b = and_i (leb x (y + d)) (leb y (x + d)) (le→leb x (y + d) a) (le→leb y (x + d) b)

by_knots_lem : (s : Side) → Sized s → ByKnots s
by_knots_lem s sized = record {
  count = omega (arith, knots_all s sized);
  support = λ i x. covers_between s sized i x;
  common = λ x y l m. together_covered s sized x y l m;
  nearer = λ x y l m t. let a = together_near s sized x y l m t in apart_test s.degree x y a.right a.left;
  over = λ i x l. same (covers s i x) (leb (first_over s x) i && leb i (first_over s x + s.degree))
      (λ t. let (m, a, b) = covers_fact s sized i x t in and_i (leb (first_over s x) i) _ (le→leb (first_over s x) i a) (le→leb i (first_over s x + s.degree) b))
      (λ t. covers_test s sized i x l (leb→le (first_over s x) i (and_l (leb (first_over s x) i) _ t)) (leb→le i (first_over s x + s.degree) (and_r (leb (first_over s x) i) _ t)));
}

pub plan_by_knots : (p : Plan) → InRange p → (k : ℕ) → ByKnots (across_at p k) × ByKnots (up_at p k)
plan_by_knots p range k = (by_knots_lem _ (across_sized p range k), by_knots_lem _ (up_sized p range k))

pub smooth : (s : Side) → s.corners ≡ 0 → Smooth s
unfolding covers together
smooth s z = record {
  count = plain_functions s z;
  support = λ i x. rw z;
  near = λ x y. rw z;
  first = plain_first s z;
}

-- ---- the bits

-- a number that is not 0 has a bit set
some_bit : (f q : ℕ) → q ≤ f → 0 < q → (j : ℕ) × (q / 2 ^ j % 2 ≡ 1)
some_bit zero q l z = absurd (omega arith)
some_bit (suc f) q l z = cases (eqb (q % 2) 1)
    (λ t. (0, rw (pow-zero, div-one) (eqb→eq (q % 2) 1 t)))
    (λ t.
    let two : 0 < 2 = omega arith in
    let d = div-add-mod' q 2 in
    let m = mod-lt q two in
    let n = differ (q % 2) 1 t in
    let (j, e) = some_bit f (q / 2) (omega arith) (omega arith) in
    let s : q / 2 / 2 ^ j ≡ q / 2 ^ suc j = div-div-eq-div-mul q 2 (2 ^ j) ∙ ap (λ (z : ℕ). q / z) (mul_comm 2 (2 ^ j) ∙ sym (pow-suc 2 j)) in
    (suc j, rw s at e))

module _ (n bits : ℕ) where
  only_inner : T (corners_in_range n bits) → OnlyInner n bits
  unfolding is_set
  only_inner t = record { inner = λ k u. (first k u, last k u) }
    where
      first : (k : ℕ) → T (eqb (bits / 2 ^ k % 2) 1) → 1 ≤ k
      first zero u = absurd (let e : bits % 2 ≡ 1 = rw (pow-zero, div-one) at (eqb→eq (bits / 2 ^ 0 % 2) 1 u) in omega (arith, corners_even n bits t))
      first (suc k) u = omega arith

      last : (k : ℕ) → T (eqb (bits / 2 ^ k % 2) 1) → k < n
      last k u = cases (ltb k n) (λ y. ltb→lt k n y) (λ y.
          absurd (let l = pow_mono {j = k} (nltb→le k n y) in
          let e = eqb→eq (bits / 2 ^ k % 2) 1 u in
          let z : bits / 2 ^ k ≡ 0 = div-eq_of_lt (omega (arith, corners_below n bits t)) in
          zero_bit (bits / 2 ^ k) z e))
        where
          zero_bit : (q : ℕ) → q ≡ 0 → q % 2 ≡ 1 → ⊥
          zero_bit q z e = omega arith

  inner_only : OnlyInner n bits → T (corners_in_range n bits)
  unfolding is_set
  inner_only o = corners_i n bits
      (cases (ltb bits (2 ^ n)) (λ y. ltb→lt bits (2 ^ n) y) (λ y.
      absurd (let q : 1 ≤ bits / 2 ^ n = (le-div_iff_mul-le (one-le-pow n 2 (omega arith))).1 (omega (arith, nltb→le bits (2 ^ n) y)) in
      let (j, e) = some_bit (bits / 2 ^ n) (bits / 2 ^ n) (omega arith) q in
      let s : bits / 2 ^ n / 2 ^ j ≡ bits / 2 ^ (n + j) = div-div-eq-div-mul bits (2 ^ n) (2 ^ j) ∙ ap (λ (z : ℕ). bits / z) (sym (pow-add 2 n j)) in
      let k = o.inner (n + j) (eqb_of (bits / 2 ^ (n + j) % 2) 1 (rw s at e)) in
      omega (arith, k.1))))
      (cases (eqb (bits % 2) 1)
      (λ y. absurd (let k = o.inner 0 (eqb_of (bits / 2 ^ 0 % 2) 1 (rw (pow-zero, div-one) (eqb→eq (bits % 2) 1 y))) in omega (arith, k.0)))
      (λ y. let two : 0 < 2 = omega arith in omega (arith, differ (bits % 2) 1 y, mod-lt bits two)))

-- the range test says that no bit outside 1 to n-1 is set
pub range_inner : (p : Plan) → T (in_range p) ↔ (T (numbers_in_range p) × OnlyInner p.columns p.corners_across × OnlyInner p.rows p.corners_up)
unfolding in_range
range_inner p = (
  λ t. let u = and_r n (a && b) t in (and_l n _ t, only_inner _ _ (and_l a b u), only_inner _ _ (and_r a b u)),
  λ t. and_i n _ t.0 (and_i a b (inner_only _ _ t.1) (inner_only _ _ t.2)),
)
  where
    n : Bool
    n = numbers_in_range p

    a : Bool
    a = corners_in_range p.columns p.corners_across

    b : Bool
    b = corners_in_range p.rows p.corners_up
