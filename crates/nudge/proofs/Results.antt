-- What is claimed of a surface whose heights are changed holds. Assumes nothing.
use mathlib.Core.Path.{◌≡◌, sym, ap, subst, ◌∙◌}
use mathlib.Core.Logic.{◌≢◌}
use mathlib.Core.List.{List}
use Prim.Native.Nat.{ℕ, ◌+◌, ◌-◌, ◌*◌, ◌^◌, ◌≤◌, ◌<◌}
use native.Mathlib.Nat.{mul-le-mul_left, mul-pos}
use native.Mathlib.Omega.{arith}
use lib.Dec.{eqb→eq, ltb→lt, lt→ltb}
use lib.IntN.{ℤ, pos, nat_abs, ◌+ℤ◌, ◌-ℤ◌, ◌*ℤ◌, +ℤ_comm, +ℤ_idr, +ℤ-neg_ℤ_cancel, *ℤ-zero}
use lib.Ieee.{Float, binary64, sub}
use lib.ListN.{get_or}
use lib.Pow.{pow-add, pow_pos}
use Rattle.facts.specs.Bounded.{sum}
use Rattle.facts.proofs.Sums.{sum_same, sum_mul}
use Rattle.facts.proofs.Numbers.{get_d_some}
use Rattle.facts.proofs.Tests.{zero_or, not_e}
use Rattle.exact.specs.Dyadic.{dyadic}
use Rattle.exact.specs.Distance.{Above}
use Rattle.exact.proofs.Integers.{abs_none}
use Rattle.exact.proofs.Dyadic.{abs_mul}
use Rattle.exact.proofs.Distance.{above, above_within, above_other}
use Rattle.grid.specs.declared.Plan.{Plan}
use Rattle.grid.specs.Plan.{function_total, function_place, function_level}
use Rattle.grid.proofs.Laws.{function_inside}
use Rattle.mesh.specs.Mesh.{active}
use Rattle.heights.specs.Heights.{value_at, one_at, height_sum, places, answer, number_of, height_of}
use Rattle.heights.specs.Steps.{OnSurface}
use Rattle.heights.specs.Demands.{inside_at, Valued}
use Rattle.heights.proofs.Points.{millimetre}
use Rattle.heights.proofs.Values.{valued}
use Rattle.heights.proofs.Results.{surface, float, exact_value, differences}
use Rattle.nudge.specs.Nudge.{nudged}
use Rattle.nudge.specs.Demands.{Nudged, Nudging, Moved, Moving, Demands}
use Rattle.nudge.proofs.Sums.{nudged_sum, moved_sum}

-- a number that is not 0, times another
not_none : (d : ℤ) (v : ℕ) → d ≢ pos 0 → 1 ≤ v → d *ℤ pos v ≢ pos 0
not_none d v n l e =
    let z : nat_abs d * v ≡ 0 = sym (abs_mul d (pos v)) ∙ ap nat_abs e in
    n (abs_none d (zero_or (nat_abs d) (λ y. y) (λ y. absurd (omega (arith, mul-pos y l)))))

-- ---- one height

module _ (p : Plan) (cells functions : List ℕ) (heights : List ℤ) (f : ℕ) (d : ℤ) (x y : ℕ) (is_active : get_or functions f 0 ≡ 1)
    (old : number_of (answer p cells functions heights x y) ≡ 0) (new : number_of (answer p cells functions (nudged f d heights) x y) ≡ 0) where
  abbrev h : Float
  h = height_of (answer p cells functions heights x y)

  abbrev h' : Float
  h' = height_of (answer p cells functions (nudged f d heights) x y)

  s : OnSurface p functions heights x y
  s = surface p cells functions heights x y old

  in_total : f < function_total p
  in_total = omega (arith, get_d_some functions f (omega (arith, is_active)), s.of_functions)

  abbrev k : ℕ
  k = function_level p f

  abbrev v : ℕ
  v = value_at p x y (function_place p f)

  abbrev sum_before : ℤ
  sum_before = height_sum p functions heights x y

  sum_is : height_sum p functions (nudged f d heights) x y ≡ sum_before +ℤ d *ℤ pos v
  sum_is = nudged_sum p functions heights f d x y is_active (omega (arith, in_total, s.of_heights)) in_total

  values_at_lem : Valued p x y
  values_at_lem = valued p x y s.point

  abbrev sum_after : ℤ
  sum_after = height_sum p functions (nudged f d heights) x y

  difference_is : sum_after -ℤ sum_before ≡ d *ℤ pos v
  difference_is = ap (λ z. z -ℤ sum_before) (sum_is ∙ +ℤ_comm sum_before (d *ℤ pos v)) ∙ +ℤ-neg_ℤ_cancel (d *ℤ pos v) sum_before

  moved_by : Above h h' (d *ℤ pos v) (2 ^ places p.levels)
  moved_by =
      subst (λ z. Above h h' z (2 ^ places p.levels)) difference_is
      (above h h' sum_before sum_after (2 ^ places p.levels) (exact_value p cells functions heights x y old) (exact_value p cells functions (nudged f d heights) x y new))

  subtracted : sub binary64 h' h ≡ dyadic (places p.levels) (d *ℤ pos v)
  subtracted =
      differences p cells functions heights x y cells functions (nudged f d heights) x y old new ∙ ap (dyadic (places p.levels)) difference_is

  -- in the parts of the sum
  at_most : nat_abs (d *ℤ pos v) * 16 ^ k ≤ nat_abs d * 2 ^ places p.levels
  at_most =
      let l = (function_inside p s.point.range f in_total).level< in
      rw (abs_mul d (pos v), ← values_at_lem.millimetre k l) (omega (arith, mul-le-mul_left (nat_abs d) (mul-le-mul_left (16 ^ k) (values_at_lem.most f in_total))))

  same_float : v ≡ 0 → h' ≡ h
  same_float z =
      float p cells functions (nudged f d heights) x y new
      ∙ ap (dyadic (places p.levels)) (sum_is ∙ rw (z, *ℤ-zero d) (+ℤ_idr sum_before))
      ∙ sym (float p cells functions heights x y old)

  nudged_so : Nudged p f d x y h h'
  nudged_so = record {
    most = above_within (d *ℤ pos v) (2 ^ places p.levels) _ _ (pow_pos (places p.levels)) moved_by (omega (arith, at_most));
    outside = λ c l e t n. same_float (values_at_lem.outside f c in_total l e t n);
    exact = moved_by;
    subtracted = subtracted;
    still = λ n. same_float (zero_or v (λ z. z) (λ z. absurd (not_e (inside_at p x y (function_place p f)) n (rw (← values_at_lem.inside f in_total) (lt→ltb 0 v z)))));
    moves = λ n t. above_other (d *ℤ pos v) (2 ^ places p.levels) (not_none d v n (ltb→lt 0 v (rw (values_at_lem.inside f in_total) t))) moved_by;
  }

pub nudging : Nudging
unfolding active
nudging p cells functions heights f d x y act old new =
    nudged_so p cells functions heights f d x y (omega (arith, eqb→eq (get_or functions f 0) _ act)) old new

-- ---- any heights

module _ (p : Plan) (cells functions : List ℕ) (before after : List ℤ) (d : ℕ → ℕ) (x y : ℕ) (by : Moved p functions d before after)
    (old : number_of (answer p cells functions before x y) ≡ 0) (new : number_of (answer p cells functions after x y) ≡ 0) where
  abbrev L : ℕ
  L = p.levels

  -- a level's part of a millimetre, over what the last level has
  part : (k : ℕ) → k < L → 2 ^ places L * (d k * 16 ^ (L - 1 - k)) ≡ 16 ^ (L - 1) * (d k * one_at p k)
  part k l =
      let e : k + (L - 1 - k) ≡ L - 1 = omega arith in
      let q : 16 ^ (L - 1) ≡ 16 ^ k * 16 ^ (L - 1 - k) = ap (λ n. 16 ^ n) (sym e) ∙ pow-add 16 k (L - 1 - k) in
      rw (← millimetre p k l, q) (omega arith)

  total : 2 ^ places L * sum L (λ k. d k * 16 ^ (L - 1 - k)) ≡ 16 ^ (L - 1) * sum L (λ k. d k * one_at p k)
  total = sym (sum_mul L (2 ^ places L) _) ∙ sum_same L _ _ part ∙ sum_mul L (16 ^ (L - 1)) _

  moved_by_levels : nat_abs (height_sum p functions after x y -ℤ height_sum p functions before x y) * 16 ^ (L - 1) ≤ sum L (λ k. d k * 16 ^ (L - 1 - k)) * 2 ^ places L
  moved_by_levels = omega (arith, total, mul-le-mul_left (16 ^ (L - 1)) (moved_sum p functions before after d x y (surface p cells functions before x y old).point by))

pub moving : Moving
moving p cells functions before after d x y by old new =
    let a = height_sum p functions before x y in
    let b = height_sum p functions after x y in
    above_within (b -ℤ a) (2 ^ places p.levels) _ _ (pow_pos (places p.levels))
    (above _ _ a b (2 ^ places p.levels) (exact_value p cells functions before x y old) (exact_value p cells functions after x y new))
    (omega (arith, moved_by_levels p cells functions before after d x y by old new))

pub demands : Demands
demands = record { nudging = nudging; moving = moving }
