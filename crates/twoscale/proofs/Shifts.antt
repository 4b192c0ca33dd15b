-- Coefficients and children by plain numbers, which are the same so many lines on. Assumes nothing.
use mathlib.Core.Path.{◌≡◌, refl}
use mathlib.Core.Bool.{◌&&◌, cond}
use Prim.Native.Nat.{ℕ, ◌+◌, ◌-◌, ◌*◌, ◌/◌, ◌^◌, ◌≤◌, ◌<◌}
use native.Mathlib.Nat.{zero-mul, zero-div}
use native.Mathlib.Omega.{arith}
use lib.Dec.{eqb, leb, ltb, eqb→eq, leb→le, le→leb, ltb→lt, lt→ltb}
use Rattle.facts.proofs.Tests.{same, eqb_of, and_l, and_r, T_false}
use Rattle.splines.specs.Values.{rise, fall, box, basis}
use Rattle.splines.proofs.Recursion.{off_left, off_right}
use Rattle.twoscale.specs.declared.Children.{Children}
use Rattle.twoscale.specs.Passing.{quarters_of}

-- ---- the recursion's steps for degrees 1 and 2, by the knots, the points of the factors and the cell

abbrev pub hat : ℕ → ℕ → ℕ → ℕ → ℕ → ℕ
hat a b d x c = rise 2 1 a b x * box a b c + fall 2 1 b d x * box b d c

abbrev pub parabola : ℕ → ℕ → ℕ → ℕ → ℕ → ℕ → ℕ → ℕ
parabola a b d e x y c = rise 2 2 a d y * hat a b d x c + fall 2 2 b e y * hat b d e x c

pub hat_is : (c : ℕ) (x t : ℕ → ℕ) → basis 2 c x 1 t ≡ hat (t 0) (t 1) (t 2) (x 0) c
unfolding basis
hat_is c x t = refl

pub parabola_is : (c : ℕ) (x t : ℕ → ℕ) → basis 2 c x 2 t ≡ parabola (t 0) (t 1) (t 2) (t 3) (x 0) (x 1) c
unfolding basis
parabola_is c x t = refl

-- the children of function i, whose first and second knot and last but one and last are these
abbrev pub children_by : ℕ → ℕ → ℕ → ℕ → ℕ → Children
children_by i first second third last = record {
  first = i + first;
  last = i + last;
  low = 4 / 2 ^ (third - first);
  middle = cond (eqb second third) 4 3;
  high = 4 / 2 ^ (last - second);
}

-- ---- k lines on

module _ (k a b : ℕ) where
  eqb_on : eqb (k + a) (k + b) ≡ eqb a b
  eqb_on = same (eqb (k + a) (k + b)) (eqb a b)
      (λ y. eqb_of a b (omega (arith, eqb→eq (k + a) (k + b) y)))
      (λ y. eqb_of (k + a) (k + b) (omega (arith, eqb→eq a b y)))

  leb_on : leb (k + a) (k + b) ≡ leb a b
  leb_on = same (leb (k + a) (k + b)) (leb a b)
      (λ y. le→leb a b (omega (arith, leb→le (k + a) (k + b) y)))
      (λ y. le→leb (k + a) (k + b) (omega (arith, leb→le a b y)))

  ltb_on : ltb (k + a) (k + b) ≡ ltb a b
  ltb_on = same (ltb (k + a) (k + b)) (ltb a b)
      (λ y. lt→ltb a b (omega (arith, ltb→lt (k + a) (k + b) y)))
      (λ y. lt→ltb (k + a) (k + b) (omega (arith, ltb→lt a b y)))

  less_on : (k + a) - (k + b) ≡ a - b
  less_on = omega arith

module _ (k : ℕ) where
  box_on : (a b c : ℕ) → box (k + a) (k + b) (k + c) ≡ box a b c
  unfolding box
  box_on a b c = rw (leb_on k a c, ltb_on k c b) refl

  rise_on : (d a b x : ℕ) → rise 2 d (k + a) (k + b) (2 * k + x) ≡ rise 2 d a b x
  unfolding rise
  rise_on d a b x = let e : 2 * k + x - (k + a) * 2 ≡ x - a * 2 = omega arith in rw (e, less_on k b a) refl

  fall_on : (d a b x : ℕ) → fall 2 d (k + a) (k + b) (2 * k + x) ≡ fall 2 d a b x
  unfolding fall
  fall_on d a b x = let e : (k + b) * 2 - (2 * k + x) ≡ b * 2 - x = omega arith in rw (e, less_on k b a) refl

  pub hat_on : (a b d x c : ℕ) → hat (k + a) (k + b) (k + d) (2 * k + x) (k + c) ≡ hat a b d x c
  hat_on a b d x c = rw (rise_on 1 a b x, fall_on 1 b d x, box_on a b c, box_on b d c) refl

  pub parabola_on : (a b d e x y c : ℕ)
      → parabola (k + a) (k + b) (k + d) (k + e) (2 * k + x) (2 * k + y) (k + c) ≡ parabola a b d e x y c
  parabola_on a b d e x y c = rw (hat_on a b d x c, hat_on b d e x c, rise_on 2 a d y, fall_on 2 b e y) refl

  pub children_on : (i a b l j : ℕ) → quarters_of (children_by i (k + 0) (k + a) (k + b) (k + l)) (i + k + j) ≡ quarters_of (children_by 0 0 a b l) j
  unfolding quarters_of
  children_on i a b l j =
      let e : i + (k + 0) ≡ i + k + 0 = omega arith in
      let f : i + (k + l) ≡ i + k + (0 + l) = omega arith in
      rw (e, f, leb_on (i + k) 0 j, leb_on (i + k) j (0 + l), eqb_on (i + k) j 0, eqb_on (i + k) j (0 + l), less_on k b 0, less_on k l a, eqb_on k a b) refl

-- ---- 0

module _ (d a b x : ℕ) where
  pub rise_none : x ≤ 2 * a → rise 2 d a b x ≡ 0
  unfolding rise
  rise_none h = let e : x - a * 2 ≡ 0 = omega arith in rw (e, zero-mul, zero-div (b - a)) refl

  pub fall_none : 2 * b ≤ x → fall 2 d a b x ≡ 0
  unfolding fall
  fall_none h = let e : b * 2 - x ≡ 0 = omega arith in rw (e, zero-mul, zero-div (b - a)) refl

module _ (a b d x c : ℕ) where
  -- at a point before the first knot, in a cell before the second; at one behind the last, in a cell behind the second
  pub hat_before : x ≤ 2 * a → c < b → hat a b d x c ≡ 0
  hat_before h k = rw (rise_none 1 a b x h, off_right b d c k) (omega arith)

  pub hat_behind : 2 * d ≤ x → b ≤ c → hat a b d x c ≡ 0
  hat_behind h k = rw (fall_none 1 b d x h, off_left a b c k) (omega arith)

module _ (a : Children) (j : ℕ) where
  pub none_before : j < a.first → quarters_of a j ≡ 0
  unfolding quarters_of
  none_before h = rw (T_false (leb a.first j && leb j a.last) (λ y. let l = leb→le a.first j (and_l (leb a.first j) (leb j a.last) y) in absurd (omega arith))) refl

  pub none_behind : a.last < j → quarters_of a j ≡ 0
  unfolding quarters_of
  none_behind h = rw (T_false (leb a.first j && leb j a.last) (λ y. let l = leb→le j a.last (and_r (leb a.first j) (leb j a.last) y) in absurd (omega arith))) refl
