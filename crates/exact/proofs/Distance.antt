-- Two fractions over one denominator are as far apart as their numerators say. Assumes nothing.
use mathlib.Core.Path.{◌≡◌, sym, ap, ap₂, ◌∙◌}
use mathlib.Core.Logic.{◌≢◌}
use mathlib.Core.Bool.{Bool}
use Prim.Native.Nat.{ℕ, ◌*◌, ◌≤◌, ◌<◌}
use native.Mathlib.Nat.{mul_comm, mul-pos, mul_right_comm, mul-le-mul_right, le_of_mul-le-mul_right}
use native.Mathlib.Omega.{arith}
use lib.Dec.{T, leb, ltb, le→leb, lt→ltb}
use lib.IntN.{ℤ, pos, negsuc, neg_ℤ, nat_abs, ◌-ℤ◌, ◌*ℤ◌, +ℤ_invr, zero-*ℤ}
use lib.Ieee.{Float, nan, inf, fin, up}
use lib.Ieee.Exact.{HasValue}
use lib.Ieee.Fits.{down_pos}
use Rattle.facts.proofs.Tests.{and_i, zero_or}
use Rattle.exact.specs.Dyadic.{negative}
use Rattle.exact.specs.Distance.{numerator, denominator, shared, difference, within, Above}
use Rattle.exact.proofs.Integers.{abs_none, neg_times, times_times, less_times}
use Rattle.exact.proofs.Dyadic.{abs_mul}

-- ---- the value of a float

number : (x : Float) (t : Bool) (n c : ℕ) → HasValue x t n c → 0 < denominator x
unfolding denominator
number nan t n c v = absurd v
number (inf s) t n c v = absurd v
number (fin s m e) t n c v = down_pos e

value_is : (x : Float) (z : ℤ) (c : ℕ) → HasValue x (negative z) (nat_abs z) c → numerator x *ℤ pos c ≡ z *ℤ pos (denominator x)
unfolding numerator denominator
value_is nan z c v = absurd v
value_is (inf s) z c v = absurd v
value_is (fin s m e) (pos n) c v = rw v.0 (ap pos v.1)
value_is (fin s m e) (negsuc n) c v = rw v.0 (neg_times (m * up e) c ∙ ap (λ w. neg_ℤ (pos w)) v.1)

-- ---- two of them, over one denominator

one_side : (x y : Float) (a : ℤ) (c : ℕ) → HasValue x (negative a) (nat_abs a) c → numerator x *ℤ pos (denominator y) *ℤ pos c ≡ a *ℤ pos (denominator x * denominator y)
one_side x y a c v =
    times_times (numerator x) (denominator y) c
    ∙ ap (λ n. numerator x *ℤ pos n) (mul_comm (denominator y) c)
    ∙ sym (times_times (numerator x) c (denominator y))
    ∙ ap (λ z. z *ℤ pos (denominator y)) (value_is x a c v)
    ∙ times_times a (denominator x) (denominator y)

module _ (x y : Float) (a b : ℤ) (c : ℕ) (low : HasValue x (negative a) (nat_abs a) c) (high : HasValue y (negative b) (nat_abs b) c) where
  both : 0 < shared x y
  unfolding shared
  both = mul-pos (number x (negative a) (nat_abs a) c low) (number y (negative b) (nat_abs b) c high)

  pub above : Above x y (b -ℤ a) c
  unfolding shared difference
  above = record {
    numbers = both;
    is =
        less_times (numerator y *ℤ pos (denominator x)) (numerator x *ℤ pos (denominator y)) c
        ∙ ap₂ ◌-ℤ◌ (one_side y x b c high ∙ ap (λ n. b *ℤ pos n) (mul_comm (denominator y) (denominator x))) (one_side x y a c low)
        ∙ sym (less_times b a (denominator x * denominator y));
  }

-- so far apart are floats at most
pub above_within : {x y : Float} (z : ℤ) (c n m : ℕ) → 0 < c → Above x y z c → nat_abs z * m ≤ n * c → T (within x y n m)
unfolding within
above_within {x} {y} z c n m some a most =
    let d = nat_abs (difference x y) in
    let e : d * c ≡ nat_abs z * shared x y = sym (abs_mul (difference x y) (pos c)) ∙ ap nat_abs a.is ∙ abs_mul z (pos (shared x y)) in
    let l : d * m * c ≤ n * shared x y * c = rw (mul_right_comm d m c, e, mul_right_comm (nat_abs z) (shared x y) m, mul_right_comm n (shared x y) c) (mul-le-mul_right (shared x y) most) in
    and_i (ltb 0 (shared x y)) (leb (d * m) (n * shared x y)) (lt→ltb 0 (shared x y) a.numbers) (le→leb (d * m) (n * shared x y) (le_of_mul-le-mul_right l some))

-- and one that lies above another, or below, is another
pub above_other : {x y : Float} (z : ℤ) (c : ℕ) → z ≢ pos 0 → Above x y z c → y ≢ x
unfolding difference
above_other {x} {y} z c some a e =
    let d : difference x y ≡ pos 0 = rw e (+ℤ_invr (numerator x *ℤ pos (denominator x))) in
    let n : nat_abs z * shared x y ≡ 0 = sym (abs_mul z (pos (shared x y))) ∙ ap nat_abs (sym a.is) ∙ rw d (ap nat_abs (zero-*ℤ (pos c))) in
    some (abs_none z (zero_or (nat_abs z) (λ y. y) (λ y. absurd (omega (arith, mul-pos y a.numbers)))))
