-- Products and sums of exact values are exact. Assumes nothing.
use mathlib.Core.Path.{◌≡◌, refl, sym, ap, ◌∙◌, subst}
use mathlib.Core.Bool.{Bool, true, false, not, ◌&&◌, cond}
use Prim.Native.Nat.{ℕ, zero, suc, ◌+◌, ◌-◌, ◌*◌, ◌/◌, ◌^◌, ◌≤◌, ◌<◌, zero-le}
use native.Mathlib.Nat.{lt_irrefl, le_trans, le_of_lt, lt_of_lt_of_le, lt_of_le_of_lt, zero-lt-suc, mul-one, mul_comm, mul_assoc, mul_right_comm, add-mul, mul-pos, mul-zero, zero-mul, le-add_right, le-mul_of_pos_right, mul-sub, mul-mul-mul_comm, mul-lt-mul_of_pos_right, mul-le-mul_right, lt_of_mul-lt-mul_right, le_of_mul-le-mul_right}
use native.Mathlib.Omega.{arith}
use lib.IntN.{ℤ, pos, negsuc, neg_ℤ, nat_abs, ◌+ℤ◌, ◌-ℤ◌, ◌*ℤ◌, pos-ne-negsuc}
use lib.Dec.{T, ltb, leb, leb→le, nleb→lt, ltb→lt, nltb→le}
use lib.Count.{count_trailing_zeros}
use borrow.Author.Tests.{le-leb, lt-leb, lt-ltb, le-ltb}
use lib.Pow.{pow-add, pow_pos, pow_mono, shl_lt}
use lib.Ieee.{Float, nan, inf, fin, Format, binary64, prec, low, up, down, minus, size, unlike, odd, round, sum, neg, add, sub, mul, of_int, fits, is_nan, to_bits, of_bits, hid, top}
use lib.Ieee.Fits.{down_pos, round-fits, odd-fits}
use lib.Ieee.Exact.{HasValue, odd_sign, round_exact}
use lib.Ieee.Nearest.{div_same}
use lib.Ieee.Scale.{round_same}
use lib.Ieee.Bits.{of_bits-to_bits}
use Rattle.exact.specs.Dyadic.{over, negative, dyadic, signed, Exact}
use Rattle.exact.specs.Sums.{sumℤ}
use Rattle.exact.proofs.Integers.{abs_neg, neg_times, times_one}

-- ---- a number is written in one way: two values that fit and are the same fraction have the same bits
bits_of : (f : Format) (s : Bool) (n : ℕ) → ℕ
bits_of f s n = let k = size n - prec f in cond s (top f) 0 + k * hid f + n / 2 ^ k

bits_is : (f : Format) (x : Float) (s : Bool) (a c : ℕ) → 0 < c → HasValue x s a c → to_bits f x ≡ bits_of f s (a * 2 ^ low f / c)
unfolding to_bits bits_of
bits_is f nan s a c p v = absurd v
bits_is f (inf t) s a c p v = absurd v
bits_is f (fin t m e) s a c p v =
    ap (λ (n : ℕ). bits_of f t n) (div_same (m * up e * 2 ^ low f) (down e) (a * 2 ^ low f) c (down_pos e) p
    (mul_right_comm (m * up e) (2 ^ low f) c ∙ ap (λ (n : ℕ). n * 2 ^ low f) v.1 ∙ mul_right_comm a (down e) (2 ^ low f)))
    ∙ ap (λ (b : Bool). bits_of f b (a * 2 ^ low f / c)) v.0

pub unique : (f : Format) (x y : Float) (s : Bool) (a c : ℕ) → 0 < c → T (fits f x) → T (fits f y) → HasValue x s a c → HasValue y s a c → x ≡ y
unique f x y s a c p h k v w =
    sym (of_bits-to_bits f x h) ∙ ap (of_bits f) (bits_is f x s a c p v ∙ sym (bits_is f y s a c p w)) ∙ of_bits-to_bits f y k

-- ---- `over` is the fraction, and an `f64` holds it
pub over_value : (s : ℕ) (t : Bool) (n : ℕ) → HasValue (over s t n) t n (2 ^ s)
unfolding over
over_value s t n = subst (λ (m : ℕ). HasValue (odd 53 t n 0 s) t m (2 ^ s)) (mul-one n) (odd_sign 53 t n 0 s)

-- the exponents in play: no more than 1021 places after the point
split : (s : ℕ) → s ≤ 1021 → 1074 ≡ 1074 - s + s
split s h = omega arith

in_range_lem : (s n : ℕ) → s ≤ 1021 → n < 2 ^ 53 → n * 2 ^ (1074 - s) < 2 ^ (1074 + 1024)
in_range_lem s n h g = lt_of_lt_of_le (shl_lt 53 (1074 - s) g) (pow_mono (room s))
  where
    room : (s : ℕ) → 53 + (1074 - s) ≤ 1074 + 1024
    room s = omega arith

units : (s n : ℕ) → s ≤ 1021 → n * 2 ^ 1074 ≡ n * 2 ^ (1074 - s) * 2 ^ s
units s n h = ap (λ (k : ℕ). n * 2 ^ k) (split s h) ∙ ap (λ (k : ℕ). n * k) (pow-add 2 (1074 - s) s) ∙ sym (mul_assoc n (2 ^ (1074 - s)) (2 ^ s))

round_value : (s : ℕ) (t : Bool) (n : ℕ) → s ≤ 1021 → n < 2 ^ 53 → HasValue (round binary64 t n (2 ^ s)) t n (2 ^ s)
round_value s t n h g = round_exact binary64 t n (2 ^ s) n (1074 - s) (pow_pos s) g (in_range_lem s n h g) (units s n h)

-- the same fraction with 1074 places after the point, as `odd-fits` has it
minus_more : (a t s : ℕ) → minus t s ≡ minus (a + t) (a + s)
minus_more a t s = go (leb s t) refl
  where
    up_same : (a t s : ℕ) → t - s ≡ a + t - (a + s)
    up_same a t s = omega arith

    down_same : (a t s : ℕ) → s - suc t ≡ a + s - suc (a + t)
    down_same a t s = omega arith

    more_le : (a t s : ℕ) → s ≤ t → a + s ≤ a + t
    more_le a t s h = omega arith

    more_lt : (a t s : ℕ) → t < s → a + t < a + s
    more_lt a t s h = omega arith

    go : (b : Bool) → leb s t ≡ b → minus t s ≡ minus (a + t) (a + s)
    go true e = rw (e, le-leb (a + s) (a + t) (more_le a t s (leb→le s t (rw e tt)))) (ap pos (up_same a t s))
    go false e = rw (e, lt-leb (a + s) (a + t) (more_lt a t s (nleb→lt s t (rw e tt)))) (ap negsuc (down_same a t s))

odd_more : (d : ℕ) (t : Bool) (n a s : ℕ) → odd d t n 0 s ≡ odd d t n a (a + s)
unfolding odd
odd_more d t zero a s = refl
odd_more d t (suc n) a s = let z = count_trailing_zeros d (suc n) in ap (fin t (suc n / 2 ^ z)) (ap (λ (k : ℕ). minus k s) (none z) ∙ minus_more a z s)
  where
    none : (z : ℕ) → 0 + z ≡ z
    none z = omega arith

pub over_fits : (s : ℕ) (t : Bool) (n : ℕ) → s ≤ 1021 → n < 2 ^ 53 → T (fits binary64 (over s t n))
unfolding over
over_fits s t n h g =
    subst (λ (x : Float). T (fits binary64 x)) (sym (odd_more 53 t n (1074 - s) s ∙ ap (odd 53 t n (1074 - s)) (sym (split s h))))
    (odd-fits binary64 53 t n (1074 - s) g (le_of_lt g) (in_range_lem s n h g))

-- so nothing is rounded away of such a fraction
pub round_over : (s : ℕ) (t : Bool) (n : ℕ) → s ≤ 1021 → n < 2 ^ 53 → round binary64 t n (2 ^ s) ≡ over s t n
round_over s t n h g =
    unique binary64 (round binary64 t n (2 ^ s)) (over s t n) t n (2 ^ s) (pow_pos s) (round-fits binary64 t n (2 ^ s)) (over_fits s t n h g) (round_value s t n h g) (over_value s t n)

-- ---- products
cross : (x y e d a b p q : ℕ) → x * p ≡ a * e → y * q ≡ b * d → x * y * (p * q) ≡ a * b * (e * d)
cross x y e d a b p q h k = mul-mul-mul_comm x y p q ∙ ap (λ (z : ℕ). z * (y * q)) h ∙ ap (λ (z : ℕ). a * e * z) k ∙ mul-mul-mul_comm a e b d

mul_at : (x y : Float) (s t : Bool) (a b p q : ℕ) → 0 < p → 0 < q → HasValue x s a p → HasValue y t b q → mul binary64 x y ≡ round binary64 (unlike s t) (a * b) (p * q)
unfolding mul
mul_at nan y s t a b p q P Q v w = absurd v
mul_at (inf r) y s t a b p q P Q v w = absurd v
mul_at (fin r m e) nan s t a b p q P Q v w = absurd w
mul_at (fin r m e) (inf u) s t a b p q P Q v w = absurd w
mul_at (fin r m e) (fin u n d) s t a b p q P Q v w =
    round_same binary64 (unlike r u) (m * up e * (n * up d)) (down e * down d) (a * b) (p * q) (mul-pos (down_pos e) (down_pos d)) (mul-pos P Q)
    (cross (m * up e) (n * up d) (down e) (down d) a b p q v.1 w.1)
    ∙ ap (λ (c : Bool). round binary64 (unlike c u) (a * b) (p * q)) v.0
    ∙ ap (λ (c : Bool). round binary64 (unlike s c) (a * b) (p * q)) w.0

pub mul_over : (i j : ℕ) (s t : Bool) (a b : ℕ) → i + j ≤ 1021 → a * b < 2 ^ 53 → mul binary64 (over i s a) (over j t b) ≡ over (i + j) (unlike s t) (a * b)
mul_over i j s t a b h g =
    mul_at (over i s a) (over j t b) s t a b (2 ^ i) (2 ^ j) (pow_pos i) (pow_pos j) (over_value i s a) (over_value j t b)
    ∙ ap (round binary64 (unlike s t) (a * b)) (sym (pow-add 2 i j))
    ∙ round_over (i + j) (unlike s t) (a * b) h g

-- ---- sums of two fractions of one denominator
-- A / c is a / p, and B / c is b / p
ltb_same : (A B c a b p : ℕ) → 0 < c → 0 < p → A * p ≡ a * c → B * p ≡ b * c → ltb A B ≡ ltb a b
ltb_same A B c a b p C P h k = go (ltb a b) refl
  where
    go : (t : Bool) → ltb a b ≡ t → ltb A B ≡ t
    go true e = lt-ltb A B (lt_of_mul-lt-mul_right p (rw (h, k) (mul-lt-mul_of_pos_right (ltb→lt a b (rw e tt)) C)))
    go false e = le-ltb A B (le_of_mul-le-mul_right (rw (h, k) (mul-le-mul_right c (nltb→le a b (rw e tt)))) P)

less : (A B c a b p : ℕ) → A * p ≡ a * c → B * p ≡ b * c → (A - B) * p ≡ (a - b) * c
less A B c a b p h k = mul_comm (A - B) p ∙ mul-sub p A B ∙ rw (mul_comm p A, mul_comm p B, h, k, mul_comm a c, mul_comm b c) (sym (mul-sub c a b) ∙ mul_comm c (a - b))

fractions_sum : (s t : Bool) (A B c a b p : ℕ) → 0 < c → 0 < p → A * p ≡ a * c → B * p ≡ b * c → sum binary64 s A t B c ≡ sum binary64 s a t b p
unfolding sum
fractions_sum s t A B c a b p C P h k =
    rw (
      ltb_same A B c a b p C P h k,
      ltb_same B A c b a p C P k h,
      round_same binary64 s (A + B) c (a + b) p C P (add-mul A B p ∙ rw (h, k) (sym (add-mul a b c))),
      round_same binary64 t (B - A) c (b - a) p C P (less B A c b a p k h),
      round_same binary64 (s && ltb b a) (A - B) c (a - b) p C P (less A B c a b p h k),
    )

share : (x e a p d : ℕ) → x * p ≡ a * e → x * d * p ≡ a * (e * d)
share x e a p d h = mul_right_comm x d p ∙ ap (λ (z : ℕ). z * d) h ∙ mul_assoc a e d

add_at : (x y : Float) (s t : Bool) (a b p : ℕ) → 0 < p → HasValue x s a p → HasValue y t b p → add binary64 x y ≡ sum binary64 s a t b p
unfolding add
add_at nan y s t a b p P v w = absurd v
add_at (inf r) y s t a b p P v w = absurd v
add_at (fin r m e) nan s t a b p P v w = absurd w
add_at (fin r m e) (inf u) s t a b p P v w = absurd w
add_at (fin r m e) (fin u n d) s t a b p P v w =
    fractions_sum r u (m * up e * down d) (n * up d * down e) (down e * down d) a b p (mul-pos (down_pos e) (down_pos d)) P
    (share (m * up e) (down e) a p (down d) v.1) (share (n * up d) (down d) b p (down e) w.1 ∙ ap (λ (z : ℕ). b * z) (mul_comm (down d) (down e)))
    ∙ ap (λ (c : Bool). sum binary64 c a u b p) v.0
    ∙ ap (λ (c : Bool). sum binary64 s a c b p) w.0

-- the sum of z and ±b, rounded once: a zero that comes out is +0, since z has no -0
rounded : ℤ → ℕ → Float
rounded z p = round binary64 (negative z) (nat_abs z) p

sum_signed : (z : ℤ) (t : Bool) (b p : ℕ) → sum binary64 (negative z) (nat_abs z) t b p ≡ rounded (z +ℤ signed t b) p
unfolding sum rounded
sum_signed (pos a) false b p = refl
sum_signed (pos a) true zero p = rw (le-ltb a 0 zero-le) (ap (λ (n : ℕ). round binary64 false n p) (none a))
  where
    none : (a : ℕ) → a - 0 ≡ a + 0
    none a = omega arith
sum_signed (pos a) true (suc b) p = go (ltb a (suc b)) refl
  where
    near : (a b : ℕ) → a < suc b → suc b - a ≡ suc (suc b - suc a)
    near a b h = omega arith

    go : (c : Bool) → ltb a (suc b) ≡ c → cond c (round binary64 true (suc b - a) p) (round binary64 false (a - suc b) p) ≡ rounded (cond c (negsuc (suc b - suc a)) (pos (a - suc b))) p
    go true e = ap (λ (n : ℕ). round binary64 true n p) (near a b (ltb→lt a (suc b) (rw e tt)))
    go false e = refl
sum_signed (negsuc a) false b p = go (ltb b (suc a)) refl (ltb (suc a) b) refl
  where
    near : (a b : ℕ) → b < suc a → suc a - b ≡ suc (suc a - suc b)
    near a b h = omega arith

    equal : (a b : ℕ) → suc a ≤ b → b ≤ suc a → suc a - b ≡ b - suc a
    equal a b h k = omega arith

    never : (a b : ℕ) → b < suc a → suc a < b → ⊥
    never a b h k = omega arith

    go : (c : Bool) → ltb b (suc a) ≡ c → (d : Bool) → ltb (suc a) b ≡ d
        → cond d (round binary64 false (b - suc a) p) (round binary64 c (suc a - b) p) ≡ rounded (cond c (negsuc (suc a - suc b)) (pos (b - suc a))) p
    go true e true f = absurd (never a b (ltb→lt b (suc a) (rw e tt)) (ltb→lt (suc a) b (rw f tt)))
    go true e false f = ap (λ (n : ℕ). round binary64 true n p) (near a b (ltb→lt b (suc a) (rw e tt)))
    go false e true f = refl
    go false e false f = ap (λ (n : ℕ). round binary64 false n p) (equal a b (nltb→le b (suc a) (rw e tt)) (nltb→le (suc a) b (rw f tt)))
sum_signed (negsuc a) true zero p = rw (lt-ltb 0 (suc a) (zero-lt-suc a)) (ap (λ (n : ℕ). round binary64 true n p) (none a))
  where
    none : (a : ℕ) → suc a + 0 ≡ suc (suc a - 1)
    none a = omega arith
sum_signed (negsuc a) true (suc b) p = ap (λ (n : ℕ). round binary64 true n p) (both a b)
  where
    both : (a b : ℕ) → suc a + suc b ≡ suc (suc (a + b))
    both a b = omega arith

-- ---- exact values
pub dyadic_value : (s : ℕ) (z : ℤ) → HasValue (dyadic s z) (negative z) (nat_abs z) (2 ^ s)
unfolding dyadic
dyadic_value s z = over_value s (negative z) (nat_abs z)

pub exact_value : {s : ℕ} {z : ℤ} {x : Float} (h : Exact s z x) → HasValue x h.sign (nat_abs z) (2 ^ s)
exact_value {s} {z} h = rw h.is (over_value s h.sign (nat_abs z))

pub dyadic_exact : (s : ℕ) (z : ℤ) → Exact s z (dyadic s z)
unfolding dyadic
dyadic_exact s z = record { sign = negative z; is = refl; agrees = same z }
  where
    same : (z : ℤ) → signed (negative z) (nat_abs z) ≡ z
    same (pos n) = refl
    same (negsuc n) = refl

-- ---- the bits of a float
pub is_number : (s : ℕ) (z : ℤ) → T (not (is_nan (dyadic s z)))
unfolding is_nan odd over dyadic
is_number s (pos zero) = tt
is_number s (pos (suc n)) = tt
is_number s (negsuc n) = tt

-- a program that reads its bits as a float gets it
pub read_back : (s : ℕ) (z : ℤ) → s ≤ 1021 → nat_abs z < 2 ^ 53 → of_bits binary64 (to_bits binary64 (dyadic s z)) ≡ dyadic s z
unfolding dyadic
read_back s z h g = of_bits-to_bits binary64 (dyadic s z) (over_fits s (negative z) (nat_abs z) h g)

-- ---- sums of exact values
-- a number above zero has one float, and so has a sum that starts from one
rounded_dyadic : (s : ℕ) (z : ℤ) → s ≤ 1021 → nat_abs z < 2 ^ 53 → rounded z (2 ^ s) ≡ dyadic s z
unfolding rounded dyadic
rounded_dyadic s z h g = round_over s (negative z) (nat_abs z) h g

pub plus : (s : ℕ) (y z : ℤ) {x : Float} → s ≤ 1021 → nat_abs (y +ℤ z) < 2 ^ 53 → Exact s z x → add binary64 (dyadic s y) x ≡ dyadic s (y +ℤ z)
plus s y z {x} h g e =
    add_at (dyadic s y) x (negative y) e.sign (nat_abs y) (nat_abs z) (2 ^ s) (pow_pos s) (dyadic_value s y) (exact_value e)
    ∙ sum_signed y e.sign (nat_abs z) (2 ^ s)
    ∙ ap (λ (w : ℤ). rounded (y +ℤ w) (2 ^ s)) e.agrees
    ∙ rounded_dyadic s (y +ℤ z) h g

-- one less another
neg_over : (s : ℕ) (t : Bool) (n : ℕ) → neg (over s t n) ≡ over s (not t) n
unfolding neg over odd
neg_over s t zero = refl
neg_over s t (suc n) = refl

neg_exact : (s : ℕ) (z : ℤ) → Exact s (neg_ℤ z) (neg (dyadic s z))
unfolding dyadic
neg_exact s z = record {
  sign = not (negative z);
  is = neg_over s (negative z) (nat_abs z) ∙ ap (over s (not (negative z))) (sym (abs_neg z));
  agrees = ap (signed (not (negative z))) (abs_neg z) ∙ back z;
}
  where
    back : (z : ℤ) → signed (not (negative z)) (nat_abs z) ≡ neg_ℤ z
    back (pos n) = refl
    back (negsuc n) = refl

pub subtract : (s : ℕ) (y z : ℤ) → s ≤ 1021 → nat_abs (y -ℤ z) < 2 ^ 53 → sub binary64 (dyadic s y) (dyadic s z) ≡ dyadic s (y -ℤ z)
unfolding sub
subtract s y z h g = plus s y (neg_ℤ z) h g (neg_exact s z)

pub abs_mul : (y z : ℤ) → nat_abs (y *ℤ z) ≡ nat_abs y * nat_abs z
abs_mul (pos a) (pos b) = refl
abs_mul (pos a) (negsuc b) = abs_neg (pos (a * suc b))
abs_mul (negsuc a) (pos b) = abs_neg (pos (suc a * b))
abs_mul (negsuc a) (negsuc b) = refl

signed_mul : (s t : Bool) (a b : ℕ) → signed (unlike s t) (a * b) ≡ signed s a *ℤ signed t b
signed_mul false false a b = refl
signed_mul false true a zero = rw mul-zero
signed_mul false true a (suc b) = refl
signed_mul true false a b = sym (neg_times a b)
signed_mul true true zero zero = refl
signed_mul true true zero (suc b) = rw zero-mul
signed_mul true true (suc a) zero = rw mul-zero
signed_mul true true (suc a) (suc b) = refl

pub times : {i j : ℕ} {y z : ℤ} {x w : Float} → i + j ≤ 1021 → nat_abs y * nat_abs z < 2 ^ 53 → Exact i y x → Exact j z w → Exact (i + j) (y *ℤ z) (mul binary64 x w)
times {i} {j} {y} {z} h g p q = record {
  sign = unlike p.sign q.sign;
  is = rw (p.is, q.is, abs_mul y z) (mul_over i j p.sign q.sign (nat_abs y) (nat_abs z) h g);
  agrees = rw (abs_mul y z) (signed_mul p.sign q.sign (nat_abs y) (nat_abs z) ∙ rw (p.agrees, q.agrees));
}

-- an integer `as f64`
pub cast : (z : ℤ) → nat_abs z < 2 ^ 53 → of_int binary64 z ≡ dyadic 0 z
unfolding of_int dyadic
cast (pos n) g = round_over 0 false n zero-le g
cast (negsuc n) g = round_over 0 true (suc n) zero-le g

-- the same number with k more places after the point
over_widen : (s k : ℕ) (t : Bool) (n : ℕ) → s + k ≤ 1021 → n * 2 ^ k < 2 ^ 53 → over s t n ≡ over (s + k) t (n * 2 ^ k)
over_widen s k t n h g =
    sym (round_over s t n (le_trans (le-add_right s k) h) (lt_of_le_of_lt (le-mul_of_pos_right n (pow_pos k)) g))
    ∙ round_same binary64 t n (2 ^ s) (n * 2 ^ k) (2 ^ (s + k)) (pow_pos s) (pow_pos (s + k)) (rw (pow-add, mul_comm (2 ^ s) (2 ^ k)) (sym (mul_assoc n (2 ^ k) (2 ^ s))))
    ∙ round_over (s + k) t (n * 2 ^ k) h g

pub widen : {s : ℕ} {z : ℤ} {x : Float} (k : ℕ) → s + k ≤ 1021 → nat_abs z * 2 ^ k < 2 ^ 53 → Exact s z x → Exact (s + k) (z *ℤ pos (2 ^ k)) x
widen {s} {z} {x} k h g e = record {
  sign = e.sign;
  is = e.is ∙ over_widen s k e.sign (nat_abs z) h g ∙ rw (abs_mul z (pos (2 ^ k)));
  agrees = rw (abs_mul z (pos (2 ^ k))) (scaled e.sign (nat_abs z) (2 ^ k) ∙ ap (λ (w : ℤ). w *ℤ pos (2 ^ k)) e.agrees);
}
  where
    scaled : (t : Bool) (n m : ℕ) → signed t (n * m) ≡ signed t n *ℤ pos m
    scaled false n m = refl
    scaled true n m = sym (neg_times n m)

-- times 2 ^ -j: the same whole number, with j more places after the point
pub scale : {i : ℕ} {y : ℤ} {x : Float} (j : ℕ) → i + j ≤ 1021 → nat_abs y < 2 ^ 53 → Exact i y x → Exact (i + j) y (mul binary64 x (dyadic j (pos 1)))
scale {i} {y} {x} j h g e =
    subst (λ (z : ℤ). Exact (i + j) z (mul binary64 x (dyadic j (pos 1)))) (times_one y)
    (times {y = y} h (subst (λ (n : ℕ). n < 2 ^ 53) (sym (mul-one (nat_abs y))) g) e (dyadic_exact j (pos 1)))

-- ---- running sums
-- one term more: while the sum's size is below 2 ^ 53, no bit of it is rounded away
pub sum_more : (s n : ℕ) (f : ℕ → ℤ) {x : Float} → s ≤ 1021 → nat_abs (sumℤ (suc n) f) < 2 ^ 53 → Exact s (f n) x → add binary64 (dyadic s (sumℤ n f)) x ≡ dyadic s (sumℤ (suc n) f)
unfolding sumℤ
sum_more s n f h g e = plus s (sumℤ n f) (f n) h g e

-- ---- a value that is not zero is one definite float
pub definite : (s : ℕ) (z : ℤ) {x : Float} → 0 < nat_abs z → Exact s z x → x ≡ dyadic s z
unfolding dyadic
definite s z {x} h e = e.is ∙ ap (λ (t : Bool). over s t (nat_abs z)) (same e.sign z h e.agrees)
  where
    same : (t : Bool) (z : ℤ) → 0 < nat_abs z → signed t (nat_abs z) ≡ z → t ≡ negative z
    same false (pos n) l a = refl
    same false (negsuc n) l a = absurd (pos-ne-negsuc (suc n) n a)
    same true (pos zero) l a = absurd (lt_irrefl 0 l)
    same true (pos (suc n)) l a = absurd (pos-ne-negsuc (suc n) n (sym a))
    same true (negsuc n) l a = refl

-- so the same number with k more places after the point is the same float
pub dyadic_widen : (s k : ℕ) (z : ℤ) → s + k ≤ 1021 → nat_abs z * 2 ^ k < 2 ^ 53 → dyadic s z ≡ dyadic (s + k) (z *ℤ pos (2 ^ k))
unfolding dyadic over odd
dyadic_widen s k (pos zero) h g = rw (zero-mul (2 ^ k))
dyadic_widen s k (pos (suc n)) h g = definite (s + k) (pos (suc n) *ℤ pos (2 ^ k)) (mul-pos (zero-lt-suc n) (pow_pos k)) (widen {z = pos (suc n)} k h g (dyadic_exact s (pos (suc n))))
dyadic_widen s k (negsuc n) h g =
    definite (s + k) (negsuc n *ℤ pos (2 ^ k)) (rw (abs_mul (negsuc n) (pos (2 ^ k))) (mul-pos (zero-lt-suc n) (pow_pos k))) (widen {z = negsuc n} k h g (dyadic_exact s (negsuc n)))
