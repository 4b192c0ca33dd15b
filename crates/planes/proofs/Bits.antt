-- Digits of numbers: of a half, of a conjunction, of a complement; words made of digits and counted by ones. Assumes nothing.
use mathlib.Core.Path.{◌≡◌, refl, sym, ap, ◌∙◌}
use mathlib.Core.Bool.{Bool, true, false, cond}
use Prim.Native.Nat.{ℕ, zero, suc, min, ◌+◌, ◌-◌, ◌*◌, ◌/◌, ◌%◌, ◌^◌, ◌<◌}
use native.Mathlib.Nat.{not-suc-le-zero, div-div-eq-div-mul, div-one, mod-lt, mul_comm, pow-suc, zero-div}
use native.Mathlib.Omega.{arith}
use lib.Bits.{bit_and, and_shr, and_mod}
use lib.Count.{ones, ones_in, ones_step}
use lib.Dec.{eqb}
use Rattle.facts.specs.Bounded.{sum}
use Rattle.facts.proofs.Sums.{sum_same}
use Rattle.planes.specs.Bits.{bit, word_from}

-- ---- one digit

pub bit_first : (x : ℕ) → bit x 0 ≡ x % 2
unfolding bit
bit_first x = ap (λ (z : ℕ). z % 2) (div-one x)

-- the digits of the half are the others
pub bit_next : (x k : ℕ) → bit x (suc k) ≡ bit (x / 2) k
unfolding bit
bit_next x k = ap (λ (z : ℕ). z % 2) (ap (λ (z : ℕ). x / z) (pow-suc 2 k ∙ mul_comm (2 ^ k) 2) ∙ sym (div-div-eq-div-mul x 2 (2 ^ k)))

pub bit_lt : (x k : ℕ) → bit x k < 2
unfolding bit
bit_lt x k = mod-lt (x / 2 ^ k) (omega arith)

pub bit_of_zero : (k : ℕ) → bit 0 k ≡ 0
unfolding bit
bit_of_zero k = rw (zero-div (2 ^ k)) refl

-- a digit is the test that it is 1
pub bit_is : (n : ℕ) → n < 2 → cond (eqb n 1) 1 0 ≡ n
bit_is zero l = refl
bit_is (suc zero) l = refl
bit_is (suc (suc n)) l = absurd (omega arith)

half_lt : (n x : ℕ) → x < 2 ^ suc n → x / 2 < 2 ^ n
half_lt n x l = omega (arith, pow-suc 2 n)

-- numbers of n digits are equal where their digits are
pub bits_same : (n x y : ℕ) → x < 2 ^ n → y < 2 ^ n → ((k : ℕ) → k < n → bit x k ≡ bit y k) → x ≡ y
bits_same zero x y l m h = omega arith
bits_same (suc n) x y l m h =
    let e : x % 2 ≡ y % 2 = sym (bit_first x) ∙ (h 0 (omega arith) ∙ bit_first y) in
    let q = bits_same n (x / 2) (y / 2) (half_lt n x l) (half_lt n y m) (λ k i. sym (bit_next x k) ∙ (h (suc k) (omega arith) ∙ bit_next y k)) in
    omega arith

-- ---- words

digit_lt : (b : Bool) → cond b 1 0 < 2
digit_lt true = omega arith
digit_lt false = omega arith

module _ (test : ℕ → Bool) where
  pub word_lt : (n at : ℕ) → word_from n at test < 2 ^ n
  unfolding word_from
  word_lt zero at = omega arith
  word_lt (suc n) at = omega (arith, digit_lt (test at), word_lt n (suc at), pow-suc 2 n)

  -- digit k of a word
  pub word_bit : (n at k : ℕ) → k < n → bit (word_from n at test) k ≡ cond (test (at + k)) 1 0
  unfolding word_from
  word_bit zero at k l = absurd (not-suc-le-zero l)
  word_bit (suc n) at zero l =
      let e : at + 0 ≡ at = omega arith in
      bit_first (cond (test at) 1 0 + 2 * word_from n (suc at) test) ∙ rw e (omega (arith, digit_lt (test at)))
  word_bit (suc n) at (suc k) l =
      let e : at + suc k ≡ suc at + k = omega arith in
      let q : (cond (test at) 1 0 + 2 * word_from n (suc at) test) / 2 ≡ word_from n (suc at) test = omega (arith, digit_lt (test at)) in
      bit_next (cond (test at) 1 0 + 2 * word_from n (suc at) test) k ∙ rw (q, e) (word_bit n (suc at) k (omega arith))

  -- a number whose digits are the tests is the word
  pub word_is : (n at x : ℕ) → x < 2 ^ n → ((k : ℕ) → k < n → cond (test (at + k)) 1 0 ≡ bit x k) → word_from n at test ≡ x
  word_is n at x l h = bits_same n (word_from n at test) x (word_lt n at) l (λ k i. word_bit n at k i ∙ h k i)

pub word_same : (n at : ℕ) (f g : ℕ → Bool) → ((k : ℕ) → k < n → f (at + k) ≡ g (at + k)) → word_from n at f ≡ word_from n at g
word_same n at f g h = word_is f n at (word_from n at g) (word_lt g n at) (λ k l. ap (λ (b : Bool). cond b 1 0) (h k l) ∙ sym (word_bit g n at k l))

-- ---- conjunction and complement

and_small : (a b : ℕ) → a < 2 → b < 2 → bit_and a b ≡ min a b
and_small zero b l m = omega arith
and_small (suc zero) zero l m = refl
and_small (suc zero) (suc zero) l m = refl
and_small (suc zero) (suc (suc b)) l m = absurd (omega arith)
and_small (suc (suc a)) b l m = absurd (omega arith)

pub and_bit : (x y k : ℕ) → bit (bit_and x y) k ≡ min (bit x k) (bit y k)
unfolding bit
and_bit x y k =
    ap (λ (z : ℕ). z % 2) (and_shr x y k) ∙ and_mod (x / 2 ^ k) (y / 2 ^ k) 1
    ∙ and_small (x / 2 ^ k % 2) (y / 2 ^ k % 2) (mod-lt (x / 2 ^ k) (omega arith)) (mod-lt (y / 2 ^ k) (omega arith))

pub not_bit : (n x k : ℕ) → x < 2 ^ n → k < n → bit ((2 ^ n - 1) - x) k ≡ 1 - bit x k
not_bit zero x k l m = absurd (not-suc-le-zero m)
not_bit (suc n) x zero l m = bit_first ((2 ^ suc n - 1) - x) ∙ rw (bit_first x) (omega (arith, pow-suc 2 n))
not_bit (suc n) x (suc k) l m =
    let e : ((2 ^ suc n - 1) - x) / 2 ≡ (2 ^ n - 1) - x / 2 = omega (arith, pow-suc 2 n) in
    bit_next ((2 ^ suc n - 1) - x) k ∙ rw (e, bit_next x k) (not_bit n (x / 2) k (half_lt n x l) (omega arith))

-- ---- ones

sum_first : (n : ℕ) (f : ℕ → ℕ) → sum (suc n) f ≡ f 0 + sum n (λ k. f (suc k))
unfolding sum
sum_first zero f = omega arith
sum_first (suc n) f = omega (arith, sum_first n f)

-- a word's ones are its digits together
pub ones_bits : (n x : ℕ) → x < 2 ^ n → ones x ≡ sum n (bit x)
unfolding ones ones_in sum
ones_bits zero x l = let e : x ≡ 0 = omega arith in rw e refl
ones_bits (suc n) x l =
    let r = sum_same n (bit (x / 2)) (λ k. bit x (suc k)) (λ k i. sym (bit_next x k)) in
    omega (arith, ones_step x, ones_bits n (x / 2) (half_lt n x l), r, sum_first n (bit x), bit_first x)
