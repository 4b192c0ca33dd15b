-- A number read group by group at a place of the bytes, and the bytes of one written. Assumes nothing.
use mathlib.Core.Path.{◌≡◌, refl, ap, ◌∙◌}
use mathlib.Core.Bool.{Bool, true, false}
use mathlib.Core.List.{List, [], ◌∷◌}
use Prim.Native.Nat.{ℕ, zero, suc, ◌+◌, ◌-◌, ◌*◌, ◌/◌, ◌%◌, ◌<◌, ◌≤◌}
use native.Mathlib.Numerals.{add-one}
use native.Mathlib.Omega.{arith}
use lib.Dec.{eqb}
use lib.ListN.{length, drop, drop_of_length-le, length-set}
use lib.Seq.{drop-cons}
use borrow.Author.Tests.{lt-ltb, le-ltb, ne_eqb, eq-eqb, eqb-true, eqb-false}
use Rattle.codec.specs.Fitting.{number_limit}
use Rattle.codec.specs.Numbers.{Decoded, bad, got, above, decode_groups, decode_number, encode_groups, encode_number}
use Rattle.codec.specs.Steps.{ByteAt, Found}

-- ---- one group

cut : (k : ℕ) (s : List ℕ) (at : ℕ) → length s ≤ at → decode_groups k (drop at s) ≡ bad
unfolding decode_groups
cut zero s at h = refl
cut (suc k) s at h = rw (drop_of_length-le s h) refl

cut_none : (s : List ℕ) (at : ℕ) → decode_groups 0 (drop at s) ≡ bad
unfolding decode_groups
cut_none s at = refl

module _ (k : ℕ) {s : List ℕ} {at to x : ℕ} (b : ByteAt s at x) (n : to ≡ at + 1) where
  here : drop at s ≡ x ∷ drop to s
  here = rw (n, b.is, add-one) (drop-cons s at 0 b.inside)

  group_last : x < 128 → decode_groups (suc k) (drop at s) ≡ got x (drop to s)
  unfolding decode_groups
  group_last l = ap (decode_groups (suc k)) here ∙ rw (lt-ltb x 128 l) refl

  group_more : 128 ≤ x → decode_groups (suc k) (drop at s) ≡ above (x - 128) (decode_groups k (drop to s))
  unfolding decode_groups
  group_more l = ap (decode_groups (suc k)) here ∙ rw (le-ltb x 128 l, lt-ltb x 256 b.small) refl

above_bad : (low : ℕ) (r : Decoded) → r ≡ bad → above low r ≡ bad
unfolding above
above_bad low r e = rw e refl

above_zero : (low n : ℕ) (r : Decoded) (s : List ℕ) → r ≡ got n s → n ≡ 0 → above low r ≡ bad
unfolding above
above_zero low n r s e z = rw (e, eq-eqb n 0 z) refl

above_got : (low n : ℕ) (r : Decoded) (s : List ℕ) → r ≡ got n s → (n ≡ 0 → ⊥) → above low r ≡ got (low + 128 * n) s
unfolding above
above_got low n r s e z = rw (e, ne_eqb n 0 z) refl

-- ---- a number at a place

pub read_none : (s : List ℕ) (at : ℕ) → length s ≤ at → decode_number (drop at s) ≡ bad
unfolding decode_number
read_none s at h = cut 3 s at h

module _ {s : List ℕ} {at x : ℕ} (b : ByteAt s at x) where
  pub read_one : x < 128 → Found s at x (at + 1)
  unfolding decode_number
  read_one l = record { reads = group_last 2 b refl l; inside = omega (arith, b.inside); small = omega arith }

  module _ (l : 128 ≤ x) where
    pub read_cut : length s ≤ at + 1 → decode_number (drop at s) ≡ bad
    unfolding decode_number
    read_cut g = group_more 2 b refl l ∙ above_bad (x - 128) _ (cut 2 s (at + 1) g)

    module _ {y : ℕ} (b₂ : ByteAt s (at + 1) y) where
      pub read_long : y ≡ 0 → decode_number (drop at s) ≡ bad
      unfolding decode_number
      read_long z = group_more 2 b refl l ∙ above_zero (x - 128) y _ _ (group_last 1 {to = at + 2} b₂ (omega arith) (omega arith)) z

      pub read_two : (y ≡ 0 → ⊥) → y < 128 → Found s at ((x - 128) + 128 * y) (at + 2)
      unfolding decode_number
      read_two z g = record {
        reads = group_more 2 b refl l ∙ above_got (x - 128) y _ _ (group_last 1 {to = at + 2} b₂ (omega arith) g) z;
        inside = omega (arith, b₂.inside);
        small = omega (arith, b.small);
      }

      module _ (l₂ : 128 ≤ y) where
        pub read_cut_2 : length s ≤ at + 2 → decode_number (drop at s) ≡ bad
        unfolding decode_number
        read_cut_2 g = group_more 2 b refl l ∙ above_bad (x - 128) _ (group_more 1 {to = at + 2} b₂ (omega arith) l₂ ∙ above_bad (y - 128) _ (cut 1 s (at + 2) g))

        module _ {w : ℕ} (b₃ : ByteAt s (at + 2) w) where
          pub read_long_2 : w ≡ 0 → decode_number (drop at s) ≡ bad
          unfolding decode_number
          read_long_2 z = group_more 2 b refl l ∙ above_bad (x - 128) _ (group_more 1 {to = at + 2} b₂ (omega arith) l₂ ∙ above_zero (y - 128) w _ _ (group_last 0 {to = at + 3} b₃ (omega arith) (omega arith)) z)

          pub read_three : (w ≡ 0 → ⊥) → w < 128 → Found s at ((x - 128) + 128 * ((y - 128) + 128 * w)) (at + 3)
          unfolding decode_number
          read_three z g =
              let p : ((y - 128) + 128 * w ≡ 0 → ⊥) = λ q. omega arith in
              record {
                reads = group_more 2 b refl l ∙ above_got (x - 128) ((y - 128) + 128 * w) _ _ (group_more 1 {to = at + 2} b₂ (omega arith) l₂ ∙ above_got (y - 128) w _ _ (group_last 0 {to = at + 3} b₃ (omega arith) g) z) p;
                inside = omega (arith, b₃.inside);
                small = omega (arith, b.small, b₂.small);
              }

          pub read_four : 128 ≤ w → decode_number (drop at s) ≡ bad
          unfolding decode_number
          read_four g = group_more 2 b refl l ∙ above_bad (x - 128) _ (group_more 1 {to = at + 2} b₂ (omega arith) l₂
              ∙ above_bad (y - 128) _ (group_more 0 {to = at + 3} b₃ (omega arith) g ∙ above_bad (w - 128) _ (cut_none s (at + 3))))

          pub read_other : (1 ≤ w → 128 ≤ w) → decode_number (drop at s) ≡ bad
          read_other out = go (eqb w 0) refl
            where
              go : (z : Bool) → eqb w 0 ≡ z → decode_number (drop at s) ≡ bad
              go true e = read_long_2 (eqb-true w 0 e)
              go false e = let n = eqb-false w 0 e in read_four (out (omega arith))

-- ---- the bytes of a number

pub bytes_one : (n : ℕ) → n < 128 → encode_number n ≡ n ∷ []
unfolding encode_number encode_groups
bytes_one n h = rw (lt-ltb n 128 h) refl

pub bytes_two : (n : ℕ) → 128 ≤ n → n < 16384 → encode_number n ≡ (128 + n % 128) ∷ (n / 128) ∷ []
unfolding encode_number encode_groups
bytes_two n l h = rw (le-ltb n 128 l, lt-ltb (n / 128) 128 (omega arith)) refl

pub bytes_three : (n : ℕ) → 16384 ≤ n → n < number_limit → encode_number n ≡ (128 + n % 128) ∷ (128 + n / 128 % 128) ∷ (n / 16384) ∷ []
unfolding encode_number encode_groups
bytes_three n l h =
    let e : n / 128 / 128 ≡ n / 16384 = omega arith in
    rw (le-ltb n 128 (omega arith), le-ltb (n / 128) 128 (omega arith), e, lt-ltb (n / 16384) 128 (omega arith)) refl

pub length_one : (n : ℕ) → n < 128 → length (encode_number n) ≡ 1
length_one n h = ap length (bytes_one n h)

pub length_two : (n : ℕ) → 128 ≤ n → n < 16384 → length (encode_number n) ≡ 2
length_two n l h = ap length (bytes_two n l h)

pub length_three : (n : ℕ) → 16384 ≤ n → n < number_limit → length (encode_number n) ≡ 3
length_three n l h = ap length (bytes_three n l h)

-- how many bytes a number takes, and that a store leaves the room
pub ruleset number_lengths = (length_one, length_two, length_three, length-set)
