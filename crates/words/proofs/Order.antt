-- Whether planes are in order, by whole words. Assumes nothing.
use mathlib.Core.Path.{◌≡◌, refl, sym, ap, ◌∙◌}
use mathlib.Core.Bool.{true, not, ◌&&◌}
use mathlib.Core.List.{List}
use Prim.Native.Nat.{ℕ, ◌+◌, ◌-◌, ◌*◌, ◌/◌, ◌%◌, ◌^◌, ◌≤◌, ◌<◌}
use native.Mathlib.Nat.{div-eq_of_lt, div-lt_iff_lt-mul}
use native.Mathlib.Omega.{arith}
use lib.Dec.{T, eqb, ltb, ltb→lt, nltb→le, eqb→eq}
use lib.Pow.{pow_mono, pow_pos, shr-shr, shr_le}
use lib.Bits.{bit_and, and_lt}
use lib.ListN.{length, get_or}
use Rattle.facts.specs.Bounded.{every}
use Rattle.facts.proofs.Tests.{differ, and_i, and_l, and_r, not_i, not_e, cases, same, eqb_of}
use Rattle.facts.proofs.Bounded.{every_i, every_e}
use Rattle.facts.proofs.Ranges.{from_none}
use Rattle.planes.specs.Bits.{bit, in_plane, words_for, Words, no_spare, Within, in_order}
use Rattle.words.specs.Words.{word_within}
use Rattle.planes.proofs.Bits.{bit_lt, bit_of_zero, bits_same, and_bit}
use Rattle.planes.proofs.Laws.{in_plane_lem, spares, no_spares, past_end, ordered, ordered_within, order_i}

-- ---- spare bits are those of the last word from the last cell on

zero_of : (n : ℕ) → n < 2 → T (not (eqb n 1)) → n ≡ 0
zero_of n l t = omega (arith, differ n 1 t)

high_bit : (x s k : ℕ) → x / 2 ^ s ≡ 0 → s ≤ k → bit x k ≡ 0
unfolding bit
high_bit x s k z l =
    let m : x < 1 * 2 ^ s = (div-lt_iff_lt-mul (pow_pos s)).0 (omega arith) in
    let q : x < 2 ^ k = omega (arith, pow_mono l) in
    rw (div-eq_of_lt q) refl

high_zero : (x s : ℕ) → x < 2 ^ 64 → ((k : ℕ) → s ≤ k → k < 64 → bit x k ≡ 0) → x / 2 ^ s ≡ 0
high_zero x s l h = bits_same 64 (x / 2 ^ s) 0 (omega (arith, shr_le x s)) (omega arith) (λ k i. shifted k ∙ (digit (s + k) (omega arith) ∙ sym (bit_of_zero k)))
  where
    shifted : (k : ℕ) → bit (x / 2 ^ s) k ≡ bit x (s + k)
    shifted k = unfold bit in ap (λ (z : ℕ). z % 2) (shr-shr x s k)

    digit : (k : ℕ) → s ≤ k → bit x k ≡ 0
    digit k i = cases (ltb k 64) (λ t. h k i (ltb→lt k 64 t)) (λ t.
        high_bit x 64 k (div-eq_of_lt l) (nltb→le k 64 t))

module _ (n : ℕ) (plane : List ℕ) where
  pub spare_none : n % 64 ≡ 0 → true ≡ no_spare n plane
  unfolding no_spare words_for
  spare_none e = let q : 64 * ((n + 63) / 64) - n ≡ 0 = omega arith in rw q (sym (from_none n _))

  -- the last word, where it is not full
  module _ (some : n % 64 ≡ 0 → ⊥) where
    abbrev last : ℕ
    last = get_or plane (n / 64) 0

    spare_e : T (eqb (last / 2 ^ (n % 64)) 0) → (c : ℕ) → n ≤ c → c < 64 * words_for n → T (not (in_plane plane c))
    unfolding words_for
    spare_e t c l m =
        let e : c / 64 ≡ n / 64 = omega arith in
        rw (in_plane_lem plane c, e, high_bit last (n % 64) (c % 64) (eqb→eq (last / 2 ^ (n % 64)) 0 t) (omega arith)) tt

    spare_i : ((c : ℕ) → n ≤ c → c < 64 * words_for n → T (not (in_plane plane c))) → last < 2 ^ 64 → T (eqb (last / 2 ^ (n % 64)) 0)
    unfolding words_for
    spare_i h small = eqb_of (last / 2 ^ (n % 64)) 0 (high_zero last (n % 64) small (λ k i j.
        let a : (64 * (n / 64) + k) / 64 ≡ n / 64 = omega arith in
        let b : (64 * (n / 64) + k) % 64 ≡ k = omega arith in
        zero_of (bit last k) (bit_lt last k) (rw (in_plane_lem plane (64 * (n / 64) + k), a, b) at (h (64 * (n / 64) + k) (omega arith) (omega arith)))))

    pub spare_last : last < 2 ^ 64 → eqb (last / 2 ^ (n % 64)) 0 ≡ no_spare n plane
    spare_last small = same (eqb (last / 2 ^ (n % 64)) 0) (no_spare n plane)
        (λ t. no_spares n plane (spare_e t))
        (λ t. spare_i (spares n plane t) small)

-- ---- within, by words

module _ (P R : List ℕ) where
  word_e : (w k : ℕ) → T (word_within P R w) → bit (get_or R w 0) k ≤ bit (get_or P w 0) k
  unfolding word_within
  word_e w k t =
      let e : bit_and (get_or R w 0) (get_or P w 0) ≡ get_or R w 0 = eqb→eq _ _ t in
      omega (arith, sym (and_bit (get_or R w 0) (get_or P w 0) k) ∙ ap (λ (x : ℕ). bit x k) e)

  word_i : (w : ℕ) → get_or R w 0 < 2 ^ 64 → get_or P w 0 < 2 ^ 64 → ((k : ℕ) → k < 64 → bit (get_or R w 0) k ≤ bit (get_or P w 0) k) → T (word_within P R w)
  unfolding word_within
  word_i w l m h = eqb_of _ _ (bits_same 64 (bit_and (get_or R w 0) (get_or P w 0)) (get_or R w 0) (and_lt 64 (get_or R w 0) (get_or P w 0) l m) l (λ k i.
      and_bit (get_or R w 0) (get_or P w 0) k ∙ omega (arith, h k i)))

  set_within : (w k : ℕ) → T (word_within P R w) → T (eqb (bit (get_or R w 0) k) 1) → T (eqb (bit (get_or P w 0) k) 1)
  set_within w k a b =
      let e : bit (get_or R w 0) k ≡ 1 = eqb→eq (bit (get_or R w 0) k) 1 b in
      eqb_of (bit (get_or P w 0) k) 1 (omega (arith, word_e w k a, bit_lt (get_or P w 0) k))

  pub words_within : length R ≤ length P → T (every (length P) (word_within P R)) → Within P R
  words_within l t c u = cases (ltb (c / 64) (length P))
      (λ v. rw (in_plane_lem P c) (set_within (c / 64) (c % 64) (every_e (length P) (word_within P R) t (c / 64) (ltb→lt (c / 64) (length P) v)) (rw (in_plane_lem R c) at u)))
      (λ v. absurd (past_end R c (omega (arith, nltb→le (c / 64) (length P) v)) u))

  within_words : Words P → Words R → Within P R → T (every (length P) (word_within P R))
  within_words p r h = every_i (length P) (word_within P R) (λ w l. word_i w (r w) (p w) (λ k i.
      let a : (64 * w + k) / 64 ≡ w = omega arith in
      let b : (64 * w + k) % 64 ≡ k = omega arith in
      at_most (bit (get_or R w 0) k) (bit (get_or P w 0) k) (bit_lt (get_or R w 0) k) (rw (in_plane_lem R (64 * w + k), in_plane_lem P (64 * w + k), a, b) at (h (64 * w + k)))))
    where
      at_most : (x y : ℕ) → x < 2 → (T (eqb x 1) → T (eqb y 1)) → x ≤ y
      at_most x y l f = cases (eqb x 1) (λ t. omega (arith, eqb→eq x 1 t, eqb→eq y 1 (f t))) (λ t. omega (arith, differ x 1 t))

  module _ (n : ℕ) (lP : length P ≡ words_for n) (lR : length R ≡ words_for n) where
    pub order_words : Words P → Words R → every (length P) (word_within P R) && no_spare n P ≡ in_order n P R
    order_words p r = same (every (length P) (word_within P R) && no_spare n P) (in_order n P R)
        (λ t.
        let w = words_within (omega arith) (and_l (every (length P) (word_within P R)) (no_spare n P) t) in
        let s = spares n P (and_r (every (length P) (word_within P R)) (no_spare n P) t) in
        order_i n P R (record {
          no_present = s;
          no_refined = λ c l m. not_i (in_plane R c) (λ u. not_e (in_plane P c) (s c l m) (w c u));
          inside = λ c l u. w c u;
        }))
        (λ t. and_i (every (length P) (word_within P R)) (no_spare n P) (within_words p r (ordered_within n P R lP lR t)) (no_spares n P (ordered n P R t).no_present))
