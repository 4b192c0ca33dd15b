-- Cells counted by ones in whole words are those that the byte table has. Assumes nothing.
use mathlib.Core.Path.{◌≡◌, refl, sym, ap, ap₂, ◌∙◌}
use mathlib.Core.Bool.{Bool, true, false, not, ◌&&◌, cond}
use mathlib.Core.List.{List}
use Prim.Native.Nat.{ℕ, min, ◌+◌, ◌-◌, ◌*◌, ◌^◌, ◌≤◌, ◌<◌}
use native.Mathlib.Nat.{mul_comm, lt_of_le_of_lt}
use native.Mathlib.Omega.{arith}
use lib.Bits.{bit_and, and_le_l}
use lib.Count.{ones}
use lib.Dec.{eqb}
use lib.ListN.{length, get_or}
use Rattle.facts.specs.Bounded.{sum}
use Rattle.facts.proofs.Sums.{sum_same, sum_zero, sum_split, sum_rows}
use Rattle.facts.proofs.Tests.{not_e, T_false}
use Rattle.mesh.specs.Mesh.{tally, active, refined}
use Rattle.planes.specs.Bits.{bit, in_plane, byte_of, bytes_of, Holding, active_ones, ones_at}
use Rattle.planes.proofs.Bits.{ones_bits, and_bit, not_bit}
use Rattle.planes.proofs.Laws.{words_enough, set_bit, Ordered, ordered, byte_at, refined_bytes_lem}

-- words whose digits are tests, of which none passes from n on
module _ (n words : ℕ) (f : ℕ → ℕ) (test : ℕ → Bool) (small : (w : ℕ) → f w < 2 ^ 64)
    (digits : (w k : ℕ) → k < 64 → bit (f w) k ≡ cond (test (64 * w + k)) 1 0) (enough : n ≤ 64 * words)
    (none : (c : ℕ) → n ≤ c → c < 64 * words → test c ≡ false) where
  pub ones_tally : sum words (λ w. ones (f w)) ≡ tally n test
  unfolding tally
  ones_tally =
      let g : ℕ → ℕ = λ c. cond (test c) 1 0 in
      let e : n + (64 * words - n) ≡ words * 64 = omega arith in
      let rest = sum_zero (64 * words - n) (λ k. g (n + k)) (λ k l. ap (λ (b : Bool). cond b 1 0) (none (n + k) (omega arith) (omega arith))) in
      sum_same words (λ w. ones (f w)) (λ w. sum 64 (λ k. g (w * 64 + k))) (λ w l.
      ones_bits 64 (f w) (small w) ∙ sum_same 64 (bit (f w)) (λ k. g (w * 64 + k)) (λ k i. digits w k i ∙ ap (λ (m : ℕ). g (m + k)) (mul_comm 64 w)))
      ∙ sym (sum_rows words 64 g) ∙ ap (λ (m : ℕ). sum m g) (sym e) ∙ sum_split n (64 * words - n) g ∙ omega (arith, rest)

active_byte : (a b : Bool) → (a && not b) ≡ eqb (cond a (cond b 2 1) 0) 1
active_byte true true = refl
active_byte true false = refl
active_byte false b = refl

two_digits : (a b : Bool) → min (cond a 1 0) (1 - cond b 1 0) ≡ cond (a && not b) 1 0
two_digits true true = refl
two_digits true false = refl
two_digits false true = refl
two_digits false false = refl

module _ (n : ℕ) (P R : List ℕ) (h : Holding n P R) where
  o : Ordered n P R
  o = ordered n P R h.order

  abbrev is_active : ℕ → Bool
  is_active c = in_plane P c && not (in_plane R c)

  active_digits : (w k : ℕ) → k < 64 → bit (bit_and (get_or P w 0) ((2 ^ 64 - 1) - get_or R w 0)) k ≡ cond (is_active (64 * w + k)) 1 0
  active_digits w k l =
      and_bit (get_or P w 0) ((2 ^ 64 - 1) - get_or R w 0) k
      ∙ (ap₂ (λ (x y : ℕ). min x y) (sym (set_bit P w k l)) (not_bit 64 (get_or R w 0) k (h.refined_words w) l ∙ ap (λ (x : ℕ). 1 - x) (sym (set_bit R w k l)))
      ∙ two_digits (in_plane P (64 * w + k)) (in_plane R (64 * w + k)))

  active_at : (c : ℕ) → c < n → is_active c ≡ active (bytes_of n P R) c
  unfolding active byte_of
  active_at c l = rw (byte_at n P R c l) (active_byte (in_plane P c) (in_plane R c))

  -- "proved equal to the byte table's active count"
  pub active_tally : sum (length P) (active_ones P R) ≡ tally n (active (bytes_of n P R))
  unfolding active_ones tally
  active_tally =
      ones_tally n (length P) (λ w. bit_and (get_or P w 0) ((2 ^ 64 - 1) - get_or R w 0)) is_active
      (λ w. lt_of_le_of_lt (and_le_l (get_or P w 0) ((2 ^ 64 - 1) - get_or R w 0)) (h.present_words w)) active_digits (rw h.present_length (words_enough n))
      (λ c l m. ap (λ (b : Bool). b && not (in_plane R c)) (T_false (in_plane P c) (not_e (in_plane P c) (o.no_present c l (rw h.present_length at m)))))
      ∙ sum_same n _ _ (λ c l. ap (λ (b : Bool). cond b 1 0) (active_at c l))

  pub refined_tally : sum (length R) (ones_at R) ≡ tally n (refined (bytes_of n P R))
  unfolding ones_at tally
  refined_tally =
      ones_tally n (length R) (λ w. get_or R w 0) (in_plane R) h.refined_words (λ w k l. sym (set_bit R w k l)) (rw h.refined_length (words_enough n))
      (λ c l m. T_false (in_plane R c) (not_e (in_plane R c) (o.no_refined c l (rw h.refined_length at m))))
      ∙ sum_same n _ _ (λ c l. ap (λ (b : Bool). cond b 1 0) (sym (refined_bytes_lem n P R o c (omega (arith, words_enough n)))))
