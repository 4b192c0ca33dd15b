-- What the loops that pack and unpack do in a turn. Assumes nothing.
use mathlib.Core.Path.{◌≡◌, refl, sym, ap₂, ◌∙◌}
use mathlib.Core.Bool.{Bool, true, false, cond}
use mathlib.Core.List.{List}
use Prim.Native.Nat.{ℕ, suc, ◌+◌, ◌-◌, ◌*◌, ◌/◌, ◌%◌, ◌^◌, ◌≤◌, ◌<◌}
use native.Mathlib.Nat.{lt_of_lt_of_le}
use native.Mathlib.Omega.{arith}
use lib.Pow.{pow_mono}
use lib.Dec.{T}
use lib.ListN.{get_or}
use Rattle.mesh.specs.Mesh.{refined}
use Rattle.planes.specs.Bits.{in_plane, byte_of, Within, word_from, is_present}
use Rattle.planes.proofs.Bits.{word_lt}
use Rattle.planes.proofs.Laws.{set_bit}
use Rattle.packing.specs.Packing.{word_byte, packed_of}

-- ---- a word's bytes

two_bits : (a b : Bool) → (T b → T a) → cond a 1 0 + cond b 1 0 ≡ cond a (cond b 2 1) 0
two_bits true true i = refl
two_bits true false i = refl
two_bits false true i = absurd (i tt)
two_bits false false i = refl

pub word_byte_lem : (P R : List ℕ) → Within P R → (w j : ℕ) → j < 64 → word_byte (get_or P w 0) (get_or R w 0) j ≡ byte_of P R (64 * w + j)
unfolding word_byte byte_of
word_byte_lem P R i w j l =
    ap₂ (λ (x y : ℕ). x + y) (sym (set_bit P w j l)) (sym (set_bit R w j l)) ∙ two_bits (in_plane P (64 * w + j)) (in_plane R (64 * w + j)) (i (64 * w + j))

-- ---- a word's bits, from the last four cells to the first

module _ (test : ℕ → Bool) (at four x : ℕ) (some : 0 < four) (few : four ≤ 16) (e : x ≡ word_from (64 - 4 * four) (at + 4 * four) test) where
  -- there is room for four bits more
  pub word_room : x < 2 ^ 60
  word_room = rw e (lt_of_lt_of_le (word_lt test (64 - 4 * four) (at + 4 * four)) (pow_mono {i = 64 - 4 * four} {j = 60} (omega arith)))

  pub word_turn : (b : ℕ) → b ≡ word_from 4 (at + 4 * (four - 1)) test → b + 16 * x ≡ word_from (64 - 4 * (four - 1)) (at + 4 * (four - 1)) test
  unfolding word_from
  word_turn b q =
      let a : at + 4 * four ≡ suc (suc (suc (suc (at + 4 * (four - 1))))) = omega arith in
      let n : 64 - 4 * (four - 1) ≡ suc (suc (suc (suc (64 - 4 * four)))) = omega arith in
      rw (n, e, q, a) (omega arith)

-- the bits of four cells in each plane
module _ (bytes : List ℕ) (at t : ℕ) (e : t ≡ packed_of bytes at) where
  pub packed_present : t % 16 ≡ word_from 4 at (is_present bytes)
  unfolding packed_of
  packed_present = omega (arith, word_lt (is_present bytes) 4 at)

  pub packed_refined : t / 16 ≡ word_from 4 at (refined bytes)
  unfolding packed_of
  packed_refined = omega (arith, word_lt (is_present bytes) 4 at)

  pub packed_small : t < 256
  unfolding packed_of
  packed_small = omega (arith, word_lt (is_present bytes) 4 at, word_lt (refined bytes) 4 at)
