-- Planes of a mesh just opened. Assumes nothing.
use mathlib.Core.Path.{◌≡◌, refl, sym, ap, ◌∙◌}
use mathlib.Core.Bool.{Bool, cond}
use Prim.Native.Nat.{ℕ, zero, suc, ◌+◌, ◌-◌, ◌*◌, ◌/◌, ◌%◌, ◌^◌, ◌≤◌, ◌<◌}
use native.Mathlib.Nat.{pow-suc, mod-eq_of_lt}
use native.Mathlib.Omega.{arith}
use lib.Dec.{ltb, ltb→lt, lt→ltb}
use Rattle.facts.proofs.Tests.{same}
use lib.Pow.{pow-lt, pow_pos}
use borrow.Author.Tests.{lt-ltb, le-ltb}
use Rattle.planes.specs.Bits.{bit, word_from}
use Rattle.words.specs.Words.{below}
use Rattle.planes.proofs.Bits.{bit_first, bit_next, bit_of_zero, word_is}

less : (k m : ℕ) → ltb k m ≡ ltb (suc k) (suc m)
less k m = same (ltb k m) (ltb (suc k) (suc m)) (λ t. lt→ltb (suc k) (suc m) (omega (arith, ltb→lt k m t))) (λ t. lt→ltb k m (omega (arith, ltb→lt (suc k) (suc m) t)))

-- the digits of a word of m ones
ones_digit : (m k : ℕ) → bit (2 ^ m - 1) k ≡ cond (ltb k m) 1 0
ones_digit zero k = bit_of_zero k ∙ rw (le-ltb k 0 (omega arith)) refl
ones_digit (suc m) zero = bit_first (2 ^ suc m - 1) ∙ rw (lt-ltb 0 (suc m) (omega arith)) (omega (arith, pow-suc 2 m, pow_pos m))
ones_digit (suc m) (suc k) =
    let e : (2 ^ suc m - 1) / 2 ≡ 2 ^ m - 1 = omega (arith, pow-suc 2 m, pow_pos m) in
    bit_next (2 ^ suc m - 1) k ∙ rw e (ones_digit m k ∙ ap (λ (b : Bool). cond b 1 0) (less k m))

-- ---- a word of the first numbers

-- a shift loses no bit
shift : (m : ℕ) → m < 64 → (1 * 2 ^ m) % 2 ^ 64 ≡ 2 ^ m
shift m l = ap (λ (z : ℕ). z % 2 ^ 64) (omega arith) ∙ mod-eq_of_lt (pow-lt l)

pub shift_some : (m : ℕ) → m < 64 → 1 ≤ (1 * 2 ^ m) % 2 ^ 64
shift_some m l = rw (shift m l) (pow_pos m)

module _ (first at : ℕ) where
  shifted : (k : ℕ) → ltb (at + k) first ≡ ltb k (first - at)
  shifted k = same (ltb (at + k) first) (ltb k (first - at)) (λ t. lt→ltb k (first - at) (omega (arith, ltb→lt (at + k) first t))) (λ t. lt→ltb (at + k) first (omega (arith, ltb→lt k (first - at) t)))

  pub word_none : first ≤ at → 0 ≡ word_from 64 at (below first)
  unfolding below
  word_none l = sym (word_is (below first) 64 at 0 (omega arith) (λ k i. rw (le-ltb (at + k) first (omega arith)) (sym (bit_of_zero k))))

  pub word_full : 64 ≤ first - at → 0xffff_ffff_ffff_ffff ≡ word_from 64 at (below first)
  unfolding below
  word_full l = sym (word_is (below first) 64 at (2 ^ 64 - 1) (omega arith) (λ k i. rw (lt-ltb (at + k) first (omega arith)) (sym (ones_digit 64 k ∙ rw (lt-ltb k 64 i) refl))))

  pub word_part : first - at < 64 → (1 * 2 ^ (first - at)) % 2 ^ 64 - 1 ≡ word_from 64 at (below first)
  unfolding below
  word_part m =
      let s : 2 ^ (first - at) < 2 ^ 64 = pow-lt m in
      rw (shift (first - at) m) (sym (word_is (below first) 64 at (2 ^ (first - at) - 1) (omega arith) (λ k i.
      ap (λ (b : Bool). cond b 1 0) (shifted k) ∙ sym (ones_digit (first - at) k))))
