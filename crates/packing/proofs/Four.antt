-- Four cells at a time: their bytes as one number, and out of it again. Assumes nothing.
use mathlib.Core.Path.{◌≡◌, ap, ap₂, ◌∙◌}
use mathlib.Core.List.{List, [], ◌∷◌}
use Prim.Native.Nat.{ℕ, ◌+◌, ◌*◌, ◌/◌, ◌%◌, ◌^◌, ◌≤◌, ◌<◌}
use native.Mathlib.Omega.{arith}
use lib.Dec.{T, eqb, eqb→eq}
use lib.ListN.{length, get_or, set}
use lib.Pow.{shr-shr}
use Rattle.facts.specs.Bounded.{every}
use Rattle.facts.specs.Mapped.{filled}
use Rattle.facts.proofs.Bounded.{every_e}
use Rattle.facts.proofs.Mapped.{fill_next}
use Rattle.planes.specs.Bits.{bit}
use Rattle.packing.specs.Packing.{word_byte, spread_of, Spreads}

abbrev table : List ℕ
table = 0 ∷ 1 ∷ 256 ∷ 257 ∷ 65536 ∷ 65537 ∷ 65792 ∷ 65793 ∷ 16777216 ∷ 16777217 ∷ 16777472 ∷ 16777473 ∷ 16842752 ∷ 16842753 ∷ 16843008 ∷ 16843009 ∷ []

tested : T (every 16 (λ n. eqb (get_or table n 0) (spread_of n)))
unfolding every spread_of
tested = tt

pub spreads : Spreads table
spreads n l = eqb→eq (get_or table n 0) (spread_of n) (every_e 16 (λ n. eqb (get_or table n 0) (spread_of n)) tested n l)

pub spread_small : (n : ℕ) → spread_of n ≤ 16843009
unfolding spread_of
spread_small n = omega arith

-- ---- one byte of the number

-- four small bits of 256
abbrev four : ℕ → ℕ → ℕ → ℕ → ℕ
four s t u v = s + (256 * t + (65536 * u + 16777216 * v))

module _ (s t u v : ℕ) (ls : s < 256) (lt : t < 256) (lu : u < 256) (lv : v < 256) where
  four_0 : four s t u v / 1 % 256 ≡ s
  four_0 = omega arith

  four_1 : four s t u v / 256 % 256 ≡ t
  four_1 = omega arith

  four_2 : four s t u v / 65536 % 256 ≡ u
  four_2 = omega arith

  four_3 : four s t u v / 16777216 % 256 ≡ v
  four_3 = omega arith

digit_1 : (a : ℕ) → a % 16 % 2 ≡ a % 2
digit_1 a = omega arith

digit_2 : (a : ℕ) → a % 16 / 2 % 2 ≡ a / 2 % 2
digit_2 a = omega arith

digit_4 : (a : ℕ) → a % 16 / 4 % 2 ≡ a / 4 % 2
digit_4 a = omega arith

digit_8 : (a : ℕ) → a % 16 / 8 % 2 ≡ a / 8 % 2
digit_8 a = omega arith

lowest : (a : ℕ) → spread_of (a % 16) ≡ four (a % 2) (a / 2 % 2) (a / 4 % 2) (a / 8 % 2)
unfolding spread_of
lowest a = rw (digit_1 a, digit_2 a, digit_4 a, digit_8 a)

sums : (s t u v s' t' u' v' : ℕ) → four s t u v + four s' t' u' v' ≡ four (s + s') (t + t') (u + u') (v + v')
sums s t u v s' t' u' v' = omega arith

two_small : (x y : ℕ) → x % 2 + y % 2 < 256
two_small x y = omega arith

module _ (a b z : ℕ) (e : z ≡ spread_of (a % 16) + spread_of (b % 16)) where
  abbrev at : ℕ → ℕ
  at d = a / d % 2 + b / d % 2

  whole : z ≡ four (a % 2 + b % 2) (at 2) (at 4) (at 8)
  whole = e ∙ (ap₂ (λ (x y : ℕ). x + y) (lowest a) (lowest b) ∙ sums (a % 2) (a / 2 % 2) (a / 4 % 2) (a / 8 % 2) (b % 2) (b / 2 % 2) (b / 4 % 2) (b / 8 % 2))

  pub byte_0 : z / 1 % 256 ≡ a % 2 + b % 2
  byte_0 = rw whole (four_0 _ (at 2) (at 4) (at 8) (two_small a b) (two_small (a / 2) (b / 2)) (two_small (a / 4) (b / 4)) (two_small (a / 8) (b / 8)))

  pub byte_1 : z / 256 % 256 ≡ at 2
  byte_1 = rw whole (four_1 _ (at 2) (at 4) (at 8) (two_small a b) (two_small (a / 2) (b / 2)) (two_small (a / 4) (b / 4)) (two_small (a / 8) (b / 8)))

  pub byte_2 : z / 65536 % 256 ≡ at 4
  byte_2 = rw whole (four_2 _ (at 2) (at 4) (at 8) (two_small a b) (two_small (a / 2) (b / 2)) (two_small (a / 4) (b / 4)) (two_small (a / 8) (b / 8)))

  pub byte_3 : z / 16777216 % 256 ≡ at 8
  byte_3 = rw whole (four_3 _ (at 2) (at 4) (at 8) (two_small a b) (two_small (a / 2) (b / 2)) (two_small (a / 4) (b / 4)) (two_small (a / 8) (b / 8)))

-- the bits of what is left of a word
module _ (P R at p r : ℕ) (eP : p ≡ P / 2 ^ at) (eR : r ≡ R / 2 ^ at) where
  pub digit_at : (k : ℕ) → p / 2 ^ k % 2 + r / 2 ^ k % 2 ≡ word_byte P R (at + k)
  unfolding word_byte bit
  digit_at k = ap₂ (λ (x y : ℕ). x % 2 + y % 2) (ap (λ (x : ℕ). x / 2 ^ k) eP ∙ shr-shr P at k) (ap (λ (x : ℕ). x / 2 ^ k) eR ∙ shr-shr R at k)

-- four stores
pub fill_four : (f : ℕ → ℕ) (n : ℕ) (xs ys : List ℕ) → ys ≡ filled 0 n f xs → (a b c d : ℕ) → n + 4 ≤ length xs → a ≡ f n → b ≡ f (n + 1) → c ≡ f (n + 2) → d ≡ f (n + 3)
    → set (set (set (set ys n a) (n + 1) b) (n + 2) c) (n + 3) d ≡ filled 0 (n + 4) f xs
fill_four f n xs ys e a b c d l ea eb ec ed =
    let two : n + 2 ≡ n + 1 + 1 = omega arith in
    let three : n + 3 ≡ n + 1 + 1 + 1 = omega arith in
    let last : n + 4 ≡ n + 1 + 1 + 1 + 1 = omega arith in
    let e1 = fill_next f n xs ys e a (omega arith) ea in
    let e2 = fill_next f (n + 1) xs (set ys n a) e1 b (omega arith) eb in
    let e3 = fill_next f (n + 1 + 1) xs (set (set ys n a) (n + 1) b) e2 c (omega arith) (ec ∙ ap f two) in
    rw (last, three, two) (fill_next f (n + 1 + 1 + 1) xs (set (set (set ys n a) (n + 1) b) (n + 1 + 1) c) e3 d (omega arith) (ed ∙ ap f three))
