-- Four cells at a time: the table of their bits, by their number among 81. Assumes nothing.
use mathlib.Core.Path.{◌≡◌}
use mathlib.Core.Bool.{Bool}
use mathlib.Core.List.{List, [], ◌∷◌}
use Prim.Native.Nat.{ℕ, suc, ◌+◌, ◌≤◌}
use native.Mathlib.Numerals.{add-one}
use native.Mathlib.Omega.{arith}
use lib.Dec.{T, eqb, eqb→eq}
use lib.ListN.{get_or}
use Rattle.facts.specs.Bounded.{every}
use Rattle.facts.proofs.Bounded.{every_e}
use Rattle.mesh.specs.Mesh.{absent, refined}
use Rattle.planes.specs.Bits.{word_from, is_present}
use Rattle.packing.specs.Packing.{number_of, packed_of, Packs}

-- a test of four bytes, on all that are at most 2
abbrev Test : Type 0
Test = ℕ → ℕ → ℕ → ℕ → Bool

abbrev passes : Test → Bool
passes test = every 3 (λ a. every 3 (λ b. every 3 (λ c. every 3 (test a b c))))

each : (test : Test) → T (passes test) → (a b c d : ℕ) → a ≤ 2 → b ≤ 2 → c ≤ 2 → d ≤ 2 → T (test a b c d)
each test t a b c d la lb lc ld =
    let ta = every_e 3 (λ a. every 3 (λ b. every 3 (λ c. every 3 (test a b c)))) t a (omega arith) in
    let tb = every_e 3 (λ b. every 3 (λ c. every 3 (test a b c))) ta b (omega arith) in
    let tc = every_e 3 (λ c. every 3 (test a b c)) tb c (omega arith) in
    every_e 3 (test a b c) tc d (omega arith)

-- ---- the table

abbrev table : List ℕ
table = 0 ∷ 1 ∷ 17 ∷ 2 ∷ 3 ∷ 19 ∷ 34 ∷ 35 ∷ 51 ∷ 4 ∷ 5 ∷ 21 ∷ 6 ∷ 7 ∷ 23 ∷ 38 ∷ 39 ∷ 55 ∷ 68 ∷ 69 ∷ 85 ∷ 70 ∷ 71 ∷ 87 ∷ 102 ∷ 103 ∷ 119 ∷ 8 ∷ 9 ∷ 25 ∷ 10 ∷ 11 ∷ 27 ∷ 42 ∷ 43 ∷ 59 ∷ 12 ∷ 13 ∷ 29 ∷ 14 ∷ 15 ∷ 31 ∷ 46 ∷ 47 ∷ 63 ∷ 76 ∷ 77 ∷ 93 ∷ 78 ∷ 79 ∷ 95 ∷ 110 ∷ 111 ∷ 127 ∷ 136 ∷ 137 ∷ 153 ∷ 138 ∷ 139 ∷ 155 ∷ 170 ∷ 171 ∷ 187 ∷ 140 ∷ 141 ∷ 157 ∷ 142 ∷ 143 ∷ 159 ∷ 174 ∷ 175 ∷ 191 ∷ 204 ∷ 205 ∷ 221 ∷ 206 ∷ 207 ∷ 223 ∷ 238 ∷ 239 ∷ 255 ∷ []

abbrev packed : Test
packed a b c d = eqb (get_or table (number_of (a ∷ b ∷ c ∷ d ∷ []) 0) 0) (packed_of (a ∷ b ∷ c ∷ d ∷ []) 0)

all_packed : T (passes packed)
unfolding every packed_of word_from is_present absent refined
all_packed = tt

pub packs : Packs table
unfolding packed_of word_from is_present absent refined
packs bytes at small =
    let two : at + 2 ≡ suc (suc at) = omega arith in
    let three : at + 3 ≡ suc (suc (suc at)) = omega arith in
    rw (add-one at, two, three) (eqb→eq _ _ (each packed all_packed (get_or bytes at 0) (get_or bytes (suc at) 0) (get_or bytes (suc (suc at)) 0) (get_or bytes (suc (suc (suc at))) 0) (small _) (small _) (small _) (small _)))
