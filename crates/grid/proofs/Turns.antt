-- What the loops over level 0 columns do in a turn, and that their numbers stay small. Assumes nothing.
use Prim.Native.Nat.{ℕ, zero, suc, max, ◌+◌, ◌-◌, ◌*◌, ◌/◌, ◌%◌, ◌^◌, ◌≤◌, ◌<◌}
use native.Mathlib.Nat.{mod-eq_of_lt, le_of_suc-le-suc, mod-lt, mod-one, div-add-mod', div-div-eq-div-mul, mul_comm, mul-le-mul_right, one-le-pow, pow-suc, zero-div}
use native.Mathlib.Numerals.{unary_clauses}
use lib.Arith.{digits_mod}
use lib.Pow.{pow_mono}
use lib.Count.{ones, ones_in, ones_cat}
use native.Mathlib.Omega.{arith}
use mathlib.Core.Bool.{Bool, true, false, ◌&&◌, cond}
use mathlib.Core.Path.{◌≡◌, refl, ap, sym, ◌∙◌}
use lib.Dec.{eqb, ltb}
use Rattle.grid.specs.Knots.{is_set, corners_to}
use Rattle.grid.specs.Side.{passed, before}

pub before_none : (bits e u j : ℕ) → j ≡ before bits e u 0 j
unfolding before
before_none bits e u j = refl

pub before_next : (bits e u c j : ℕ) → 1 ≤ c → passed e (c * u) (eqb (bits / 2 ^ c % 2) 1) (before bits e u (c - 1) j) ≡ before bits e u (c + 1 - 1) j
unfolding before is_set
before_next bits e u zero j l = absurd (omega arith)
before_next bits e u (suc c) j l = simp unary_clauses

-- without corners nothing is passed
pub before_plain : (e u c j : ℕ) → j ≡ before 0 e u c j
unfolding before is_set passed
before_plain e u zero j = refl
before_plain e u (suc c) j = rw (zero-div (2 ^ suc c)) (before_plain e u c j)

-- the cases of `passed`
module _ (e z : ℕ) (b : Bool) (l : ℕ) where
  pub passed_line : (b && ltb z l) ≡ true → max z (l - e) ≡ passed e z b l
  unfolding passed
  passed_line t = rw t refl

  pub passed_not : (b && ltb z l) ≡ false → l ≡ passed e z b l
  unfolding passed
  passed_not t = rw t refl

-- ---- corners are counted by ones: a number's digits from the second on, c of them

ones_bit : (n : ℕ) → n < 2 → ones n ≡ cond (eqb n 1) 1 0
unfolding ones ones_in
ones_bit zero l = refl
ones_bit (suc zero) l = refl
ones_bit (suc (suc n)) l = absurd (omega arith)

halves : (q x : ℕ) → q * x ≡ q / 2 * (x * 2) + q % 2 * x
halves q x = ap (λ (z : ℕ). z * x) (sym (div-add-mod' q 2)) ∙ out (q / 2) (q % 2)
  where
    out : (a m : ℕ) → (a * 2 + m) * x ≡ a * (x * 2) + m * x
    out a m = omega arith

digits_next : (b c : ℕ) → b % 2 ^ suc c ≡ b / 2 ^ c % 2 * 2 ^ c + b % 2 ^ c
digits_next b c =
    let two : 0 < 2 = omega arith in
    let r = mod-lt b (one-le-pow c 2 two) in
    let h = mod-lt (b / 2 ^ c) two in
    let p = halves (b / 2 ^ c) (2 ^ c) in
    let e : b ≡ b / 2 ^ c / 2 * (2 ^ c * 2) + (b / 2 ^ c % 2 * 2 ^ c + b % 2 ^ c) = omega (arith, div-add-mod' b (2 ^ c), p) in
    rw (pow-suc 2 c)
    (ap (λ (z : ℕ). z % (2 ^ c * 2)) e ∙ digits_mod (b / 2 ^ c / 2) (omega (arith, mul-le-mul_right (2 ^ c) h)))

pub ones_corners : (bits c : ℕ) → ones (bits / 2 % 2 ^ c) ≡ corners_to bits c
unfolding corners_to is_set ones ones_in
ones_corners bits zero = ap ones (mod-one (bits / 2))
ones_corners bits (suc c) =
    let q : bits / 2 / 2 ^ c ≡ bits / 2 ^ suc c = div-div-eq-div-mul bits 2 (2 ^ c) ∙ ap (λ (z : ℕ). bits / z) (mul_comm 2 (2 ^ c) ∙ sym (pow-suc 2 c)) in
    rw (digits_next (bits / 2) c)
    (ones_cat c (bits / 2 / 2 ^ c % 2) (bits / 2 % 2 ^ c) (mod-lt (bits / 2) (one-le-pow c 2 (omega arith)))
    ∙ (rw (ones_bit (bits / 2 / 2 ^ c % 2) (mod-lt _ (omega arith)), q, ones_corners bits c) (omega arith)))

-- so a shift loses no bit
pub power : (c : ℕ) → c < 32 → (1 * 2 ^ c) % 2 ^ 32 ≡ 2 ^ c
power c l = let e : 1 * 2 ^ c ≡ 2 ^ c = omega arith in rw e (mod-eq_of_lt (omega (arith, pow_mono {j = 31} (le_of_suc-le-suc l))))
