-- Heights as words of 32 bits with a sign: what fits, and what a read leaves. Assumes nothing.
use mathlib.Core.Path.{◌≡◌, refl, ap₂}
use Prim.Native.Nat.{ℕ, ◌+◌, ◌*◌, ◌≤◌}
use native.Mathlib.Nat.{le_trans, le-suc, le_of_eq, lt_of_le_of_lt}
use native.Mathlib.Omega.{arith}
use lib.Dec.{lit<, lit≤}
use lib.IntN.{ℤ, pos, negsuc, nat_abs, ◌+ℤ◌, ◌*ℤ◌}
use lib.Signed.{mag}
use mir.Syntax.{w32}
use mir.Val.{SFits, to_z, of_z}
use mir.ValLaws.{to_z-of_z}
use Rattle.exact.proofs.Dyadic.{abs_mul}
use Rattle.exact.proofs.Sums.{abs_add}
use Rattle.carry.specs.Steps.{most}

mag_le : (z : ℤ) → mag z ≤ nat_abs z
mag_le (pos n) = le_of_eq refl
mag_le (negsuc n) = le-suc n

pub fits : (z : ℤ) → nat_abs z ≤ most → SFits w32 z
fits z l = record { sfits = lt_of_le_of_lt (le_trans (mag_le z) l) (lit< tt) }

-- a height as a read leaves it
pub read_small : (z : ℤ) → nat_abs z ≤ most → to_z w32 (of_z w32 z) ≡ z
read_small z l = to_z-of_z w32 z (fits z l)

-- a height times a few quarters, both words
pub product : (h : ℤ) (n : ℕ) → SFits w32 h → n ≤ 4 → to_z w32 (of_z w32 h) *ℤ to_z w32 n ≡ h *ℤ pos n
product h n f l = ap₂ ◌*ℤ◌ (to_z-of_z w32 h f) (read_small (pos n) (le_trans l (lit≤ tt)))

pub product_small : (h : ℤ) (n : ℕ) → nat_abs h * n ≤ most → nat_abs (h *ℤ pos n) ≤ most
product_small h n l = le_trans (le_of_eq (abs_mul h (pos n))) l

-- a height and so many quarters of another
pub sum_small : (y h : ℤ) (n : ℕ) → nat_abs y + nat_abs h * n ≤ most → nat_abs (y +ℤ h *ℤ pos n) ≤ most
sum_small y h n l = le_trans (abs_add y (h *ℤ pos n)) (omega (arith, abs_mul h (pos n)))

-- two words and their sum
pub add_read : (y z : ℤ) → nat_abs y ≤ most → nat_abs z ≤ most → nat_abs (y +ℤ z) ≤ most → to_z w32 (of_z w32 (to_z w32 (of_z w32 y) +ℤ to_z w32 (of_z w32 z))) ≡ y +ℤ z
add_read y z k l m = rw (read_small y k, read_small z l) (read_small (y +ℤ z) m)
