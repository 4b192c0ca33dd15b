-- How far two floats are apart, exactly: no float is subtracted. Definitions only.
use Rattle.std.specs.Prelude.{◌≡◌, Bool, ◌&&◌, ℕ, ◌*◌, ◌<◌, leb, ltb, ℤ, pos, nat_abs, ◌-ℤ◌, ◌*ℤ◌, Float}
use Rattle.std.specs.Float.{nan, inf, fin}
use Rattle.std.specs.Float.Ieee.{up, down}
use Rattle.exact.specs.Dyadic.{signed}

-- a float's value is the one over the other, which is 0 where it is no number
unfoldable pub numerator : Float → ℤ
numerator (fin t m e) = signed t (m * up e)
numerator nan = pos 0
numerator (inf t) = pos 0

unfoldable pub denominator : Float → ℕ
denominator (fin t m e) = down e
denominator nan = 0
denominator (inf t) = 0

-- y less x, over `shared x y`
unfoldable pub shared : Float → Float → ℕ
shared x y = denominator x * denominator y

unfoldable pub difference : Float → Float → ℤ
difference x y = numerator y *ℤ pos (denominator x) -ℤ numerator x *ℤ pos (denominator y)

-- x and y are numbers, and at most n / c apart
unfoldable pub within : Float → Float → ℕ → ℕ → Bool
within x y n c = ltb 0 (shared x y) && leb (nat_abs (difference x y) * c) (n * shared x y)

-- x and y are numbers, and y lies z / c above x: below it, where z is negative
pub record Above (x y : Float) (z : ℤ) (c : ℕ) : Type 0 where
  pub numbers : 0 < shared x y
  pub is : difference x y *ℤ pos c ≡ z *ℤ pos (shared x y)
