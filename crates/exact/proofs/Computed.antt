-- Floats computed from their definition, and written as bits. Assumes nothing.
use mathlib.Core.List.{[], ◌∷◌}
use mathlib.Core.Path.{◌≡◌, refl}
use mathlib.Core.Bool.{true, false}
use lib.IntN.{pos, negsuc}
use lib.Ieee.{nan, inf, odd, of_bits, binary64}
use Rattle.exact.specs.Dyadic.{over, dyadic}
use Rattle.exact.specs.Distance.{numerator, denominator, shared, difference, within}

pub worked :
    -- 1, 0 and 0/32, 5/2, -3/8, 2^-26, the largest whole number of 53 bits
    dyadic 0 (pos 1)
    ∷ dyadic 0 (pos 0)
    ∷ dyadic 5 (pos 0)
    ∷ dyadic 1 (pos 5)
    ∷ dyadic 3 (negsuc 2)
    ∷ dyadic 26 (pos 1)
    ∷ dyadic 0 (pos 9007199254740991)
    ∷ []
    ≡ of_bits binary64 0x3ff0_0000_0000_0000
    ∷ of_bits binary64 0
    ∷ of_bits binary64 0
    ∷ of_bits binary64 0x4004_0000_0000_0000
    ∷ of_bits binary64 0xbfd8_0000_0000_0000
    ∷ of_bits binary64 0x3e50_0000_0000_0000
    ∷ of_bits binary64 0x433f_ffff_ffff_ffff
    ∷ []
unfolding odd of_bits over dyadic
worked = refl

-- 9/4 less 3/2, over 8, and 3/2 less 9/4
pub differences :
    difference (dyadic 1 (pos 3)) (dyadic 2 (pos 9))
    ∷ difference (dyadic 2 (pos 9)) (dyadic 1 (pos 3))
    ∷ pos (shared (dyadic 1 (pos 3)) (dyadic 2 (pos 9)))
    ∷ []
    ≡ pos 6 ∷ negsuc 5 ∷ pos 8 ∷ []
unfolding odd over dyadic numerator denominator shared difference
differences = refl

-- how far floats are apart: 3/2 and 9/4 by 3/4 and no less, in both orders; -3/8 and 5/8 by 1; 2^-26 and 0; what is no number by nothing
pub distances :
    within (dyadic 1 (pos 3)) (dyadic 2 (pos 9)) 3 4
    ∷ within (dyadic 1 (pos 3)) (dyadic 2 (pos 9)) 6 8
    ∷ within (dyadic 1 (pos 3)) (dyadic 2 (pos 9)) 5 8
    ∷ within (dyadic 2 (pos 9)) (dyadic 1 (pos 3)) 3 4
    ∷ within (dyadic 2 (pos 9)) (dyadic 1 (pos 3)) 2 3
    ∷ within (dyadic 3 (negsuc 2)) (dyadic 3 (pos 5)) 1 1
    ∷ within (dyadic 3 (negsuc 2)) (dyadic 3 (pos 5)) 15 16
    ∷ within (dyadic 26 (pos 1)) (dyadic 0 (pos 0)) 0 1
    ∷ within (dyadic 4 (pos 7)) (dyadic 4 (pos 7)) 0 1
    ∷ within nan nan 1 1
    ∷ within (inf false) (dyadic 0 (pos 1)) 1 1
    ∷ []
    ≡ true ∷ true ∷ false ∷ true ∷ false ∷ true ∷ false ∷ false ∷ true ∷ false ∷ false ∷ []
unfolding odd over dyadic numerator denominator shared difference within
distances = refl
