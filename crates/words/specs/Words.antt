-- What loops over whole words find. Definitions only.
use Rattle.std.specs.Prelude.{Bool, List, ℕ, eqb, ltb, get_or}
use Rattle.std.specs.Int.Bits.{bit_and}

-- word w of the refined cells has no bit that the word of the present ones does not have
unfoldable pub word_within : List ℕ → List ℕ → ℕ → Bool
word_within present refined w = eqb (bit_and (get_or refined w 0) (get_or present w 0)) (get_or refined w 0)

-- the first numbers
unfoldable pub below : ℕ → ℕ → Bool
below first c = ltb c first
