-- Numbers and their bytes, computed. Assumes nothing.
use mathlib.Core.Path.{◌≡◌, refl}
use mathlib.Core.List.{List, [], ◌∷◌, map}
use Prim.Native.Nat.{ℕ}
use Rattle.codec.specs.Numbers.{bad, got, encode_groups, encode_number, above, decode_groups, decode_number}

abbrev numbers : List ℕ
numbers = 0 ∷ 127 ∷ 128 ∷ 300 ∷ 16383 ∷ 16384 ∷ 2097151 ∷ []

-- as bytes
abbrev forms : List (List ℕ)
forms =
    (0 ∷ [])
    ∷ (127 ∷ [])
    ∷ (128 ∷ 1 ∷ [])
    ∷ (172 ∷ 2 ∷ [])
    ∷ (255 ∷ 127 ∷ [])
    ∷ (128 ∷ 128 ∷ 1 ∷ [])
    ∷ (255 ∷ 255 ∷ 127 ∷ [])
    ∷ []

-- bytes that are no number
abbrev others : List (List ℕ)
others =
    -- not shortest
    (128 ∷ 0 ∷ [])
    ∷ (255 ∷ 128 ∷ 0 ∷ [])
    -- cut off
    ∷ []
    ∷ (128 ∷ [])
    ∷ (255 ∷ 255 ∷ [])
    -- more than three groups
    ∷ (128 ∷ 128 ∷ 128 ∷ 1 ∷ [])
    ∷ (255 ∷ 255 ∷ 255 ∷ 0 ∷ [])
    -- no byte
    ∷ (256 ∷ 1 ∷ [])
    ∷ []

pub worked : (map encode_number numbers ≡ forms) × (map decode_number forms ≡ map (λ n. got n []) numbers) × (map decode_number others ≡ map (λ s. bad) others)
unfolding encode_groups encode_number above decode_groups decode_number
worked = (refl, refl, refl)
