-- What the contracts of the parts cite; the contracts that others see do not. Assumes nothing: these are definitions.
use Rattle.std.specs.Prelude.{◌≡◌, true, false, List, [], ◌∷◌, ℕ, ◌+◌, ◌≤◌, length, drop, Option, None, Some}
use Rattle.lines.specs.declared.Field.{Field}
use Rattle.lines.specs.Reading.{up_to, parts, number_of, all_numbers}

-- the parts after the first, of what is left of a text from the place where that ends
abbrev pub behind : ℕ → List (List ℕ) → List ℕ → List (List ℕ)
behind stop end [] = []
behind stop end (b ∷ s) = parts stop end s

abbrev pub fields_behind : List ℕ → List (List ℕ)
fields_behind s = behind 32 ([] ∷ []) s

-- how many fields there are, or none, where one is no number
abbrev pub Counted : List (List ℕ) → Option ℕ → Type 0
Counted fs None = all_numbers fs ≡ false
Counted fs (Some n) = (all_numbers fs ≡ true) × (n ≡ length fs)

-- the field after the space at a place of the line s
pub record ReadsField (s : List ℕ) (at : ℕ) (field : Field) : Type 0 where
  pub number : field.number ≡ number_of (up_to 32 (drop (at + 1) s))
  pub end : field.end ≡ at + 1 + length (up_to 32 (drop (at + 1) s))
  pub inside : field.end ≤ length s
