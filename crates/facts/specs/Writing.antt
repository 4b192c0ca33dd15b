-- A text written at a place of a buffer: bytes, or entries of another type. Definitions only.
use Rattle.std.specs.Prelude.{◌≡◌, List, ◌++◌, ℕ, ◌+◌, length, take, drop}

-- a buffer after a text is written at a place of it
unfoldable pub written_at : {A : Type 0} → List A → ℕ → List A → List A
written_at out at text = take at out ++ (text ++ drop (at + length text) out)

-- a buffer got a text at a place, and r is the place behind it
pub record Writes {A : Type 0} (old : List A) (at : ℕ) (text : List A) (r : ℕ) (new : List A) : Type 0 where
  pub end : r ≡ at + length text
  pub bytes : new ≡ written_at old at text
