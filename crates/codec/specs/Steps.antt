-- What the contracts of the reader cite. Definitions only.
use Rattle.std.specs.Prelude.{◌≡◌, List, ℕ, ◌≤◌, ◌<◌, length, get_or, drop, Option, None, Some}
use Rattle.codec.specs.Fitting.{number_limit}
use Rattle.codec.specs.Numbers.{bad, got, decode_number, bad_many, got_many, decode_numbers}

-- x is the byte at a place of s
pub record ByteAt (s : List ℕ) (at x : ℕ) : Type 0 where
  pub is : x ≡ get_or s at 0
  pub inside : at < length s
  pub small : x < 256

-- a number that stands in the bytes s from a place up to another
pub record Found (s : List ℕ) (at n to : ℕ) : Type 0 where
  pub reads : decode_number (drop at s) ≡ got n (drop to s)
  pub inside : to ≤ length s
  pub small : n < number_limit

-- what is read at a place of s
abbrev pub ReadsAt : List ℕ → ℕ → Option (ℕ × ℕ) → Type 0
ReadsAt s at None = decode_number (drop at s) ≡ bad
ReadsAt s at (Some r) = Found s at r.0 r.1

-- numbers that stand in the bytes s from a place up to another
pub record AllFound (s : List ℕ) (at : ℕ) (ns : List ℕ) (to : ℕ) : Type 0 where
  pub reads : decode_numbers (length ns) (drop at s) ≡ got_many ns (drop to s)
  pub inside : to ≤ length s

-- what is read at a place of s into a list of that length
abbrev pub ReadsAll : List ℕ → ℕ → List ℕ → Option ℕ → Type 0
ReadsAll s at ns None = decode_numbers (length ns) (drop at s) ≡ bad_many
ReadsAll s at ns (Some to) = AllFound s at ns to
