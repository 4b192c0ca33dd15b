-- What is left to be done between two lines of a session, and what the whole program prints. Definitions only.
use Rattle.std.specs.Prelude.{◌≡◌, List, ℕ, ◌≤◌, length, take, drop}
use Rattle.lines.specs.Reading.{lines_of}
use Rattle.script.specs.Session.{State, replies_from, replies, session}
use Rattle.script.specs.Bounds.{input_bytes}

-- n lines are answered, and the next starts at a place of the input, with s in hand: what is left to be printed is what the lines from
-- there on print
pub record Left (input : List ℕ) (n at : ℕ) (s : State) : Type 0 where
  pub answered : n ≤ length (replies input)
  pub left : drop n (replies input) ≡ replies_from s (lines_of (drop at input))

-- what the program prints on an input: the session of its first 16,384 bytes, or of all of it
abbrev pub printed_of : List ℕ → List ℕ
printed_of input = session (take input_bytes input)
