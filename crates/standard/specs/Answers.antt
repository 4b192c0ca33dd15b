-- What the session program hands to standard output: which answer is due when, and when all are handed over. Definitions only.
use Rattle.std.specs.Prelude.{◌≡◌, List, [], ℕ, ◌<◌, length, get_or, take}
use Rattle.script.specs.Session.{replies, joined, session}

-- the text is what the n-th line of the input prints, counted from 0: in order, these are all that `session` says is printed
pub record Due (input : List ℕ) (n : ℕ) (text : List ℕ) : Type 0 where
  pub place : n < length (replies input)
  pub printed : get_or (replies input) n [] ≡ text

-- a line of some input prints the text
pub record IsReply (text : List ℕ) : Type 0 where
  pub input : List ℕ
  pub n : ℕ
  pub due : Due input n text

-- what the first n lines of the input print
abbrev pub printed : List ℕ → ℕ → List ℕ
printed input n = joined (take n (replies input))

-- n answers are all, and together they are the whole session
pub record AllHanded (input : List ℕ) (n : ℕ) : Type 0 where
  pub count : n ≡ length (replies input)
  pub bytes : printed input n ≡ session input
