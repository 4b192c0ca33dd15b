-- What a session prints. Every place named here is in document 01, "The session program".
-- Assumes nothing: these are definitions.
use Rattle.std.specs.Prelude.{◌≡◌, Bool, cond, List, [], ◌∷◌, ◌++◌, ℕ, zero, suc, ◌+◌, ◌*◌, ◌/◌, ◌%◌, length, drop, ltb}
use Rattle.lines.specs.Text.{bytes, Counts}

-- the last k digits of a number, without leading zeros; 48 is the code of 0
unfoldable pub last_digits : ℕ → ℕ → List ℕ
last_digits zero n = []
last_digits (suc k) n = cond (ltb n 10) ((48 + n) ∷ []) (last_digits k (n / 10) ++ ((48 + n % 10) ∷ []))

-- a number in decimal: one of 32 bits has no more than ten digits
unfoldable pub digits : ℕ → List ℕ
digits n = last_digits 10 n

-- "list items parted by spaces": the items after the first, each after a space
unfoldable pub spaced : List ℕ → List ℕ
spaced [] = []
spaced (n ∷ ns) = 32 ∷ digits n ++ spaced ns

-- all the items of a list
unfoldable pub items : List ℕ → List ℕ
items [] = []
items (n ∷ ns) = digits n ++ spaced ns

-- "the answer number, cell list and function list, parted by semicolons", which are 59, and a line feed
unfoldable pub answer : ℕ → List ℕ → List ℕ → List ℕ
answer n cells functions = digits n ++ (59 ∷ items cells ++ (59 ∷ items functions ++ (10 ∷ [])))

-- "prints `?`"
abbrev pub question : List ℕ
question = bytes "?\n"

-- "prints `large`"
abbrev pub large : List ℕ
large = bytes "large\n"

-- room for ten digits and a parting byte for each item and for the number, and for the two other parting bytes
abbrev pub answer_room : ℕ → ℕ → ℕ
answer_room cells functions = 11 * (cells + functions) + 13

-- a text at the start of a buffer, and its length; or, where there is no room, the buffer as it was, and 0
pub record Prints (room : Bool) (old text : List ℕ) (r : ℕ) (new : List ℕ) : Type 0 where
  pub count : r ≡ cond room (length text) 0
  pub bytes : new ≡ cond room (text ++ drop (length text) old) old
  -- follows, and is what a caller that lends the text on is asked
  pub inside : Counts r new
