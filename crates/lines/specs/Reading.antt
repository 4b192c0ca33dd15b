-- What the bytes of a session's input mean. Every place named here is in document 01, "The session program", or document 02, Req 05.
-- Assumes nothing: these are definitions.
use Rattle.std.specs.Prelude.{◌≡◌, Bool, true, false, cond, ◌&&◌, ◌||◌, List, [], ◌∷◌, ◌++◌, map, ℕ, ◌+◌, ◌-◌, ◌*◌, ◌^◌, ◌≤◌, ◌<◌, length, take, drop, eqb, leb, ltb, Option, None, Some}
use Rattle.lines.specs.Text.{bytes, Counts}
use Rattle.lines.specs.declared.Kind.{Kind}
use Rattle.lines.specs.declared.Kind.TheVariants.{Unreadable, Wall, Split, Join, SplitFunctions, JoinFunctions}
use Rattle.lines.specs.declared.Line.{Line}

-- ---- parts of a text

-- the bytes before the first that is `stop`, or all of them
unfoldable pub up_to : ℕ → List ℕ → List ℕ
up_to stop [] = []
up_to stop (b ∷ s) = cond (eqb b stop) [] (b ∷ up_to stop s)

-- a byte in front of the first part
abbrev pub onto : ℕ → List (List ℕ) → List (List ℕ)
onto b [] = (b ∷ []) ∷ []
onto b (p ∷ ps) = (b ∷ p) ∷ ps

-- a text cut at each `stop`; `end` is what a text that ends there gives
unfoldable pub parts : ℕ → List (List ℕ) → List ℕ → List (List ℕ)
parts stop end [] = end
parts stop end (b ∷ s) = cond (eqb b stop) ([] ∷ parts stop end s) (onto b (parts stop end s))

-- "Lines end in a line feed, which the last may lack": what stands after the last line feed is a line, unless nothing does
abbrev pub lines_of : List ℕ → List (List ℕ)
lines_of s = parts 10 [] s

-- "one space apart": two spaces have an empty field between them, and a space at the end has one after it
abbrev pub fields_of : List ℕ → List (List ℕ)
fields_of s = parts 32 ([] ∷ []) s

-- ---- "decimal numbers (leading zeros allowed)", none "above 32 bits"

-- from the code of 0 to that of 9
unfoldable pub is_digit : ℕ → Bool
is_digit b = leb 48 b && leb b 57

-- every byte is a digit
unfoldable pub all_digits : List ℕ → Bool
all_digits [] = true
all_digits (b ∷ s) = is_digit b && all_digits s

-- the value of the digits s that stand after digits of value n
unfoldable pub value_after : ℕ → List ℕ → ℕ
value_after n [] = n
value_after n (b ∷ s) = value_after (n * 10 + (b - 48)) s

-- the value of a text of digits
abbrev pub value_of : List ℕ → ℕ
value_of s = value_after 0 s

-- at least one digit, nothing else, and a value of 32 bits
unfoldable pub is_number : List ℕ → Bool
is_number [] = false
is_number (b ∷ s) = all_digits (b ∷ s) && ltb (value_of (b ∷ s)) (2 ^ 32)

-- a field as a number
abbrev pub number_of : List ℕ → Option ℕ
number_of s = cond (is_number s) (Some (value_of s)) None

-- every field is a number
unfoldable pub all_numbers : List (List ℕ) → Bool
all_numbers [] = true
all_numbers (f ∷ fs) = is_number f && all_numbers fs

-- ---- "Each line is a word and decimal numbers"

-- two texts, byte by byte
unfoldable pub same : List ℕ → List ℕ → Bool
same [] [] = true
same [] (b ∷ t) = false
same (a ∷ s) [] = false
same (a ∷ s) (b ∷ t) = eqb a b && same s t

-- "`wall` .., `split`, `join`, `fsplit`, `fjoin`", and any other word is unreadable
unfoldable pub kind_of : List ℕ → Kind
kind_of w =
    cond (same w (bytes "wall")) Wall
    (cond (same w (bytes "split")) Split
    (cond (same w (bytes "join")) Join
    (cond (same w (bytes "fsplit")) SplitFunctions
    (cond (same w (bytes "fjoin")) JoinFunctions Unreadable))))

-- "`wall` with the plan", six numbers, or eight: Req 05, "edges across and up .. a `wall` line may end in them", in both or neither;
-- the others "with up to 64 marks"
abbrev pub fits : Kind → ℕ → Bool
fits Unreadable n = false
fits Wall n = eqb n 6 || eqb n 8
fits Split n = leb n 64
fits Join n = leb n 64
fits SplitFunctions n = leb n 64
fits JoinFunctions n = leb n 64

-- what a line asks for, and its numbers
pub record Meaning : Type 0 where
  pub kind : Kind
  pub numbers : List ℕ

-- "a line it cannot read"
abbrev pub no_meaning : Meaning
no_meaning = record { kind = Unreadable; numbers = [] }

-- of the fields of a line
unfoldable pub meaning_of : List (List ℕ) → Meaning
meaning_of [] = no_meaning
meaning_of (w ∷ fs) =
    cond (fits (kind_of w) (length fs) && all_numbers fs) (record { kind = kind_of w; numbers = map value_of fs }) no_meaning

-- what a line, without its line feed, means
abbrev pub meaning : List ℕ → Meaning
meaning s = meaning_of (fields_of s)

-- r is where the line that starts at a place of the input s ends; the other lines start after r
pub record EndsLine (s : List ℕ) (from r : ℕ) : Type 0 where
  pub place : r ≡ from + length (up_to 10 (drop from s))
  pub inside : from ≤ length s → r ≤ length s
  pub line : from < length s → lines_of (drop from s) ≡ take (r - from) (drop from s) ∷ lines_of (drop (r + 1) s)

-- what a line means to a reader with room for so many numbers: nothing where marks might not find room
abbrev pub meaning_in : ℕ → List ℕ → Meaning
meaning_in room s = cond (leb 64 room) (meaning s) no_meaning

-- the line s read into a buffer: its kind, how many numbers it has, and these at the start of the buffer, whose rest keeps its values
pub record Reads (s old : List ℕ) (line : Line) (new : List ℕ) : Type 0 where
  pub kind : line.kind ≡ (meaning_in (length old) s).kind
  pub count : line.count ≡ length (meaning_in (length old) s).numbers
  pub buffer : new ≡ (meaning_in (length old) s).numbers ++ drop (length (meaning_in (length old) s).numbers) old
  -- follows, and is what a caller that lends the numbers on is asked
  pub inside : Counts line.count new
