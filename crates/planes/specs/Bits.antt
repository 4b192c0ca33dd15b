-- Document 02, Req 11: two planes of bits in 64-bit words, "present and split, cell number as bit number (lowest bit first), spare bits zero".
-- What planes hold, what holds a table, and which planes are in order. Definitions only.
use Rattle.std.specs.Prelude.{Bool, not, ◌&&◌, cond, List, ◌≡◌, ℕ, zero, suc, ◌+◌, ◌-◌, ◌*◌, ◌/◌, ◌%◌, ◌^◌, ◌<◌, T, leb, length, get_or}
use Rattle.std.specs.Int.Bits.{bit_and}
use Rattle.std.specs.Int.Count.{ones}
use Rattle.facts.specs.Bounded.{implies, every}
use Rattle.facts.specs.Ranges.{every_from}
use Rattle.facts.specs.Numbers.{tabulate}
use Rattle.grid.specs.Knots.{is_set}
use Rattle.mesh.specs.Mesh.{absent, refined}

-- bit k of a number, the lowest first
unfoldable pub bit : ℕ → ℕ → ℕ
bit x k = x / 2 ^ k % 2

-- a plane has cell c where its bit is set; past the plane's end it has none
unfoldable pub in_plane : List ℕ → ℕ → Bool
in_plane plane c = is_set (get_or plane (c / 64) 0) (c % 64)

-- "T/64 words, rounded up"
unfoldable pub words_for : ℕ → ℕ
words_for n = (n + 63) / 64

-- the plane's numbers are 64-bit words
abbrev pub Words : List ℕ → Type 0
Words plane = (w : ℕ) → get_or plane w 0 < 2 ^ 64

-- ---- the bytes that two planes hold: 0 absent, 1 where present, 2 where present and refined

unfoldable pub byte_of : List ℕ → List ℕ → ℕ → ℕ
byte_of present refined c = cond (in_plane present c) (cond (in_plane refined c) 2 1) 0

-- as a cell table of n bytes
unfoldable pub bytes_of : ℕ → List ℕ → List ℕ → List ℕ
bytes_of n present refined = tabulate n (byte_of present refined)

-- ---- the planes of a cell table

-- n bits, the lowest first: whether `at` passes, `at` + 1, ..
unfoldable pub word_from : ℕ → ℕ → (ℕ → Bool) → ℕ
word_from zero at test = 0
word_from (suc n) at test = cond (test at) 1 0 + 2 * word_from n (suc at) test

-- word w of a plane, and so many of them
unfoldable pub word_at : (ℕ → Bool) → ℕ → ℕ
word_at test w = word_from 64 (64 * w) test

unfoldable pub plane_of : ℕ → (ℕ → Bool) → List ℕ
plane_of words test = tabulate words (word_at test)

unfoldable pub is_present : List ℕ → ℕ → Bool
is_present cells c = not (absent cells c)

-- past the table's end no cell is present, so no spare bit is set
unfoldable pub present_of : List ℕ → List ℕ
present_of cells = plane_of (words_for (length cells)) (is_present cells)

unfoldable pub refined_of : List ℕ → List ℕ
refined_of cells = plane_of (words_for (length cells)) (refined cells)

-- the bytes that planes can hold are 0, 1 and 2
unfoldable pub small_at : List ℕ → ℕ → Bool
small_at cells c = leb (get_or cells c 0) 2

unfoldable pub are_small : List ℕ → Bool
are_small cells = every (length cells) (small_at cells)

-- ---- planes of n cells that are in order, where each has as many words as it should

-- "spare bits zero": those from n on, to the end of the last word
unfoldable pub no_spare : ℕ → List ℕ → Bool
no_spare n plane = every_from n (64 * words_for n - n) (λ c. not (in_plane plane c))

-- no "split cell not present"
unfoldable pub within : ℕ → List ℕ → List ℕ → Bool
within n present refined = every n (λ c. implies (in_plane refined c) (in_plane present c))

-- as far as the planes go, and not only of n cells
abbrev pub Within : List ℕ → List ℕ → Type 0
Within present refined = (c : ℕ) → T (in_plane refined c) → T (in_plane present c)

unfoldable pub in_order : ℕ → List ℕ → List ℕ → Bool
in_order n present refined = (no_spare n present && no_spare n refined) && within n present refined

-- planes of 64-bit words that hold n cells
pub record Holding (n : ℕ) (present refined : List ℕ) : Type 0 where
  pub present_words : Words present
  pub refined_words : Words refined
  pub present_length : length present ≡ words_for n
  pub refined_length : length refined ≡ words_for n
  pub order : T (in_order n present refined)

-- ---- "A cell is active when present and not split": cells "by ones in whole words"

-- the ones of word w, of the active cells and of a plane
unfoldable pub active_ones : List ℕ → List ℕ → ℕ → ℕ
active_ones present refined w = ones (bit_and (get_or present w 0) ((2 ^ 64 - 1) - get_or refined w 0))

unfoldable pub ones_at : List ℕ → ℕ → ℕ
ones_at plane w = ones (get_or plane w 0)
