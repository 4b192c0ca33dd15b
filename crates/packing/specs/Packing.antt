-- What packing and unpacking require and leave. Definitions only.
use Rattle.std.specs.Prelude.{◌≡◌, List, ℕ, ◌+◌, ◌*◌, ◌/◌, ◌%◌, ◌≤◌, ◌<◌, get_or}
use Rattle.mesh.specs.Mesh.{refined}
use Rattle.planes.specs.Bits.{bit, word_from, is_present}

-- the byte of bit j of two words
unfoldable pub word_byte : ℕ → ℕ → ℕ → ℕ
word_byte present refined j = bit present j + bit refined j

-- four bits of a number, the lowest first, each in a byte of its own
unfoldable pub spread_of : ℕ → ℕ
spread_of n = n % 2 + (256 * (n / 2 % 2) + (65536 * (n / 4 % 2) + 16777216 * (n / 8 % 2)))

-- a table of that
abbrev pub Spreads : List ℕ → Type 0
Spreads table = (n : ℕ) → n < 16 → get_or table n 0 ≡ spread_of n

-- no byte is above 2
abbrev pub Small : List ℕ → Type 0
Small bytes = (i : ℕ) → get_or bytes i 0 ≤ 2

-- four bytes from a number on as a number of base 3, the lowest first
abbrev pub number_of : List ℕ → ℕ → ℕ
number_of bytes at = get_or bytes at 0 + (3 * get_or bytes (at + 1) 0 + (9 * get_or bytes (at + 2) 0 + 27 * get_or bytes (at + 3) 0))

-- the bits of four cells from a number on, in the first plane, and 16 times those in the second
unfoldable pub packed_of : List ℕ → ℕ → ℕ
packed_of bytes at = word_from 4 at (is_present bytes) + 16 * word_from 4 at (refined bytes)

-- a table of that
abbrev pub Packs : List ℕ → Type 0
Packs table = (bytes : List ℕ) (at : ℕ) → Small bytes → get_or table (number_of bytes at) 0 ≡ packed_of bytes at
