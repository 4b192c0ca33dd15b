-- The refined cells of a table, as a file lists them, and a table with listed cells refined. Definitions only.
use Rattle.std.specs.Prelude.{◌≡◌, List, [], ◌∷◌, ℕ, ◌*◌, ◌≤◌, length, set}
use Rattle.facts.specs.Numbers.{listed}
use Rattle.codec.specs.Numbers.{Many, bad_many, got_many, encode_rising}
use Rattle.mesh.specs.Mesh.{refined}
use Rattle.listing.specs.declared.Measured.{Measured}

-- those below n
unfoldable pub refined_below : List ℕ → ℕ → List ℕ
refined_below table n = listed n (refined table)

-- the bytes of those below n
unfoldable pub refined_bytes : List ℕ → ℕ → List ℕ
refined_bytes table n = encode_rising (refined_below table n)

-- how many there are, and how many bytes they take
pub record Measures (table : List ℕ) (m : Measured) : Type 0 where
  pub count : m.count ≡ length (refined_below table (length table))
  pub bytes : m.bytes ≡ length (refined_bytes table (length table))
  -- follows, and is what a caller that adds to them is asked
  pub few : m.bytes ≤ 3 * length table

-- 2 at each listed cell
unfoldable pub marked : List ℕ → List ℕ → List ℕ
marked [] table = table
marked (c ∷ cs) table = marked cs (set table c 2)

-- by cells that were read; nothing is asked where they are bad
unfoldable pub marked_by : Many → List ℕ → List ℕ
marked_by bad_many table = []
marked_by (got_many cs s) table = marked cs table
