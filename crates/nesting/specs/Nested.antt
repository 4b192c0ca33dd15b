-- Refusal 4 by parents: what is asked of one cell. proofs/Nested.antt says that the cells pass just where they are a mesh. Definitions only.
use Rattle.std.specs.Prelude.{Bool, not, ◌&&◌, ◌||◌, cond, List, ℕ, leb, eqb, get_or}
use Rattle.grid.specs.declared.Plan.{Plan}
use Rattle.grid.specs.Plan.{cell_level, last_level, parent}
use Rattle.mesh.specs.Mesh.{refined}

-- the cell is present just where it must be, and its byte is at most `most`
unfoldable pub byte_fits : ℕ → Bool → ℕ → Bool
byte_fits most present byte = cond (eqb byte 0) (not present) (present && leb byte most)

-- the same of the byte of cell c
unfoldable pub cell_byte_fits : List ℕ → ℕ → Bool → ℕ → Bool
cell_byte_fits cells most present c = byte_fits most present (get_or cells c 0)

-- "no cell of level L-1 is split": the largest byte of a cell of level k
unfoldable pub most_at : Plan → ℕ → ℕ
most_at p k = cond (last_level p k) 1 2

-- a cell must be present just where it is of level 0 or its parent is refined
unfoldable pub nested : Plan → List ℕ → ℕ → Bool
nested p cells c = byte_fits (most_at p (cell_level p c)) (eqb (cell_level p c) 0 || refined cells (parent p c)) (get_or cells c 0)
