-- The byte of each cell in the table in which just the cells of a set are refined. Definitions only.
use Rattle.std.specs.Prelude.{Bool, ◌||◌, cond, ℕ, eqb}
use Rattle.hierarchy.specs.Hierarchy.{Cells}
use Rattle.grid.specs.declared.Plan.{Plan}
use Rattle.grid.specs.Plan.{cell_level, parent}

-- 2 for a cell of S; for any other 1 where it is present, 0 elsewhere
unfoldable pub byte_in : Cells → Bool → ℕ → ℕ
byte_in S present c = cond (S c) 2 (cond present 1 0)

-- a cell is present just where it is of level 0 or its parent is in S
unfoldable pub completed : Plan → Cells → ℕ → ℕ
completed p S c = byte_in S (eqb (cell_level p c) 0 || S (parent p c)) c
