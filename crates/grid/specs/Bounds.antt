-- The largest tables: what document 01 allows, and what follows from it. Definitions only.
use Rattle.std.specs.Prelude.{ℕ}

-- "T is at most 21,845"
abbrev pub most_cells : ℕ
most_cells = 21845

-- the most functions of a plan with at most so many cells: proved, and reached, in proofs/Totals.antt
abbrev pub most_functions : ℕ
most_functions = 54884

-- no table of neighbourhoods is larger: of a level with a finer one, with a place for each first function, twice the degrees more, and a row
-- more for the second of the rows on one (proved in the same file)
abbrev pub most_near : ℕ
most_near = 13806
