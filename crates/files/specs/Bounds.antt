-- The longest file. Definitions only.
use Rattle.std.specs.Prelude.{ℕ}

-- the most bytes of a mesh's file: six for the plan, two for the count, one for each cell of a mesh of 4 columns, 1 row and 7 levels in
-- which all are refined that can be, 5,460, and two for the corners; proved, and reached, in proofs/Longest.antt
abbrev pub most_file_bytes : ℕ
most_file_bytes = 5470
