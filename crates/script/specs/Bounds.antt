-- Document 01, "The session program": how much a session reads, and how large its walls are. Definitions only.
use Rattle.std.specs.Prelude.{ℕ}
use Rattle.lines.specs.Writing.{answer_room}

-- "It reads at most 16,384 bytes from standard input"
abbrev pub input_bytes : ℕ
input_bytes = 16384

-- "An allowed wall above 4,096 cells prints `large`"
abbrev pub wall_cells : ℕ
wall_cells = 4096

-- the most functions of a plan with at most so many cells (grid, proofs/Totals.antt): 15 13 3 4 4 has them with a corner on every inner line
abbrev pub wall_functions : ℕ
wall_functions = 18001

-- what holds every answer about such a wall: 243,080
abbrev pub answer_bytes : ℕ
answer_bytes = answer_room wall_cells wall_functions
