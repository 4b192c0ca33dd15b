-- Document 02, Req 01, "Walls kept on disk", and what Req 05 adds to it: the file of a mesh ("wall"), what bytes are read as, and reading
-- and writing as functions of their whole input. Everywhere cs and fs are the lent cell and function table. Definitions only.
use Rattle.std.specs.Prelude.{Bool, not, ◌&&◌, ◌||◌, cond, List, [], ◌∷◌, ◌++◌, ℕ, ltb, eqb, length, get_or, take, drop}
use Rattle.facts.specs.Numbers.{elem, all, listed}
use Rattle.grid.specs.declared.Plan.{Plan}
use Rattle.grid.specs.Plan.{plan_of, cell_total}
use Rattle.mesh.specs.Mesh.{refined, is_mesh, is_admissible, table_of, labels, refusal3, check}
use Rattle.codec.specs.Numbers.{Many, bad_many, got_many, encode_numbers, encode_rising, decode_numbers, decode_rising}
use Rattle.files.specs.declared.ReadAnswer.{ReadAnswer}
use Rattle.files.specs.declared.WriteAnswer.{WriteAnswer}

-- ---- the file

-- the head: "the six plan numbers, the count of split cells"
abbrev pub head_numbers : Plan → ℕ → List ℕ
head_numbers p count = p.columns ∷ p.rows ∷ p.levels ∷ p.degree_across ∷ p.degree_up ∷ p.class ∷ count ∷ []

-- neither direction has a corner
unfoldable pub no_corners : ℕ → ℕ → Bool
no_corners across up = eqb across 0 && eqb up 0

-- Req 05: "A saved wall puts both numbers after the last cell, and leaves them out if both are zero"
unfoldable pub encode_corners : ℕ → ℕ → List ℕ
encode_corners across up = cond (no_corners across up) [] (encode_numbers (across ∷ up ∷ []))

-- the head, "the first split cell if there is one, then each difference from the one before, in rising order", the corners
unfoldable pub encode_file : Plan → List ℕ → List ℕ
encode_file p cells =
    encode_numbers (head_numbers p (length cells)) ++ (encode_rising cells ++ encode_corners p.corners_across p.corners_up)

-- the file of the mesh with this cell table
unfoldable pub file_of : Plan → List ℕ → List ℕ
file_of p table = encode_file p (listed (cell_total p) (refined table))

-- ---- what bytes are read as: a plan, listed cells and the bytes that are left; `bad_file` gets refusal 12

pub data File : Type 0 where
  bad_file : File
  got_file : Plan → List ℕ → List ℕ → File

-- Req 05: "two zeros .. on file get 12"
unfoldable pub not_zeros : Many → Many
not_zeros bad_many = bad_many
not_zeros (got_many ns s) = cond (no_corners (get_or ns 0 0) (get_or ns 1 0)) bad_many (got_many ns s)

-- the corners: both numbers are 0 where nothing is left behind the last cell; "a lone number" is a second one cut off
unfoldable pub decode_corners : List ℕ → Many
decode_corners [] = got_many (0 ∷ 0 ∷ []) []
decode_corners (b ∷ s) = not_zeros (decode_numbers 2 (b ∷ s))

-- the corners behind the cells: the plan has the six numbers of the head, and these
unfoldable pub with_corners : List ℕ → List ℕ → Many → File
with_corners head cells bad_many = bad_file
with_corners head cells (got_many corners s) = got_file (plan_of (take 6 head ++ corners)) cells s

-- the cells behind the head
unfoldable pub with_cells : List ℕ → Many → File
with_cells head bad_many = bad_file
with_cells head (got_many cells s) = with_corners head cells (decode_corners s)

-- a head, and as many cells as it counts
unfoldable pub with_head : Many → File
with_head bad_many = bad_file
with_head (got_many head s) = with_cells head (decode_rising (get_or head 6 0) s)

unfoldable pub decode_file : List ℕ → File
decode_file s = with_head (decode_numbers 7 s)

-- ---- reading

-- the cell table with the listed cells refined: "Reading rebuilds both tables"
unfoldable pub rebuilt : Plan → List ℕ → List ℕ
rebuilt p cells = table_of p (λ c. elem c cells)

-- 4: the cells are no mesh, "also for a listed cell of T or more"; 5: it is not admissible; "then 13 where bytes follow the last number"
unfoldable pub refusal13 : Plan → List ℕ → List ℕ → ℕ
refusal13 p cells rest =
    cond (not (all (λ c. ltb c (cell_total p)) cells)) 4
    (cond (not (is_mesh p (rebuilt p cells))) 4
    (cond (not (is_admissible p (rebuilt p cells))) 5
    (cond (not (eqb (length rest) 0)) 13 0)))

-- "then 1 to 5 in their order .., then 13": of a file that is not refused with 12
unfoldable pub read_refusal : Plan → List ℕ → List ℕ → List ℕ → List ℕ → ℕ
read_refusal p cells rest cs fs = cond (eqb (refusal3 p cs fs) 0) (refusal13 p cells rest) (refusal3 p cs fs)

abbrev pub no_plan : Plan
no_plan = record { columns = 0; rows = 0; levels = 0; degree_across = 0; degree_up = 0; class = 0; corners_across = 0; corners_up = 0 }

-- "Reading answers the plan too, also with refusals 3, 4, 5 and 13 ..; with the others it is all zeros"
unfoldable pub answered_plan : ℕ → Plan → Plan
answered_plan number p = cond (eqb number 1 || eqb number 2) no_plan p

pub record ReadOutcome : Type 0 where
  pub answer : ReadAnswer
  pub cells : List ℕ
  pub functions : List ℕ

-- "everything lent for output keeps its values on a refusal"
unfoldable pub read_file : File → List ℕ → List ℕ → ReadOutcome
read_file bad_file cs fs = record { answer = record { number = 12; plan = no_plan }; cells = cs; functions = fs }
read_file (got_file p cells rest) cs fs =
    let n = read_refusal p cells rest cs fs in
    cond (eqb n 0)
    (record { answer = record { number = 0; plan = p }; cells = rebuilt p cells; functions = labels p (rebuilt p cells) })
    (record { answer = record { number = n; plan = answered_plan n p }; cells = cs; functions = fs })

-- the call: bytes and both lent tables to number, plan and tables
unfoldable pub read_mesh : List ℕ → List ℕ → List ℕ → ReadOutcome
read_mesh s cs fs = read_file (decode_file s) cs fs

-- ---- writing

pub record WriteOutcome : Type 0 where
  pub answer : WriteAnswer
  pub file : List ℕ

-- a refusal answers its number, with length 0
unfoldable pub unwritten : ℕ → List ℕ → WriteOutcome
unwritten n file = record { answer = record { number = n; length = 0 }; file = file }

-- a text in the lent bytes: "10 where the lent bytes are too few"; those past it keep their values
unfoldable pub write_text : List ℕ → List ℕ → WriteOutcome
write_text text file =
    cond (ltb (length file) (length text)) (unwritten 10 file)
    (record { answer = record { number = 0; length = length text }; file = text ++ drop (length text) file })

-- the call: plan, both tables and the lent bytes to number, length and bytes; "refuses 1 to 6, then 10"
unfoldable pub write_mesh : Plan → List ℕ → List ℕ → List ℕ → WriteOutcome
write_mesh p cs fs file = cond (eqb (check p cs fs) 0) (write_text (file_of p cs) file) (unwritten (check p cs fs) file)
