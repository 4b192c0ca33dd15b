-- What is claimed of reading and writing, in Req 01's words; proofs/Results.antt proves it of `read_mesh` and `write_mesh`. Definitions only.
use Rattle.std.specs.Prelude.{◌≡◌, List, [], ◌∷◌, ◌++◌, ◌≢◌, ℕ, ◌≤◌, T, length, take, drop}
use Rattle.facts.specs.Numbers.{elem}
use Rattle.grid.specs.declared.Plan.{Plan}
use Rattle.grid.specs.Plan.{cell_total, function_total}
use Rattle.mesh.specs.Mesh.{check}
use Rattle.mesh.specs.HAdmissible.{h_check}
use Rattle.files.specs.Bounds.{most_file_bytes}
use Rattle.files.specs.File.{got_file, decode_file, file_of, no_plan, ReadOutcome, read_mesh, WriteOutcome, write_mesh}

-- ---- writing

-- an accepted call wrote the file of a mesh; "everything lent for output keeps its values .. past what is written"
pub record Written (p : Plan) (cs fs file : List ℕ) (o : WriteOutcome) : Type 0 where
  pub checked : check p cs fs ≡ 0
  pub answered : o.answer.length ≡ length (file_of p cs)
  pub bytes : take o.answer.length o.file ≡ file_of p cs
  pub tail : drop o.answer.length o.file ≡ drop o.answer.length file
  pub room : length o.file ≡ length file

-- a refused one wrote nothing
pub record Unwritten (file : List ℕ) (o : WriteOutcome) : Type 0 where
  pub bytes : o.file ≡ file
  pub none : o.answer.length ≡ 0

-- ---- reading

-- an accepted call made a mesh, and "one wall has one file": the bytes are exactly those of its file
pub record Rebuilt (s : List ℕ) (o : ReadOutcome) : Type 0 where
  pub checked : check o.answer.plan o.cells o.functions ≡ 0
  pub only : s ≡ file_of o.answer.plan o.cells

-- a refused one left both tables
pub record Refused (s cs fs : List ℕ) (o : ReadOutcome) : Type 0 where
  pub cells : o.cells ≡ cs
  pub functions : o.functions ≡ fs
  -- "12 .., then 1 to 5 in their order .., then 13": no other number
  pub number : T (elem o.answer.number (12 ∷ 1 ∷ 2 ∷ 3 ∷ 4 ∷ 5 ∷ 13 ∷ []))
  -- "Reading answers the plan too, also with refusals 3, 4, 5 and 13": that of the file
  pub plan : T (elem o.answer.number (3 ∷ 4 ∷ 5 ∷ 13 ∷ []))
      → ((cells : List ℕ) × ((rest : List ℕ) × (decode_file s ≡ got_file o.answer.plan cells rest)))
  -- "with the others it is all zeros"
  pub zeros : T (elem o.answer.number (12 ∷ 1 ∷ 2 ∷ [])) → o.answer.plan ≡ no_plan

-- ---- a mesh and its file

pub record Kept (p : Plan) (cs fs : List ℕ) : Type 0 where
  -- what is written is read back: the same plan and both tables, byte for byte, whatever the lent tables held
  pub back : (cells functions : List ℕ) → length cells ≡ cell_total p → length functions ≡ function_total p
      → read_mesh (file_of p cs) cells functions ≡ record { answer = record { number = 0; plan = p }; cells = cs; functions = fs }
  -- "so that a caller knows what to lend": with no tables, reading answers 3 and the plan
  pub sized : read_mesh (file_of p cs) [] [] ≡ record { answer = record { number = 3; plan = p }; cells = []; functions = [] }
  pub short : length (file_of p cs) ≤ most_file_bytes

-- ---- all of it

pub record Files : Type 0 where
  pub written : (p : Plan) (cs fs file : List ℕ) → (write_mesh p cs fs file).answer.number ≡ 0 → Written p cs fs file (write_mesh p cs fs file)
  pub unwritten : (p : Plan) (cs fs file : List ℕ) → (write_mesh p cs fs file).answer.number ≢ 0 → Unwritten file (write_mesh p cs fs file)
  pub rebuilt : (s cs fs : List ℕ) → (read_mesh s cs fs).answer.number ≡ 0 → Rebuilt s (read_mesh s cs fs)
  pub refused : (s cs fs : List ℕ) → (read_mesh s cs fs).answer.number ≢ 0 → Refused s cs fs (read_mesh s cs fs)
  pub kept : (p : Plan) (cs fs : List ℕ) → check p cs fs ≡ 0 → Kept p cs fs
  -- Req 12: "Old graded walls pass", and so the file of a mesh that check took by the rule before is read: `file_of` has not changed
  pub kept_before : (p : Plan) (cs fs : List ℕ) → h_check p cs fs ≡ 0 → Kept p cs fs
  -- what writing gave, read into any tables of the right lengths
  pub back : (p : Plan) (cs fs file : List ℕ) → (write_mesh p cs fs file).answer.number ≡ 0
      → (cells functions : List ℕ) → length cells ≡ cell_total p → length functions ≡ function_total p
      → read_mesh (take (write_mesh p cs fs file).answer.length (write_mesh p cs fs file).file) cells functions
      ≡ record { answer = record { number = 0; plan = p }; cells = cs; functions = fs }
  -- what reading accepted, written again: the same bytes, where there is room for them
  pub again : (s cs fs file : List ℕ) → (read_mesh s cs fs).answer.number ≡ 0 → length s ≤ length file
      → write_mesh (read_mesh s cs fs).answer.plan (read_mesh s cs fs).cells (read_mesh s cs fs).functions file
      ≡ record { answer = record { number = 0; length = length s }; file = s ++ drop (length s) file }
