-- What is claimed of planes, document 02, Req 11; proofs/Results.antt proves it of the definitions that the contracts cite. P and R are
-- everywhere planes of 64-bit words, as a program lends them. Definitions only.
use Rattle.std.specs.Prelude.{List, ◌≢◌, ◌≡◌, ℕ, ◌≤◌, T, length}
use Rattle.facts.specs.Bounded.{sum}
use Rattle.grid.specs.declared.Plan.{Plan}
use Rattle.grid.specs.Plan.{cell_total}
use Rattle.mesh.specs.Mesh.{check, count, open_mesh}
use Rattle.outcomes.specs.Calls.{Direction, By, cells, functions, outcome}
use Rattle.outcomes.specs.Runs.{Call, LentLists, backwards, LongEnough, covered, RefinesByFunctions}
use Rattle.planes.specs.Bits.{Words, bytes_of, present_of, refined_of, are_small, Holding, active_ones, ones_at}
use Rattle.planes.specs.Planes.{cells_of, planes_length, most_plane_words, open_planes, check_planes, count_planes, held, refused_planes, on_planes, packed, unpacked}
use Rattle.planes.specs.Runs.{PlaneTables, log_on_planes, UndoneOnPlanes}

-- a table of the plan's cells, each byte 0, 1 or 2
pub record Cells (p : Plan) (cs : List ℕ) : Type 0 where
  pub size : length cs ≡ cell_total p
  pub small : T (are_small cs)

-- what a call leaves where it finds planes that hold cells: planes that hold those which the byte call leaves
module _ (d : Direction) (by : By) (p : Plan) (P R fs marks cl fl : List ℕ) where
  pub record Left : Type 0 where
    pub cells : cells_of p (on_planes (outcome d by) p P R fs marks cl fl).present (on_planes (outcome d by) p P R fs marks cl fl).refined
        ≡ (outcome d by p (cells_of p P R) fs marks cl fl).cells
    pub holding : Holding (cell_total p) (on_planes (outcome d by) p P R fs marks cl fl).present (on_planes (outcome d by) p P R fs marks cl fl).refined

pub record Demands : Type 0 where
  -- ---- planes and bytes undo each other
  pub bytes_back : (cs : List ℕ) → T (are_small cs) → bytes_of (length cs) (present_of cs) (refined_of cs) ≡ cs
  pub present_back : (n : ℕ) (P R : List ℕ) → Holding n P R → present_of (bytes_of n P R) ≡ P
  pub refined_back : (n : ℕ) (P R : List ℕ) → Holding n P R → refined_of (bytes_of n P R) ≡ R
  pub holding : (cs : List ℕ) → Holding (length cs) (present_of cs) (refined_of cs)
  -- ---- "each shown equal to its byte call on the same cells, refusals included"
  pub opened : (p : Plan) (cs fs : List ℕ) → Cells p cs → open_planes p (present_of cs) (refined_of cs) fs
      ≡ record { number = (open_mesh p cs fs).number; present = present_of (open_mesh p cs fs).cells; refined = refined_of (open_mesh p cs fs).cells; functions = (open_mesh p cs fs).functions }
  pub checked : (p : Plan) (cs fs : List ℕ) → Cells p cs → check_planes p (present_of cs) (refined_of cs) fs ≡ check p cs fs
  pub counted : (p : Plan) (cs fs : List ℕ) → Cells p cs → count_planes p (present_of cs) (refined_of cs) fs ≡ count p cs fs
  pub changed : (d : Direction) (by : By) (p : Plan) (cs fs marks cl fl : List ℕ) → Cells p cs
      → on_planes (outcome d by) p (present_of cs) (refined_of cs) fs marks cl fl ≡ held (outcome d by p cs fs marks cl fl)
  -- so of any planes that hold cells, for they are those of their bytes
  pub left : (d : Direction) (by : By) (p : Plan) (P R fs marks cl fl : List ℕ) → Holding (cell_total p) P R → Left d by p P R fs marks cl fl
  -- ---- a refusal, of planes or of the byte call, keeps all
  pub refused : (d : Direction) (by : By) (p : Plan) (P R fs marks cl fl : List ℕ) → Words P → Words R
      → (on_planes (outcome d by) p P R fs marks cl fl).answer.number ≢ 0
      → on_planes (outcome d by) p P R fs marks cl fl ≡ refused_planes (on_planes (outcome d by) p P R fs marks cl fl).answer.number P R fs cl fl
  -- ---- no plane has more words than those of the largest plan
  pub most : (p : Plan) → planes_length p ≤ most_plane_words
  -- ---- what was opened passes, whatever bits were there
  pub opened_passes : (p : Plan) (P R fs : List ℕ) → (open_planes p P R fs).number ≡ 0
      → check_planes p (open_planes p P R fs).present (open_planes p P R fs).refined (open_planes p P R fs).functions ≡ 0
  -- ---- "the count call takes the active cells and counts them by ones in whole words"; the refined ones likewise
  pub active_by_ones : (p : Plan) (P R fs : List ℕ) → Words P → Words R → check_planes p P R fs ≡ 0 → (count_planes p P R fs).active ≡ sum (length P) (active_ones P R)
  pub refined_by_ones : (p : Plan) (P R fs : List ℕ) → Words P → Words R → check_planes p P R fs ≡ 0 → (count_planes p P R fs).refined ≡ sum (length R) (ones_at R)
  -- ---- from cells to planes and back, and from planes to cells and back
  pub packed_back : (p : Plan) (cs P R cs' : List ℕ) → (packed p cs P R).number ≡ 0 → length cs' ≡ cell_total p
      → unpacked p (packed p cs P R).present (packed p cs P R).refined cs' ≡ record { number = 0; cells = cs }
  pub unpacked_back : (p : Plan) (P R cs P' R' : List ℕ) → Words P → Words R → (unpacked p P R cs).number ≡ 0 → length P' ≡ length P → length R' ≡ length R
      → packed p (unpacked p P R cs).cells P' R' ≡ record { number = 0; present = P; refined = R }
  -- ---- the mission's demand 3, of runs of the calls on planes: by cells, and in class 0, of splits by functions, by functions
  pub undone_by_cells : (p : Plan) (t : PlaneTables) (run : List Call) (rooms : List LentLists) → Words t.present → Words t.refined
      → check_planes p t.present t.refined t.functions ≡ 0 → LongEnough (backwards (log_on_planes p t run)) rooms → UndoneOnPlanes cells p t run rooms
  pub undone_by_functions : (p : Plan) → p.class ≡ 0 → (t : PlaneTables) (run : List Call) (rooms : List LentLists) → Words t.present → Words t.refined
      → check_planes p t.present t.refined t.functions ≡ 0 → T (covered p (cells_of p t.present t.refined) t.functions)
      → RefinesByFunctions run → LongEnough (backwards (log_on_planes p t run)) rooms → UndoneOnPlanes functions p t run rooms
