-- What the contracts of the parts cite. Definitions only.
use Rattle.std.specs.Prelude.{◌≡◌, Bool, not, cond, List, [], ◌∷◌, ◌++◌, ℕ, ◌≤◌, length, take, drop, Option, None, Some}
use Rattle.grid.specs.declared.Plan.{Plan}
use Rattle.grid.specs.Plan.{plan_of}
use Rattle.mesh.specs.Mesh.{is_mesh, is_admissible}
use Rattle.outcomes.specs.Meets.{Lent}
use Rattle.codec.specs.Numbers.{Many, bad_many, got_many, decode_rising}
use Rattle.listing.specs.Judged.{ends, ends_of}
use Rattle.files.specs.declared.Outline.{Outline}
use Rattle.files.specs.declared.Corners.{Corners}
use Rattle.files.specs.declared.ReadAnswer.{ReadAnswer}
use Rattle.files.specs.declared.WriteAnswer.{WriteAnswer}
use Rattle.files.specs.File.{bad_file, got_file, decode_corners, decode_file, ReadOutcome, WriteOutcome}

-- ---- how the contracts of the calls are said: an answer, and what the lent slices hold at exit

abbrev pub left_by_read : ReadAnswer → Lent → Lent → ReadOutcome
left_by_read r cells functions = record { answer = r; cells = cells.exit.now; functions = functions.exit.now }

abbrev pub left_by_write : WriteAnswer → Lent → WriteOutcome
left_by_write r file = record { answer = r; file = file.exit.now }

-- ---- judging

-- both corner numbers, which stand in the bytes s from a place up to another, or are 0 where s ends there
pub record CornersFound (s : List ℕ) (at across up to : ℕ) : Type 0 where
  pub reads : decode_corners (drop at s) ≡ got_many (across ∷ up ∷ []) (drop to s)
  pub inside : to ≤ length s

abbrev pub ReadsCorners : List ℕ → ℕ → Option Corners → Type 0
ReadsCorners s at None = decode_corners (drop at s) ≡ bad_many
ReadsCorners s at (Some c) = CornersFound s at c.across c.up c.end

-- the plan of a head and corners
abbrev pub plan_with : List ℕ → ℕ → ℕ → Plan
plan_with head across up = plan_of (take 6 head ++ (across ∷ up ∷ []))

unfoldable pub numbers_of : Many → List ℕ
numbers_of bad_many = []
numbers_of (got_many ns s) = ns

-- the cells that a file lists
unfoldable pub cells_of : List ℕ → Outline → List ℕ
cells_of s h = numbers_of (decode_rising h.count (drop h.first s))

pub record GoodFile (s : List ℕ) (h : Outline) : Type 0 where
  pub file : decode_file s ≡ got_file h.plan (cells_of s h) (drop h.end s)
  -- the last cell is `last`, 0 where there is none; the corners are read of the bytes behind it
  pub behind : List ℕ
  pub cells : ends_of 0 (decode_rising h.count (drop h.first s)) ≡ ends h.last behind
  -- the bytes from `end` on are left
  pub inside : h.end ≤ length s

abbrev pub JudgesFile : List ℕ → Option Outline → Type 0
JudgesFile s None = decode_file s ≡ bad_file
JudgesFile s (Some h) = GoodFile s h

-- ---- rebuilding

-- refusals 4, 5 and 13 by the rebuilt table, and by whether the bytes end with the last number
unfoldable pub table_refusal : Plan → List ℕ → Bool → ℕ
table_refusal p table whole = cond (not (is_mesh p table)) 4 (cond (not (is_admissible p table)) 5 (cond (not whole) 13 0))
