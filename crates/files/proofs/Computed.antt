-- Req 01, and what Req 05 says of files, worked by hand: files, and whole calls of reading and writing, as rows of one table under one theorem that the
-- checker computes. What is expected is written out. Assumes nothing.
use mathlib.Core.Path.{◌≡◌, refl}
use mathlib.Core.Bool.{Bool, true, false, ◌&&◌}
use mathlib.Core.List.{List, [], ◌∷◌, ◌++◌}
use Prim.Native.Nat.{ℕ}
use lib.Dec.{T, eqb}
use lib.ListN.{set, drop, replicate}
use Rattle.facts.specs.Bounded.{some, every}
use Rattle.facts.specs.Numbers.{elem, all, listed, tabulate}
use Rattle.grid.specs.declared.Plan.{Plan}
use Rattle.grid.specs.Numbering.{offset, number, level_of, place_on, place}
use Rattle.grid.specs.Plan.{between, numbers_in_range, corners_in_range, in_range, ratio, grown, too_large, last_level, above, below, parent, child, supported_at, supported, ancestor, common_at, near_at, near}
use Rattle.grid.specs.Knots.{is_set, is_corner, corners_to, times, knot_from, knot, beyond, functions, covers, apart, together}
use Rattle.mesh.specs.Mesh.{absent, refined, children, cell_fits, is_mesh, is_admissible, table_of, label_of, labels, is_labelled, refusal3, refusal6, check}
use Rattle.outcomes.specs.Runs.{Tables}
use Rattle.outcomes.proofs.Examples.{same, plan, W0, tables}
use Rattle.codec.specs.Numbers as codec
use Rattle.codec.specs.Numbers.{encode_groups, encode_number, decode_groups, decode_number, encode_numbers, front, onward, decode_numbers, encode_behind, encode_rising, decode_behind, decode_rising}
use Rattle.files.specs.File.{File, bad_file, got_file, no_corners, encode_corners, encode_file, file_of, not_zeros, decode_corners, with_corners, with_cells, with_head, decode_file, rebuilt, refusal13, read_refusal, answered_plan, ReadOutcome, read_file, read_mesh, WriteOutcome, unwritten, write_text, write_mesh}

-- ---- rows

pub data Row : Type 0 where
  -- a plan and listed cells are written as this file, and it is read as them
  lists : Plan → List ℕ → List ℕ → Row
  -- reading these bytes into these tables answers this number and plan, and leaves the tables given last
  reads : List ℕ → Tables → ℕ → Plan → Tables → Row
  -- writing the mesh of a plan and tables into these bytes answers this number and length, and leaves the bytes given last
  writes : Plan → Tables → List ℕ → ℕ → ℕ → List ℕ → Row

-- ---- what a row says

abbrev pub same_plan : Plan → Plan → Bool
same_plan p q =
    eqb p.columns q.columns
    && (eqb p.rows q.rows
    && (eqb p.levels q.levels
    && (eqb p.degree_across q.degree_across
    && (eqb p.degree_up q.degree_up
    && (eqb p.class q.class && (eqb p.corners_across q.corners_across && eqb p.corners_up q.corners_up))))))

-- with nothing left behind it
abbrev pub is_file : File → Plan → List ℕ → Bool
is_file bad_file p cells = false
is_file (got_file q listed rest) p cells = same_plan q p && (same listed cells && same rest [])

abbrev pub is_read : ReadOutcome → ℕ → Plan → Tables → Bool
is_read o n p t = eqb o.answer.number n && (same_plan o.answer.plan p && (same o.cells t.cells && same o.functions t.functions))

abbrev pub is_written : WriteOutcome → ℕ → ℕ → List ℕ → Bool
is_written o n l file = eqb o.answer.number n && (eqb o.answer.length l && same o.file file)

abbrev pub holds : Row → Bool
holds (lists p cells s) = same (encode_file p cells) s && is_file (decode_file s) p cells
holds (reads s t n p u) = is_read (read_mesh s t.cells t.functions) n p u
holds (writes p t file n l new) = is_written (write_mesh p t.cells t.functions file) n l new

-- what stands in a `let` is computed only where it is asked for: nothing behind a row that fails
abbrev pub all_hold : List Row → Bool
all_hold [] = true
all_hold (r ∷ rs) = let rest = all_hold rs in holds r && rest

-- ---- the words of the table

-- what refusals 1, 2 and 12 answer
abbrev pub zero_plan : Plan
zero_plan = plan 0 0 0 0 0 0

-- T = 5, F = 13
abbrev pub small : Plan
small = plan 1 1 2 1 1 0

-- the smallest plan with a mesh that is not admissible: T = 42, F = 66
abbrev pub class_two : Plan
class_two = plan 2 1 3 1 1 2

-- a plan with corners
abbrev pub with : Plan → ℕ → ℕ → Plan
with p across up = record {
  columns = p.columns;
  rows = p.rows;
  levels = p.levels;
  degree_across = p.degree_across;
  degree_up = p.degree_up;
  class = p.class;
  corners_across = across;
  corners_up = up;
}

-- what is lent holds 9s, which no mesh and none of these files has
abbrev pub nines : ℕ → List ℕ
nines n = replicate n 9

abbrev pub lent : ℕ → ℕ → Tables
lent n m = tables (nines n) (nines m)

-- W0 fresh
abbrev pub fresh0 : Tables
fresh0 = tables (replicate 3 1 ++ replicate 60 0) (replicate 8 1 ++ replicate 86 0)

-- W0 with cells 0 and 1 refined, level by level and row by row
abbrev pub after_p3 : Tables
after_p3 =
    tables
    ((2 ∷ 2 ∷ 1 ∷ []) ++ (1 ∷ 1 ∷ 1 ∷ 1 ∷ 0 ∷ 0 ∷ []) ++ (1 ∷ 1 ∷ 1 ∷ 1 ∷ 0 ∷ 0 ∷ []) ++ replicate 48 0)
    ((2 ∷ 2 ∷ 1 ∷ 1 ∷ []) ++ (2 ∷ 2 ∷ 1 ∷ 1 ∷ [])
    ++ (1 ∷ 1 ∷ 1 ∷ 1 ∷ 0 ∷ 0 ∷ 0 ∷ []) ++ (1 ∷ 1 ∷ 1 ∷ 1 ∷ 0 ∷ 0 ∷ 0 ∷ []) ++ (1 ∷ 1 ∷ 1 ∷ 1 ∷ 0 ∷ 0 ∷ 0 ∷ []) ++ replicate 65 0)

-- the small plan with cell 0 refined
abbrev pub one_refined : Tables
one_refined = tables (2 ∷ 1 ∷ 1 ∷ 1 ∷ 1 ∷ []) (2 ∷ 2 ∷ 2 ∷ 2 ∷ 1 ∷ 1 ∷ 1 ∷ 1 ∷ 1 ∷ 1 ∷ 1 ∷ 1 ∷ 1 ∷ [])

-- the class 2 plan with cells 0 and 3 refined: cell 1 is in the neighbourhood of cell 3 and is not
abbrev pub inadmissible : Tables
inadmissible =
    tables
    ((2 ∷ 1 ∷ []) ++ (1 ∷ 2 ∷ 0 ∷ 0 ∷ []) ++ (1 ∷ 1 ∷ 0 ∷ 0 ∷ []) ++ (0 ∷ 0 ∷ 1 ∷ 1 ∷ 0 ∷ 0 ∷ 0 ∷ 0 ∷ []) ++ (0 ∷ 0 ∷ 1 ∷ 1 ∷ 0 ∷ 0 ∷ 0 ∷ 0 ∷ []) ++ replicate 16 0)
    ((2 ∷ 1 ∷ 1 ∷ []) ++ (2 ∷ 1 ∷ 1 ∷ []) ++ (1 ∷ 1 ∷ 0 ∷ 0 ∷ 0 ∷ []) ++ (1 ∷ 1 ∷ 0 ∷ 0 ∷ 0 ∷ []) ++ (1 ∷ 1 ∷ 0 ∷ 0 ∷ 0 ∷ []) ++ (0 ∷ 0 ∷ 0 ∷ 1 ∷ 0 ∷ 0 ∷ 0 ∷ 0 ∷ 0 ∷ []) ++ (0 ∷ 0 ∷ 0 ∷ 1 ∷ 0 ∷ 0 ∷ 0 ∷ 0 ∷ 0 ∷ []) ++ replicate 27 0)

-- and with cell 1 refined too
abbrev pub admissible : Tables
admissible =
    tables
    ((2 ∷ 2 ∷ []) ++ (1 ∷ 2 ∷ 1 ∷ 1 ∷ []) ++ (1 ∷ 1 ∷ 1 ∷ 1 ∷ []) ++ (0 ∷ 0 ∷ 1 ∷ 1 ∷ 0 ∷ 0 ∷ 0 ∷ 0 ∷ []) ++ (0 ∷ 0 ∷ 1 ∷ 1 ∷ 0 ∷ 0 ∷ 0 ∷ 0 ∷ []) ++ replicate 16 0)
    ((2 ∷ 2 ∷ 2 ∷ []) ++ (2 ∷ 2 ∷ 2 ∷ []) ++ (1 ∷ 1 ∷ 1 ∷ 1 ∷ 1 ∷ []) ++ (1 ∷ 1 ∷ 1 ∷ 1 ∷ 1 ∷ []) ++ (1 ∷ 1 ∷ 1 ∷ 1 ∷ 1 ∷ []) ++ (0 ∷ 0 ∷ 0 ∷ 1 ∷ 0 ∷ 0 ∷ 0 ∷ 0 ∷ 0 ∷ []) ++ (0 ∷ 0 ∷ 0 ∷ 1 ∷ 0 ∷ 0 ∷ 0 ∷ 0 ∷ 0 ∷ []) ++ replicate 27 0)

-- "everything lent for output keeps its values on a refusal"
abbrev pub refuses_read : List ℕ → Tables → ℕ → Plan → Row
refuses_read s t n p = reads s t n p t

-- 12 with tables that no plan has
abbrev pub unreadable : List ℕ → Row
unreadable s = refuses_read s (lent 2 2) 12 zero_plan

abbrev pub refuses_write : Plan → Tables → List ℕ → ℕ → Row
refuses_write p t file n = writes p t file n 0 file

-- ---- the table

pub table : List Row
table =
    -- "the six plan numbers, the count of split cells, the first split cell if there is one, then each difference from the one
    -- before"; a file lists what it lists, mesh or not
    lists (plan 1 2 3 4 5 6) [] (1 ∷ 2 ∷ 3 ∷ 4 ∷ 5 ∷ 6 ∷ 0 ∷ [])
    ∷ lists (plan 1 2 3 4 5 6) (7 ∷ 10 ∷ 210 ∷ []) (1 ∷ 2 ∷ 3 ∷ 4 ∷ 5 ∷ 6 ∷ 3 ∷ 7 ∷ 3 ∷ 200 ∷ 1 ∷ [])
    ∷ lists (plan 128 1 1 1 1 0) (16384 ∷ 16385 ∷ []) (128 ∷ 1 ∷ 1 ∷ 1 ∷ 1 ∷ 1 ∷ 0 ∷ 2 ∷ 128 ∷ 128 ∷ 1 ∷ 1 ∷ [])
    -- Req 05: "both numbers after the last cell", or behind the count; "leaves them out if both are zero", not if one is
    ∷ lists (with (plan 1 2 3 4 5 6) 2 4) [] (1 ∷ 2 ∷ 3 ∷ 4 ∷ 5 ∷ 6 ∷ 0 ∷ 2 ∷ 4 ∷ [])
    ∷ lists (with (plan 1 2 3 4 5 6) 0 32768) (7 ∷ 10 ∷ []) (1 ∷ 2 ∷ 3 ∷ 4 ∷ 5 ∷ 6 ∷ 2 ∷ 7 ∷ 3 ∷ 0 ∷ 128 ∷ 128 ∷ 2 ∷ [])
    ∷ lists (with (plan 1 2 3 4 5 6) 300 0) (7 ∷ []) (1 ∷ 2 ∷ 3 ∷ 4 ∷ 5 ∷ 6 ∷ 1 ∷ 7 ∷ 172 ∷ 2 ∷ 0 ∷ [])
    -- "Reading rebuilds both tables": W0 fresh, W0 after P3, and meshes of a smaller plan and of one with a class
    ∷ reads (3 ∷ 1 ∷ 3 ∷ 1 ∷ 1 ∷ 0 ∷ 0 ∷ []) (lent 63 94) 0 W0 fresh0
    ∷ reads (3 ∷ 1 ∷ 3 ∷ 1 ∷ 1 ∷ 0 ∷ 2 ∷ 0 ∷ 1 ∷ []) (lent 63 94) 0 W0 after_p3
    ∷ reads (1 ∷ 1 ∷ 2 ∷ 1 ∷ 1 ∷ 0 ∷ 1 ∷ 0 ∷ []) (lent 5 13) 0 small one_refined
    ∷ reads (2 ∷ 1 ∷ 3 ∷ 1 ∷ 1 ∷ 2 ∷ 3 ∷ 0 ∷ 1 ∷ 2 ∷ []) (lent 42 66) 0 class_two admissible
    -- of degree 1 a corner adds no function
    ∷ reads (3 ∷ 1 ∷ 3 ∷ 1 ∷ 1 ∷ 0 ∷ 2 ∷ 0 ∷ 1 ∷ 2 ∷ 0 ∷ []) (lent 63 94) 0 (with W0 2 0) after_p3
    -- 12 "where a number is cut off": no bytes, in the plan, before the count, in the count, in a cell's second and third group,
    -- and a count of more cells than follow
    ∷ unreadable []
    ∷ unreadable (3 ∷ 1 ∷ 3 ∷ [])
    ∷ unreadable (3 ∷ 1 ∷ 3 ∷ 1 ∷ 1 ∷ 0 ∷ [])
    ∷ unreadable (3 ∷ 1 ∷ 3 ∷ 1 ∷ 1 ∷ 0 ∷ 129 ∷ [])
    ∷ unreadable (3 ∷ 1 ∷ 3 ∷ 1 ∷ 1 ∷ 0 ∷ 1 ∷ 129 ∷ [])
    ∷ unreadable (3 ∷ 1 ∷ 3 ∷ 1 ∷ 1 ∷ 0 ∷ 1 ∷ 129 ∷ 129 ∷ [])
    ∷ unreadable (3 ∷ 1 ∷ 3 ∷ 1 ∷ 1 ∷ 0 ∷ 1 ∷ [])
    ∷ unreadable (3 ∷ 1 ∷ 3 ∷ 1 ∷ 1 ∷ 0 ∷ 3 ∷ 0 ∷ 1 ∷ [])
    ∷ unreadable (3 ∷ 1 ∷ 3 ∷ 1 ∷ 1 ∷ 0 ∷ 255 ∷ 255 ∷ 127 ∷ 0 ∷ 1 ∷ [])
    -- "too long": four groups
    ∷ unreadable (3 ∷ 1 ∷ 3 ∷ 1 ∷ 1 ∷ 0 ∷ 129 ∷ 129 ∷ 129 ∷ 1 ∷ [])
    ∷ unreadable (3 ∷ 1 ∷ 3 ∷ 1 ∷ 1 ∷ 0 ∷ 1 ∷ 129 ∷ 129 ∷ 129 ∷ 1 ∷ [])
    -- "not shortest": two groups and three, of which the last is 0; in the plan, the count and a cell
    ∷ unreadable (131 ∷ 0 ∷ 1 ∷ 3 ∷ 1 ∷ 1 ∷ 0 ∷ 0 ∷ [])
    ∷ unreadable (3 ∷ 1 ∷ 3 ∷ 1 ∷ 1 ∷ 128 ∷ 0 ∷ 0 ∷ [])
    ∷ unreadable (3 ∷ 1 ∷ 3 ∷ 1 ∷ 1 ∷ 0 ∷ 129 ∷ 0 ∷ 0 ∷ [])
    ∷ unreadable (3 ∷ 1 ∷ 3 ∷ 1 ∷ 1 ∷ 0 ∷ 1 ∷ 128 ∷ 0 ∷ [])
    ∷ unreadable (3 ∷ 1 ∷ 3 ∷ 1 ∷ 1 ∷ 0 ∷ 1 ∷ 129 ∷ 129 ∷ 0 ∷ [])
    -- "a zero difference"
    ∷ unreadable (3 ∷ 1 ∷ 3 ∷ 1 ∷ 1 ∷ 0 ∷ 2 ∷ 0 ∷ 0 ∷ [])
    ∷ unreadable (3 ∷ 1 ∷ 3 ∷ 1 ∷ 1 ∷ 0 ∷ 3 ∷ 0 ∷ 1 ∷ 0 ∷ [])
    -- Req 05: "two zeros, or a lone number, on file get 12", behind a cell and behind the count
    ∷ unreadable (3 ∷ 1 ∷ 3 ∷ 1 ∷ 1 ∷ 0 ∷ 2 ∷ 0 ∷ 1 ∷ 0 ∷ 0 ∷ [])
    ∷ unreadable (3 ∷ 1 ∷ 3 ∷ 1 ∷ 1 ∷ 0 ∷ 0 ∷ 0 ∷ 0 ∷ [])
    ∷ unreadable (3 ∷ 1 ∷ 3 ∷ 1 ∷ 1 ∷ 0 ∷ 0 ∷ 0 ∷ 0 ∷ 9 ∷ [])
    ∷ unreadable (3 ∷ 1 ∷ 3 ∷ 1 ∷ 1 ∷ 0 ∷ 2 ∷ 0 ∷ 1 ∷ 2 ∷ [])
    ∷ unreadable (3 ∷ 1 ∷ 3 ∷ 1 ∷ 1 ∷ 0 ∷ 0 ∷ 0 ∷ [])
    -- and so do corners cut off, too long and not shortest
    ∷ unreadable (3 ∷ 1 ∷ 3 ∷ 1 ∷ 1 ∷ 0 ∷ 0 ∷ 130 ∷ [])
    ∷ unreadable (3 ∷ 1 ∷ 3 ∷ 1 ∷ 1 ∷ 0 ∷ 0 ∷ 2 ∷ 130 ∷ [])
    ∷ unreadable (3 ∷ 1 ∷ 3 ∷ 1 ∷ 1 ∷ 0 ∷ 0 ∷ 2 ∷ 129 ∷ 129 ∷ 129 ∷ 1 ∷ [])
    ∷ unreadable (3 ∷ 1 ∷ 3 ∷ 1 ∷ 1 ∷ 0 ∷ 0 ∷ 130 ∷ 0 ∷ 0 ∷ [])
    -- "12 .., then 1 to 5 in their order": before 1 and 2, and before 4
    ∷ unreadable (0 ∷ 1 ∷ 3 ∷ 1 ∷ 1 ∷ 0 ∷ [])
    ∷ unreadable (16 ∷ 16 ∷ 5 ∷ 1 ∷ 1 ∷ 0 ∷ 1 ∷ [])
    ∷ unreadable (0 ∷ 1 ∷ 3 ∷ 1 ∷ 1 ∷ 0 ∷ 0 ∷ 2 ∷ [])
    ∷ refuses_read (1 ∷ 1 ∷ 2 ∷ 1 ∷ 1 ∷ 0 ∷ 2 ∷ 5 ∷ 0 ∷ []) (lent 5 13) 12 zero_plan
    -- 1: no columns; class 1; before 2, and before 3 and 13
    ∷ refuses_read (0 ∷ 1 ∷ 3 ∷ 1 ∷ 1 ∷ 0 ∷ 0 ∷ []) (lent 0 0) 1 zero_plan
    ∷ refuses_read (3 ∷ 1 ∷ 3 ∷ 1 ∷ 1 ∷ 1 ∷ 0 ∷ []) (lent 63 94) 1 zero_plan
    ∷ refuses_read (17 ∷ 16 ∷ 8 ∷ 1 ∷ 1 ∷ 0 ∷ 0 ∷ []) (lent 2 2) 1 zero_plan
    ∷ refuses_read (3 ∷ 1 ∷ 3 ∷ 1 ∷ 5 ∷ 0 ∷ 0 ∷ 2 ∷ 0 ∷ 9 ∷ []) (lent 2 2) 1 zero_plan
    -- Req 05: "a bit outside 1 to A-1 (or B-1) is set": bits 0 and 3 of three columns, bit 1 of one row
    ∷ refuses_read (3 ∷ 1 ∷ 3 ∷ 1 ∷ 1 ∷ 0 ∷ 0 ∷ 1 ∷ 0 ∷ []) (lent 63 94) 1 zero_plan
    ∷ refuses_read (3 ∷ 1 ∷ 3 ∷ 1 ∷ 1 ∷ 0 ∷ 0 ∷ 8 ∷ 0 ∷ []) (lent 63 94) 1 zero_plan
    ∷ refuses_read (3 ∷ 1 ∷ 3 ∷ 1 ∷ 1 ∷ 0 ∷ 0 ∷ 0 ∷ 2 ∷ []) (lent 63 94) 1 zero_plan
    -- 2: T = 87,296; before 3 and 13
    ∷ refuses_read (16 ∷ 16 ∷ 5 ∷ 1 ∷ 1 ∷ 0 ∷ 0 ∷ 2 ∷ 0 ∷ 9 ∷ []) (lent 2 2) 2 zero_plan
    -- 3: by either table; "Reading answers the plan too .. so that a caller knows what to lend"; before 4 and 13
    ∷ refuses_read (3 ∷ 1 ∷ 3 ∷ 1 ∷ 1 ∷ 0 ∷ 0 ∷ []) (lent 62 94) 3 W0
    ∷ refuses_read (3 ∷ 1 ∷ 3 ∷ 1 ∷ 1 ∷ 0 ∷ 0 ∷ []) (lent 63 95) 3 W0
    ∷ refuses_read (3 ∷ 1 ∷ 3 ∷ 1 ∷ 1 ∷ 0 ∷ 0 ∷ []) (lent 0 0) 3 W0
    ∷ refuses_read (1 ∷ 1 ∷ 2 ∷ 1 ∷ 1 ∷ 0 ∷ 1 ∷ 5 ∷ []) (lent 6 13) 3 small
    ∷ refuses_read (3 ∷ 1 ∷ 3 ∷ 1 ∷ 1 ∷ 0 ∷ 0 ∷ 4 ∷ 0 ∷ 9 ∷ []) (lent 0 0) 3 (with W0 4 0)
    -- 4: "also for a listed cell of T or more", alone and behind a cell that may be refined
    ∷ refuses_read (1 ∷ 1 ∷ 2 ∷ 1 ∷ 1 ∷ 0 ∷ 1 ∷ 5 ∷ []) (lent 5 13) 4 small
    ∷ refuses_read (1 ∷ 1 ∷ 2 ∷ 1 ∷ 1 ∷ 0 ∷ 2 ∷ 0 ∷ 5 ∷ []) (lent 5 13) 4 small
    ∷ refuses_read (1 ∷ 1 ∷ 2 ∷ 1 ∷ 1 ∷ 0 ∷ 2 ∷ 0 ∷ 255 ∷ 255 ∷ 127 ∷ []) (lent 5 13) 4 small
    -- a cell whose parent is not listed; a cell of the last level, with its parent
    ∷ refuses_read (3 ∷ 1 ∷ 3 ∷ 1 ∷ 1 ∷ 0 ∷ 1 ∷ 3 ∷ []) (lent 63 94) 4 W0
    ∷ refuses_read (1 ∷ 1 ∷ 2 ∷ 1 ∷ 1 ∷ 0 ∷ 2 ∷ 0 ∷ 1 ∷ []) (lent 5 13) 4 small
    -- before 5 (below), by a cell whose parent is not listed and by T, and before 13
    ∷ refuses_read (2 ∷ 1 ∷ 3 ∷ 1 ∷ 1 ∷ 2 ∷ 3 ∷ 0 ∷ 3 ∷ 1 ∷ []) (lent 42 66) 4 class_two
    ∷ refuses_read (2 ∷ 1 ∷ 3 ∷ 1 ∷ 1 ∷ 2 ∷ 3 ∷ 0 ∷ 3 ∷ 39 ∷ []) (lent 42 66) 4 class_two
    ∷ refuses_read (3 ∷ 1 ∷ 3 ∷ 1 ∷ 1 ∷ 0 ∷ 1 ∷ 63 ∷ 2 ∷ 0 ∷ 9 ∷ []) (lent 63 94) 4 (with W0 2 0)
    -- 5: cells 0 and 3; before 13
    ∷ refuses_read (2 ∷ 1 ∷ 3 ∷ 1 ∷ 1 ∷ 2 ∷ 2 ∷ 0 ∷ 3 ∷ []) (lent 42 66) 5 class_two
    ∷ refuses_read (2 ∷ 1 ∷ 3 ∷ 1 ∷ 1 ∷ 2 ∷ 2 ∷ 0 ∷ 3 ∷ 2 ∷ 0 ∷ 9 ∷ []) (lent 42 66) 5 (with class_two 2 0)
    -- 13 "where bytes follow the last number", which is one of corners: a number, or a byte that is none
    ∷ refuses_read (3 ∷ 1 ∷ 3 ∷ 1 ∷ 1 ∷ 0 ∷ 0 ∷ 6 ∷ 0 ∷ 0 ∷ []) (lent 63 94) 13 (with W0 6 0)
    ∷ refuses_read (3 ∷ 1 ∷ 3 ∷ 1 ∷ 1 ∷ 0 ∷ 2 ∷ 0 ∷ 1 ∷ 2 ∷ 0 ∷ 255 ∷ []) (lent 63 94) 13 (with W0 2 0)
    -- "Writing answers its length", and keeps the bytes past it
    ∷ writes W0 fresh0 (nines 9) 0 7 (3 ∷ 1 ∷ 3 ∷ 1 ∷ 1 ∷ 0 ∷ 0 ∷ 9 ∷ 9 ∷ [])
    ∷ writes W0 after_p3 (nines 12) 0 9 (3 ∷ 1 ∷ 3 ∷ 1 ∷ 1 ∷ 0 ∷ 2 ∷ 0 ∷ 1 ∷ 9 ∷ 9 ∷ 9 ∷ [])
    ∷ writes class_two admissible (nines 11) 0 10 (2 ∷ 1 ∷ 3 ∷ 1 ∷ 1 ∷ 2 ∷ 3 ∷ 0 ∷ 1 ∷ 2 ∷ 9 ∷ [])
    ∷ writes (with W0 2 0) after_p3 (nines 12) 0 11 (3 ∷ 1 ∷ 3 ∷ 1 ∷ 1 ∷ 0 ∷ 2 ∷ 0 ∷ 1 ∷ 2 ∷ 0 ∷ 9 ∷ [])
    -- just enough bytes; 10 where there is one less, or none
    ∷ writes small one_refined (nines 8) 0 8 (1 ∷ 1 ∷ 2 ∷ 1 ∷ 1 ∷ 0 ∷ 1 ∷ 0 ∷ [])
    ∷ refuses_write small one_refined (nines 7) 10
    ∷ refuses_write (with W0 2 0) after_p3 (nines 10) 10
    ∷ refuses_write small one_refined [] 10
    -- "refuses 1 to 6, then 10": no columns, a corner behind the third; T = 87,296; either table's length; W0 fresh with cell 0 absent; cells 0 and 3; W0 fresh
    -- with function 0 deactivated
    ∷ refuses_write (plan 0 1 3 1 1 0) (lent 0 0) (nines 9) 1
    ∷ refuses_write (with W0 8 0) fresh0 (nines 9) 1
    ∷ refuses_write (plan 16 16 5 1 1 0) (lent 2 2) (nines 9) 2
    ∷ refuses_write W0 (tables (drop 1 fresh0.cells) fresh0.functions) (nines 9) 3
    ∷ refuses_write W0 (tables fresh0.cells (drop 1 fresh0.functions)) (nines 9) 3
    ∷ refuses_write W0 (tables (set fresh0.cells 0 0) fresh0.functions) (nines 9) 4
    ∷ refuses_write class_two inadmissible (nines 9) 5
    ∷ refuses_write W0 (tables fresh0.cells (set fresh0.functions 0 2)) (nines 9) 6
    ∷ refuses_write small (tables one_refined.cells (set one_refined.functions 0 1)) [] 6
    ∷ []

-- the order of 4, 5 and 13, where all three, the last two or one are due
pub late : refusal13 class_two (0 ∷ 3 ∷ 42 ∷ []) (0 ∷ []) ∷ refusal13 class_two (0 ∷ 3 ∷ []) (0 ∷ []) ∷ refusal13 class_two (0 ∷ []) (0 ∷ []) ∷ [] ≡ 4 ∷ 5 ∷ 13 ∷ []
unfolding some every elem all tabulate offset number level_of place_on place ratio grown last_level above below parent child is_set is_corner corners_to times knot_from knot beyond functions covers apart together ancestor common_at near_at near absent refined children cell_fits is_mesh is_admissible table_of rebuilt refusal13
late = refl

pub worked : T (all_hold table)
unfolding table some every elem all listed tabulate offset number level_of place_on place between numbers_in_range corners_in_range in_range ratio grown too_large last_level above below parent child is_set is_corner corners_to times knot_from knot beyond functions covers apart together supported_at supported ancestor common_at near_at near absent refined children cell_fits is_mesh is_admissible table_of label_of labels is_labelled refusal3 refusal6 check codec.above encode_groups encode_number decode_groups decode_number encode_numbers front onward decode_numbers encode_behind encode_rising decode_behind decode_rising no_corners encode_corners encode_file file_of not_zeros decode_corners with_corners with_cells with_head decode_file rebuilt refusal13 read_refusal answered_plan read_file read_mesh unwritten write_text write_mesh
worked = tt
