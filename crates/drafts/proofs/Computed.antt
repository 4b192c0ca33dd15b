-- Document 02, Req 10, worked by hand: runs of calls with a draft, and open and read with one, as rows of one table under one theorem that
-- the checker computes. What is expected is written out. Assumes nothing.
use mathlib.Core.Bool.{Bool, true, false, ◌&&◌}
use mathlib.Core.List.{List, [], ◌∷◌}
use Prim.Native.Nat.{ℕ}
use lib.Dec.{T, eqb}
use lib.IntN.{pos}
use lib.ListN.{replicate}
use Rattle.facts.specs.Bounded.{some, every}
use Rattle.facts.specs.Numbers.{elem, all, listed, tabulate, stored, first}
use Rattle.facts.specs.Writing.{written_at}
use Rattle.hierarchy.specs.Hierarchy.{reach, needs, closure}
use Rattle.grid.specs.declared.Plan.{Plan}
use Rattle.grid.specs.Numbering.{offset, number, level_of, place_on, place}
use Rattle.grid.specs.Knots.{is_set, is_corner, corners_to, times, knot_from, knot, beyond, functions as functionCount, covers, apart, together}
use Rattle.grid.specs.Plan.{between, numbers_in_range, corners_in_range, in_range, too_large, ratio, grown, above, below, parent, child, last_level, supported_at, supported, ancestor, common_at, near_at, near, cell_total}
use Rattle.mesh.specs.Mesh.{absent, active, refined, reactivable, children, cell_fits, is_mesh, is_admissible, table_of, label_of, labels, is_labelled, refusal3, refusal6, check, fresh_cells, fresh_functions, open_mesh}
use Rattle.outcomes.specs.Calls.{Direction, refine, coarsen, By, cells, functions, eligible, is_too_deep, mark_refusal, under_marked, under_kept, selected, base, smallest, changed, written, refused, settle, new_cells, refusal, outcome}
use Rattle.outcomes.specs.Runs.{Tables, LentLists, Entry, final_of, log_of}
use Rattle.outcomes.proofs.Examples.{same, plan, W2, tables, fresh, refining}
use Rattle.heights.specs.Heights.{inexact, low, low_on, all_low, heights_refusal}
use Rattle.refining.specs.Refining.{tables_refusal, refused_with, outcome_with_heights}
use Rattle.refining.specs.Seasons.{plain, carrying, direction_of}
use Rattle.codec.specs.Numbers as codec
use Rattle.codec.specs.Numbers.{decode_groups, decode_number, front, onward, decode_numbers, decode_behind, decode_rising}
use Rattle.files.specs.File.{no_corners, not_zeros, decode_corners, with_corners, with_cells, with_head, decode_file, rebuilt, refusal13, read_refusal, answered_plan, read_file, read_mesh}
use Rattle.drafts.specs.declared.Draft.{Draft}
use Rattle.drafts.specs.Drafts.{is_open, no_draft, refusal18, refusal19, open_draft, drop_draft, add_refusal, add_marks, close_draft, outcome_with_draft, outcome_with_heights_and_draft, draft_after_open, draft_after_read}
use Rattle.drafts.specs.Seasons as seasons
use Rattle.drafts.specs.Seasons.{State, DraftCall, changing, opening, adding, closing, dropping, writing, closed, added, leave, keep, final_state, state_log}

-- ---- rows

pub data Row : Type 0 where
  -- on these tables, with no draft and a list of so many entries 77, these calls answer these numbers, and leave these cells refined, this
  -- draft, and this list
  called : Plan → Tables → ℕ → List DraftCall → List ℕ → List ℕ → Draft → List ℕ → Row
  -- and this is kept of them: of each entry its number, its cells and its functions
  kept : Plan → Tables → ℕ → List DraftCall → List (List ℕ) → Row
  -- open on these tables, and reading these bytes into them, answers the second draft with the first
  opened : Plan → Tables → Draft → Draft → Row
  read_into : List ℕ → Tables → Draft → Draft → Row

-- ---- what a row says

abbrev start : Tables → ℕ → State
start t n = record { tables = t; draft = no_draft; list = replicate n 77 }

-- the number that a call answers
abbrev pub answered : Plan → State → DraftCall → ℕ
answered p s (changing a) = (seasons.changed p s a).answer.number
answered p s opening = (open_draft p s.tables.cells s.tables.functions s.draft s.list).number
answered p s (adding marks) = (added p s marks).answer.number
answered p s (closing room) = (closed p s room).outcome.answer.number
answered p s dropping = (drop_draft p s.tables.cells s.tables.functions s.draft s.list).number
answered p s (writing d dl) = 0

abbrev pub numbers : Plan → State → List DraftCall → List ℕ
numbers p s [] = []
numbers p s (a ∷ rest) = answered p s a ∷ numbers p (leave p s a) rest

abbrev pub lists_of : List Entry → List (List ℕ)
lists_of [] = []
lists_of (e ∷ es) = (e.number ∷ []) ∷ e.cells ∷ e.functions ∷ lists_of es

abbrev pub same_lists : List (List ℕ) → List (List ℕ) → Bool
same_lists [] [] = true
same_lists [] (y ∷ ys) = false
same_lists (x ∷ xs) [] = false
same_lists (x ∷ xs) (y ∷ ys) = same x y && same_lists xs ys

abbrev pub same_draft : Draft → Draft → Bool
same_draft d e = eqb d.«open» e.«open» && eqb d.marks e.marks

abbrev pub holds : Row → Bool
holds (called p t n calls numbered xs d list) =
    let s = final_state p (start t n) calls in
    same (numbers p (start t n) calls) numbered && (same (listed (cell_total p) (refined s.tables.cells)) xs && (same_draft s.draft d && same s.list list))
holds (kept p t n calls lists) = same_lists (lists_of (state_log p (start t n) calls)) lists
holds (opened p t d e) = same_draft (draft_after_open p t.cells t.functions d) e
holds (read_into file t d e) = same_draft (draft_after_read file t.cells t.functions d) e

-- what stands in a `let` is computed only where it is asked for
abbrev pub all_hold : List Row → Bool
all_hold [] = true
all_hold (r ∷ rs) = let rest = all_hold rs in holds r && rest

-- ---- the table

abbrev draft : ℕ → ℕ → Draft
draft n marks = record { «open» = n; marks = marks }

-- lists of so many entries, lent to a call
abbrev room : ℕ → ℕ → LentLists
room n m = record { cells = replicate n 77; functions = replicate m 77 }

-- a split or a join without heights, and a split with so many heights, all of this many units
abbrev change : Direction → By → List ℕ → DraftCall
change way by marks = changing (plain (record { direction = way; by = by; marks = marks; room = room 3 6 }))

abbrev carry : ℕ → ℕ → List ℕ → DraftCall
carry n h marks = changing (carrying cells (replicate n (pos h)) marks (room 3 6))

-- two cells of two levels, class 0: 10 cells and 21 functions
abbrev S : Plan
S = plan 2 1 2 1 1 0

-- tables that 6 refuses
abbrev mislabelled : Tables
mislabelled = tables (fresh S).cells (refining S (0 ∷ [])).functions

-- one cell of one level, of degree 3: 8 functions
abbrev cubic : Plan
cubic = plan 1 1 1 3 1 0

-- cell 0 is split; 4 is added, then 3 and 0, which adds neither since 0 is split, then 4 again and 3
abbrev graded : List DraftCall
graded = opening ∷ adding (4 ∷ []) ∷ adding (3 ∷ 0 ∷ []) ∷ adding (4 ∷ 3 ∷ []) ∷ change refine cells (2 ∷ []) ∷ closing (room 3 4) ∷ []

pub table : List Row
table =
    -- closed, 3 and 4 are split, and 1, which 4 needs, as by one split
    called W2 (refining W2 (0 ∷ [])) 4 graded (0 ∷ 0 ∷ 8 ∷ 0 ∷ 18 ∷ 0 ∷ []) (0 ∷ 1 ∷ 3 ∷ 4 ∷ []) no_draft (4 ∷ 4 ∷ 3 ∷ 77 ∷ [])
    ∷ kept W2 (refining W2 (0 ∷ [])) 4 graded ((18 ∷ []) ∷ [] ∷ [] ∷ (0 ∷ []) ∷ (1 ∷ 3 ∷ 4 ∷ []) ∷ (1 ∷ 5 ∷ 8 ∷ 9 ∷ []) ∷ [])
    -- a list exactly full, and one mark more; repeats take an entry each; no mark at all always fits
    ∷ called S (fresh S) 2 (opening ∷ adding (0 ∷ []) ∷ adding (1 ∷ 1 ∷ []) ∷ adding (0 ∷ []) ∷ adding (1 ∷ []) ∷ adding [] ∷ []) (0 ∷ 0 ∷ 10 ∷ 0 ∷ 10 ∷ 0 ∷ []) [] (draft 1 2) (0 ∷ 0 ∷ [])
    -- 7, 8 and 9 before 10, the marks in list order
    ∷ called S (refining S (0 ∷ [])) 1
    (opening ∷ adding (1 ∷ 10 ∷ 0 ∷ []) ∷ adding (1 ∷ 0 ∷ 10 ∷ []) ∷ adding (1 ∷ 2 ∷ []) ∷ adding (1 ∷ 1 ∷ []) ∷ []) (0 ∷ 7 ∷ 8 ∷ 9 ∷ 10 ∷ []) (0 ∷ []) (draft 1 0) (77 ∷ [])
    -- none is open: 19 before the marks, and after 6
    ∷ called S (fresh S) 1 (adding (10 ∷ []) ∷ closing (room 0 0) ∷ dropping ∷ []) (19 ∷ 19 ∷ 19 ∷ []) [] no_draft (77 ∷ [])
    ∷ called S mislabelled 1 (adding (10 ∷ []) ∷ closing (room 0 0) ∷ dropping ∷ []) (6 ∷ 6 ∷ 6 ∷ []) [] no_draft (77 ∷ [])
    -- one is open: 18 for a second draft, for each split and join, before the marks, and after 6
    ∷ called S (refining S (0 ∷ [])) 1
    (opening ∷ opening ∷ change refine cells (10 ∷ []) ∷ change refine functions (1 ∷ []) ∷ change coarsen cells (0 ∷ []) ∷ change coarsen functions (0 ∷ []) ∷ [])
    (0 ∷ 18 ∷ 18 ∷ 18 ∷ 18 ∷ 18 ∷ []) (0 ∷ []) (draft 1 0) (77 ∷ [])
    ∷ called S mislabelled 1 (writing (draft 1 0) (77 ∷ []) ∷ opening ∷ change refine cells (10 ∷ []) ∷ []) (0 ∷ 6 ∷ 6 ∷ []) [] (draft 1 0) (77 ∷ [])
    -- 18 before 3, 15 and 14 of the heights, which come where none is open
    ∷ called S (fresh S) 0 (opening ∷ carry 20 0 [] ∷ carry 21 65537 [] ∷ dropping ∷ carry 20 0 [] ∷ carry 21 65537 [] ∷ []) (0 ∷ 18 ∷ 18 ∷ 0 ∷ 3 ∷ 15 ∷ []) [] no_draft []
    ∷ called cubic (fresh cubic) 0 (opening ∷ carry 8 0 [] ∷ dropping ∷ carry 8 0 [] ∷ []) (0 ∷ 18 ∷ 0 ∷ 14 ∷ []) [] no_draft []
    -- more marks than entries count as none: 19, and a split is made; as many are open
    ∷ called S (fresh S) 2 (writing (draft 1 3) (0 ∷ 1 ∷ []) ∷ adding [] ∷ closing (room 3 6) ∷ dropping ∷ change refine cells (0 ∷ []) ∷ []) (0 ∷ 19 ∷ 19 ∷ 19 ∷ 0 ∷ []) (0 ∷ []) (draft 1 3) (0 ∷ 1 ∷ [])
    ∷ called S (fresh S) 2 (writing (draft 1 2) (0 ∷ 1 ∷ []) ∷ change refine cells (0 ∷ []) ∷ closing (room 3 6) ∷ []) (0 ∷ 18 ∷ 0 ∷ []) (0 ∷ 1 ∷ []) no_draft (0 ∷ 1 ∷ [])
    -- any number but 0 is open, and stays
    ∷ called S (fresh S) 2 (writing (draft 5 1) (0 ∷ 77 ∷ []) ∷ adding (1 ∷ []) ∷ []) (0 ∷ 0 ∷ []) [] (draft 5 2) (0 ∷ 1 ∷ [])
    -- closing judges the marks once more, and then the lent lists; refused, the draft stays as it is
    ∷ called S (fresh S) 2 (writing (draft 1 2) (0 ∷ 10 ∷ []) ∷ closing (room 3 6) ∷ []) (0 ∷ 7 ∷ []) [] (draft 1 2) (0 ∷ 10 ∷ [])
    ∷ called S (fresh S) 2
    (opening ∷ adding (0 ∷ 1 ∷ []) ∷ closing (room 1 6) ∷ closing (room 2 5) ∷ closing (room 2 6) ∷ closing (room 2 6) ∷ []) (0 ∷ 0 ∷ 10 ∷ 11 ∷ 0 ∷ 19 ∷ []) (0 ∷ 1 ∷ []) no_draft (0 ∷ 1 ∷ [])
    -- dropped, nothing is split, and another draft begins without marks
    ∷ called S (fresh S) 2 (opening ∷ adding (0 ∷ []) ∷ dropping ∷ opening ∷ adding (1 ∷ []) ∷ []) (0 ∷ 0 ∷ 0 ∷ 0 ∷ 0 ∷ []) [] (draft 1 1) (1 ∷ 77 ∷ [])
    -- open and read drop it; refused, with 3 and with 12, they do not
    ∷ opened S mislabelled (draft 1 2) no_draft
    ∷ opened S (tables (fresh S).cells []) (draft 1 2) (draft 1 2)
    ∷ read_into (2 ∷ 1 ∷ 2 ∷ 1 ∷ 1 ∷ 0 ∷ 0 ∷ []) mislabelled (draft 1 2) no_draft
    ∷ read_into (2 ∷ 1 ∷ 2 ∷ 1 ∷ 1 ∷ 0 ∷ 1 ∷ []) mislabelled (draft 1 2) (draft 1 2)
    ∷ []

pub worked : T (all_hold table)
unfolding table some every elem all listed tabulate stored first written_at reach needs closure offset number level_of place_on place between numbers_in_range corners_in_range in_range ratio grown too_large last_level above below parent child is_set is_corner corners_to times knot_from knot beyond functionCount covers apart together supported_at supported ancestor common_at near_at near absent active refined reactivable children cell_fits is_mesh is_admissible table_of label_of labels is_labelled refusal3 refusal6 check fresh_cells fresh_functions open_mesh eligible is_too_deep mark_refusal under_marked under_kept selected base smallest changed written refused settle new_cells refusal outcome final_of log_of inexact low low_on all_low heights_refusal tables_refusal refused_with outcome_with_heights direction_of codec.above decode_groups decode_number front onward decode_numbers decode_behind decode_rising no_corners not_zeros decode_corners with_corners with_cells with_head decode_file rebuilt refusal13 read_refusal answered_plan read_file read_mesh is_open refusal18 refusal19 open_draft drop_draft add_refusal add_marks close_draft outcome_with_draft outcome_with_heights_and_draft draft_after_open draft_after_read seasons.changed closed added leave keep
worked = tt
