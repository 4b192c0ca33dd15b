-- Whole sessions, computed: document 01's sample, and what its words and document 02's leave to try. Assumes nothing.
use Prim.Native.String.{String}
use mathlib.Core.Bool.{Bool, true, ◌&&◌}
use mathlib.Core.List.{List, [], ◌∷◌}
use lib.Dec.{T}
use Rattle.facts.specs.Bounded.{some, every, sum}
use Rattle.facts.specs.Numbers.{elem, all, listed, tabulate, stored, first}
use Rattle.hierarchy.specs.Hierarchy.{reach, needs, closure}
use Rattle.grid.specs.Numbering.{offset, number, level_of, place_on, place}
use Rattle.grid.specs.Plan.{between, numbers_in_range, corners_in_range, in_range, ratio, grown, too_large, last_level, above, below, parent, child, supported_at, supported, ancestor, common_at, near_at, near}
use Rattle.grid.specs.Knots.{is_set, is_corner, corners_to, times, knot_from, knot, beyond, functions, covers, apart, together}
use Rattle.mesh.specs.Mesh.{absent, active, refined, children, cell_fits, is_mesh, is_admissible, reactivable, table_of, label_of, labels, is_labelled, refusal3, refusal6, check, fresh_cells, fresh_functions, open_mesh}
use Rattle.outcomes.specs.Calls.{eligible, is_too_deep, mark_refusal, under_marked, under_kept, selected, base, smallest, changed, written, refused, settle, new_cells, refusal, outcome}
use Rattle.lines.specs.Text.{bytes}
use Rattle.lines.specs.Reading.{parts, is_digit, all_digits, value_after, is_number, all_numbers, same, kind_of, meaning_of}
use Rattle.lines.specs.Writing.{last_digits, digits, spaced, items, answer}
use Rattle.script.specs.Session.{opening, calling, step_of, replies_from, replies, joined, session}

-- an input, and all that is printed
pub data Row : Type 0 where
  prints : String → String → Row

abbrev pub holds : Row → Bool
holds (prints input output) = same (session (bytes input)) (bytes output)

abbrev pub all_hold : List Row → Bool
all_hold [] = true
all_hold (r ∷ rs) = let rest = all_hold rs in holds r && rest

pub table : List Row
table =
    -- document 01's sample, as Req 12 has it
    prints "wall 3 1 3 1 1 2\nsplit 0\nsplit 3\njoin 1\n" "0;;\n0;0;0 4\n0;3;8\n8;;\n"
    -- the README's, examples/session.txt: the last line takes the third back
    ∷ prints "wall 3 1 3 1 1 2\nsplit 0\nsplit 4\njoin 1\njoin 1 4\n" "0;;\n0;0;0 4\n0;1 4;1 5\n0;;\n0;1 4;1 5\n"
    -- no input, and a line that cannot be read; a mark line before any wall
    ∷ prints "" ""
    ∷ prints "\nsplit 0" "?\n?\n"
    -- a wall that is refused, and one that is large, keep the earlier one
    ∷ prints "wall 1 1 2 1 1 0\nsplit 0\nwall 0 1 2 1 1 0\nwall 16 16 5 1 1 0\nwall 1 1 8 1 1 0\njoin 0\n" "0;;\n0;0;0 1 2 3\n1;;\n2;;\nlarge\n0;0;0 1 2 3\n"
    -- 4,095 cells, the most that a plan of at most 4,096 has; 4,116, the fewest of one with more
    ∷ prints "wall 13 15 3 1 1 0\nwall 14 14 3 1 1 0" "0;;\nlarge\n"
    -- Req 05: two numbers more, one alone, and bits outside 1 to A-1 or B-1
    ∷ prints "wall 2 1 2 1 1 0 2 0\nsplit 0\nwall 2 1 2 1 1 0 2\nwall 2 1 2 1 1 0 1 0\nwall 2 1 2 1 1 0 4 0\nwall 2 1 2 1 1 0 0 2\njoin 0\n" "0;;\n0;0;0 3\n?\n1;;\n1;;\n1;;\n0;0;0 3\n"
    -- a corner before column 1: two functions across lie over column 0 alone
    ∷ prints "wall 2 1 2 2 1 0 2 0\nsplit 0\n" "0;;\n0;0;0 1 5 6\n"
    -- by functions
    ∷ prints "wall 3 1 3 1 1 0\nfsplit 1\nfjoin 1 5\n" "0;;\n0;0 1;0 1 4 5\n0;1;1 5\n"
    ∷ []

pub sample : T (all_hold table)
unfolding table opening calling step_of replies_from replies joined session parts is_digit all_digits value_after is_number all_numbers same kind_of meaning_of last_digits digits spaced items answer some every sum elem all listed tabulate stored first reach needs closure offset number level_of place_on place between numbers_in_range corners_in_range in_range ratio grown too_large last_level above below parent child is_set is_corner corners_to times knot_from knot beyond functions covers apart together supported_at supported ancestor common_at near_at near absent active refined children cell_fits is_mesh is_admissible label_of labels is_labelled refusal3 refusal6 check fresh_cells fresh_functions open_mesh reactivable eligible is_too_deep mark_refusal under_marked under_kept selected base table_of smallest changed written refused settle new_cells refusal outcome
sample = tt
