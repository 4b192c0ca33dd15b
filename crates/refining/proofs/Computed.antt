-- Refinements with heights computed from their definition. Assumes nothing.
use mathlib.Core.Bool.{cond}
use mathlib.Core.List.{List, [], ◌∷◌}
use mathlib.Core.Path.{◌≡◌, refl}
use Prim.Native.Nat.{ℕ}
use lib.Dec.{eqb}
use lib.IntN.{ℤ, pos, negsuc}
use lib.Ieee.{odd, of_bits, binary64}
use lib.ListN.{get_or}
use Rattle.facts.specs.Bounded.{some, every}
use Rattle.facts.specs.Numbers.{elem, listed, tabulate, stored, first}
use Rattle.hierarchy.specs.Hierarchy.{reach, needs, closure}
use Rattle.exact.specs.Dyadic.{over, dyadic}
use Rattle.exact.specs.Sums.{sumℤ}
use Rattle.grid.specs.declared.Plan.{Plan}
use Rattle.grid.specs.Numbering.{offset, number, level_of, place_on, place}
use Rattle.grid.specs.Knots.{is_set, is_corner, corners_to, times, knot_from, knot, beyond, functions as functionCount, covers, apart, together}
use Rattle.grid.specs.Plan.{between, numbers_in_range, corners_in_range, in_range, too_large, ratio, grown, above, below, parent, child, last_level, supported_at, supported, ancestor, common_at, near_at, near, plan_of, function_total}
use Rattle.mesh.specs.Mesh.{absent, active, refined, reactivable, children, cell_fits, is_mesh, is_admissible, table_of, label_of, labels, is_labelled, refusal3, refusal6, check}
use Rattle.outcomes.specs.Calls.{coarsen, cells as byCells, functions as byFunctions, under_kept, eligible, is_too_deep, mark_refusal, under_marked, selected, base, smallest, changed, written, refused, settle, new_cells, refusal, outcome}
use Rattle.outcomes.specs.Runs.{Tables, LentLists, Entry, result}
use Rattle.outcomes.specs.Runs as runs
use Rattle.splines.specs.Values.{rise, fall, box, basis, scale, cell_of, value, value_in, value_on}
use Rattle.heights.specs.Height.{At}
use Rattle.heights.specs.Heights.{eighths, on_mesh, value_at, product_of, height_sum, inexact, low, low_on, all_low, heights_refusal, refusal as pointRefusal, answer}
use Rattle.twoscale.specs.TwoScale.{coefficient, quarters}
use Rattle.carry.specs.Carry.{sixteenths, heights_of, pass_on, carried, only_active, carry}
use Rattle.refining.specs.Seasons.{SeasonCall, plain, carrying, direction_of, result_of, after_it, entry_of, final_of, log_of}
use Rattle.refining.specs.Refining.{WithHeights, tables_refusal, refused_with, carry_into, outcome_with_heights, refine_cells_with_heights}

-- the call by cells on the mesh with the cells of `old` refined; lists of these lengths, of entries 77
abbrev pub refine_with : List ℕ → List ℕ → (ℕ → ℤ) → List ℕ → ℕ → ℕ → WithHeights
refine_with plan old h marks cell_room function_room =
    let p = plan_of plan in
    let cells = table_of p (λ c. elem c old) in
    refine_cells_with_heights p cells (labels p cells) (heights_of (function_total p) h) marks (tabulate cell_room (λ i. 77)) (tabulate function_room (λ i. 77))

-- a for function f, b for function g, 0 for the others
abbrev pub two : ℕ → ℤ → ℕ → ℤ → ℕ → ℤ
two f a g b i = cond (eqb i f) a (cond (eqb i g) b (pos 0))

-- of an outcome the number and the lengths, the refined cells, the deactivated functions, both lists
abbrev pub tables : WithHeights → List (List ℕ)
tables w =
    (w.outcome.answer.number ∷ w.outcome.answer.cells ∷ w.outcome.answer.functions ∷ [])
    ∷ listed 42 (refined w.outcome.cells)
    ∷ listed 76 (refined w.outcome.functions)
    ∷ w.outcome.cell_list
    ∷ w.outcome.function_list
    ∷ []

-- and some of its heights
unfoldable pub some_of : List ℕ → WithHeights → List ℤ
some_of [] w = []
some_of (f ∷ fs) w = get_or w.heights f (pos 0) ∷ some_of fs w

-- degrees 1 and 1, two levels, cell 0 is refined already; cell 1 is marked, so that function 1 becomes deactivated and passes half of its
-- height to function 7
abbrev pub at_limit : ℤ → List ℕ → ℕ → ℕ → WithHeights
at_limit h = refine_with (2 ∷ 1 ∷ 2 ∷ 1 ∷ 1 ∷ 0 ∷ []) (0 ∷ []) (two 1 (pos 1) 7 h)

-- tables and lists are those of the call without heights; entries past the lengths keep their values
pub accepted :
    tables (at_limit (pos 1048568) (1 ∷ []) 2 5)
    ≡ (0 ∷ 1 ∷ 4 ∷ []) ∷ (0 ∷ 1 ∷ []) ∷ (0 ∷ 1 ∷ 2 ∷ 3 ∷ 4 ∷ 5 ∷ []) ∷ (1 ∷ 77 ∷ []) ∷ (1 ∷ 2 ∷ 4 ∷ 5 ∷ 77 ∷ []) ∷ []
unfolding some every elem listed tabulate stored first reach needs closure offset number level_of place_on place between numbers_in_range corners_in_range in_range ratio grown too_large last_level above below parent child is_set is_corner corners_to times knot_from knot beyond functionCount covers apart together supported_at supported ancestor common_at near_at near absent active refined children cell_fits is_mesh is_admissible table_of label_of labels is_labelled refusal3 refusal6 check eligible is_too_deep mark_refusal under_marked selected base smallest changed written refused settle new_cells refusal outcome rise fall box basis scale cell_of inexact low low_on all_low heights_refusal coefficient quarters sixteenths heights_of pass_on carried only_active carry tables_refusal refused_with carry_into outcome_with_heights
accepted = refl

-- a sixteenth of a millimetre above the limit: nothing is changed
pub kept :
    tables (at_limit (pos 1048569) (1 ∷ []) 2 5)
    ≡ (17 ∷ 0 ∷ 0 ∷ []) ∷ (0 ∷ []) ∷ (0 ∷ 3 ∷ []) ∷ (77 ∷ 77 ∷ []) ∷ (77 ∷ 77 ∷ 77 ∷ 77 ∷ 77 ∷ []) ∷ []
unfolding some every elem listed tabulate stored first reach needs closure offset number level_of place_on place between numbers_in_range corners_in_range in_range ratio grown too_large last_level above below parent child is_set is_corner corners_to times knot_from knot beyond functionCount covers apart together supported_at supported ancestor common_at near_at near absent active refined children cell_fits is_mesh is_admissible table_of label_of labels is_labelled refusal3 refusal6 check eligible is_too_deep mark_refusal under_marked selected base smallest changed written refused settle new_cells refusal outcome rise fall box basis scale cell_of inexact low low_on all_low heights_refusal coefficient quarters sixteenths heights_of pass_on carried only_active carry tables_refusal refused_with carry_into outcome_with_heights
kept = refl

-- degrees 2 and 1, three levels, cell 0 is refined already; cell 1 and four cells of level 1 are marked. Function 9 of level 1 becomes
-- deactivated, and on its way it has 65,536 mm of its own and gets 4,096 more
abbrev pub on_its_way : WithHeights
on_its_way = refine_with (2 ∷ 1 ∷ 3 ∷ 2 ∷ 1 ∷ 0 ∷ []) (0 ∷ []) (two 1 (pos 8192) 9 (pos 1048576)) (1 ∷ 2 ∷ 3 ∷ 6 ∷ 7 ∷ []) 42 76

pub worked :
    -- exactly 65,536 mm; above it, which keeps the heights
    some_of (1 ∷ 7 ∷ 8 ∷ []) (at_limit (pos 1048568) (1 ∷ []) 2 5)
    ∷ some_of (1 ∷ 7 ∷ 8 ∷ []) (at_limit (pos 1048569) (1 ∷ []) 2 5)
    -- a deactivated function above the limit is no reason to refuse: its children, on level 2, get 1/2, 3/4 and 1/4 of that, which is less
    ∷ some_of (1 ∷ 9 ∷ 10 ∷ 11 ∷ 27 ∷ 28 ∷ 29 ∷ []) on_its_way
    ∷ []
    ≡ (pos 0 ∷ pos 1048576 ∷ pos 16 ∷ [])
    ∷ (pos 1 ∷ pos 1048569 ∷ pos 0 ∷ [])
    ∷ (pos 0 ∷ pos 0 ∷ pos 98304 ∷ pos 32768 ∷ pos 8912896 ∷ pos 13369344 ∷ pos 4456448 ∷ [])
    ∷ []
unfolding some every elem listed tabulate stored first reach needs closure offset number level_of place_on place between numbers_in_range corners_in_range in_range ratio grown too_large last_level above below parent child is_set is_corner corners_to times knot_from knot beyond functionCount covers apart together supported_at supported ancestor common_at near_at near absent active refined children cell_fits is_mesh is_admissible table_of label_of labels is_labelled refusal3 refusal6 check eligible is_too_deep mark_refusal under_marked selected base smallest changed written refused settle new_cells refusal outcome rise fall box basis scale cell_of inexact low low_on all_low heights_refusal coefficient quarters sixteenths heights_of pass_on carried only_active carry tables_refusal refused_with carry_into outcome_with_heights some_of
worked = refl

-- which refusal is given: 10 and 11 before 17; 15 before the marks; 14 and 3 before 15; one of check before all of them
abbrev pub number_of : WithHeights → ℕ
number_of w = w.outcome.answer.number

-- one cell of degrees 3 and 1 with so many heights, all too large, and a mark that there is not
abbrev pub cubic : ℕ → WithHeights
cubic n =
    let p = plan_of (1 ∷ 1 ∷ 1 ∷ 3 ∷ 1 ∷ 0 ∷ []) in
    refine_cells_with_heights p (1 ∷ []) (tabulate 8 (λ f. 1)) (heights_of n (λ f. pos 65537)) (9 ∷ []) [] []

pub order :
    number_of (at_limit (pos 1048569) (1 ∷ []) 2 4)
    ∷ number_of (at_limit (pos 1048569) (1 ∷ []) 2 3)
    ∷ number_of (at_limit (pos 1048569) (1 ∷ []) 0 3)
    ∷ number_of (at_limit (pos 1048569) (10 ∷ 1 ∷ []) 0 3)
    ∷ number_of (at_limit (pos 1048577) (10 ∷ 1 ∷ []) 0 3)
    ∷ number_of (cubic 8)
    ∷ number_of (cubic 7)
    ∷ number_of (refine_cells_with_heights (plan_of (1 ∷ 1 ∷ 1 ∷ 1 ∷ 1 ∷ 0 ∷ [])) (1 ∷ []) (2 ∷ 1 ∷ 1 ∷ 1 ∷ []) (heights_of 4 (λ f. pos 65537)) [] [] [])
    ∷ []
    ≡ 17 ∷ 11 ∷ 10 ∷ 7 ∷ 15 ∷ 14 ∷ 3 ∷ 6 ∷ []
unfolding some every elem listed tabulate stored first reach needs closure offset number level_of place_on place between numbers_in_range corners_in_range in_range ratio grown too_large last_level above below parent child is_set is_corner corners_to times knot_from knot beyond functionCount covers apart together supported_at supported ancestor common_at near_at near absent active refined children cell_fits is_mesh is_admissible table_of label_of labels is_labelled refusal3 refusal6 check eligible is_too_deep mark_refusal under_marked selected base smallest changed written refused settle new_cells refusal outcome rise fall box basis scale cell_of inexact low low_on all_low heights_refusal coefficient quarters sixteenths heights_of pass_on carried only_active carry tables_refusal refused_with carry_into outcome_with_heights
order = refl

-- degrees 1 and 1, three levels: function 7 of level 1, 65,536 mm, gets half as much again from function 1 and becomes deactivated too; it
-- is the function of level 2 in its place, not active before, that passes the limit
pub became :
    number_of (refine_with (2 ∷ 1 ∷ 3 ∷ 1 ∷ 1 ∷ 0 ∷ []) (0 ∷ []) (two 1 (pos 65536) 7 (pos 1048576)) (1 ∷ 2 ∷ 3 ∷ 6 ∷ 7 ∷ []) 42 66)
    ∷ number_of (refine_with (2 ∷ 1 ∷ 3 ∷ 1 ∷ 1 ∷ 0 ∷ []) (0 ∷ []) (two 1 (pos 65536) 7 (pos 524288)) (1 ∷ 2 ∷ 3 ∷ 6 ∷ 7 ∷ []) 42 66)
    ∷ []
    ≡ 17 ∷ 0 ∷ []
unfolding some every elem listed tabulate stored first reach needs closure offset number level_of place_on place between numbers_in_range corners_in_range in_range ratio grown too_large last_level above below parent child is_set is_corner corners_to times knot_from knot beyond functionCount covers apart together supported_at supported ancestor common_at near_at near absent active refined children cell_fits is_mesh is_admissible table_of label_of labels is_labelled refusal3 refusal6 check eligible is_too_deep mark_refusal under_marked selected base smallest changed written refused settle new_cells refusal outcome rise fall box basis scale cell_of inexact low low_on all_low heights_refusal coefficient quarters sixteenths heights_of pass_on carried only_active carry tables_refusal refused_with carry_into outcome_with_heights
became = refl

-- ---- the same height, to the bit: degrees 2 and 1, three columns with a corner before the second, all of which become refined. Functions 1 and
-- 2 have -10 and 64 mm; at the point 12, 3 they have the values 3/8 and 9/16 across, and 13/16 up

abbrev pub cornered : Plan
cornered = plan_of (3 ∷ 1 ∷ 2 ∷ 2 ∷ 1 ∷ 0 ∷ 2 ∷ 0 ∷ [])

abbrev pub bumped : List ℤ
bumped = heights_of (function_total cornered) (two 1 (negsuc 9) 2 (pos 64))

abbrev pub smooth : List ℕ
smooth = table_of cornered (λ c. elem c [])

abbrev pub split : WithHeights
split = refine_cells_with_heights cornered smooth (labels cornered smooth) bumped (0 ∷ 1 ∷ 2 ∷ []) (tabulate 3 (λ i. 77)) (tabulate 12 (λ i. 77))

pub stays :
    answer cornered smooth (labels cornered smooth) bumped 12 3
    ∷ answer cornered split.outcome.cells split.outcome.functions split.heights 12 3
    ∷ []
    ≡ At (of_bits binary64 0x403a_3400_0000_0000)
    ∷ At (of_bits binary64 0x403a_3400_0000_0000)
    ∷ []
unfolding some every elem listed tabulate stored first reach needs closure offset number level_of place_on place between numbers_in_range corners_in_range in_range ratio grown too_large last_level above below parent child is_set is_corner corners_to times knot_from knot beyond functionCount covers apart together supported_at supported ancestor common_at near_at near absent active refined children cell_fits is_mesh is_admissible table_of label_of labels is_labelled refusal3 refusal6 check eligible is_too_deep mark_refusal under_marked selected base smallest changed written refused settle new_cells refusal outcome rise fall box basis scale cell_of inexact low low_on all_low heights_refusal coefficient quarters sixteenths heights_of pass_on carried only_active carry tables_refusal refused_with carry_into outcome_with_heights value value_in value_on eighths on_mesh value_at product_of height_sum pointRefusal answer sumℤ over dyadic odd of_bits
stays = refl

-- ---- a season: a refinement with heights, one that is refused with 15, and a coarsening without heights

abbrev pub opened : Tables
opened =
    let p = plan_of (2 ∷ 1 ∷ 2 ∷ 1 ∷ 1 ∷ 0 ∷ []) in
    let none = table_of p (λ c. elem c []) in
    record { cells = none; functions = labels p none }

abbrev pub lists : LentLists
lists = record { cells = 77 ∷ 77 ∷ []; functions = 77 ∷ 77 ∷ 77 ∷ 77 ∷ 77 ∷ [] }

abbrev pub season : List SeasonCall
season =
    carrying byCells (heights_of 21 (λ f. pos 65536)) (0 ∷ []) lists
    ∷ carrying byFunctions (heights_of 21 (λ f. pos 1048576)) (1 ∷ []) lists
    ∷ plain (record { direction = coarsen; by = byCells; marks = 0 ∷ []; room = lists })
    ∷ []

-- what is kept of each: its number, cells and functions; and the refined cells at the end
unfoldable pub kept_of : List Entry → List (List (List ℕ))
kept_of [] = []
kept_of (e ∷ es) = ((e.number ∷ []) ∷ e.cells ∷ e.functions ∷ []) ∷ kept_of es

pub seasons :
    (listed 10 (refined (final_of (plan_of (2 ∷ 1 ∷ 2 ∷ 1 ∷ 1 ∷ 0 ∷ [])) opened season).cells) ∷ [])
    ∷ kept_of (log_of (plan_of (2 ∷ 1 ∷ 2 ∷ 1 ∷ 1 ∷ 0 ∷ [])) opened season)
    ≡ ([] ∷ [])
    ∷ ((0 ∷ []) ∷ (0 ∷ []) ∷ (0 ∷ 3 ∷ []) ∷ [])
    ∷ ((15 ∷ []) ∷ [] ∷ [] ∷ [])
    ∷ ((0 ∷ []) ∷ (0 ∷ []) ∷ (0 ∷ 3 ∷ []) ∷ [])
    ∷ []
unfolding some every elem listed tabulate stored first reach needs closure offset number level_of place_on place between numbers_in_range corners_in_range in_range ratio grown too_large last_level above below parent child is_set is_corner corners_to times knot_from knot beyond functionCount covers apart together supported_at supported ancestor common_at near_at near absent active refined children cell_fits is_mesh is_admissible table_of label_of labels is_labelled refusal3 refusal6 check eligible is_too_deep mark_refusal under_marked selected base smallest changed written refused settle new_cells refusal outcome rise fall box basis scale cell_of inexact low low_on all_low heights_refusal coefficient quarters sixteenths heights_of pass_on carried only_active carry tables_refusal refused_with carry_into outcome_with_heights reactivable under_kept result direction_of result_of after_it entry_of runs.final_of runs.log_of kept_of
seasons = refl
