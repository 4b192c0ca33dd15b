-- Document 02, Req 05: walls with corners, worked by hand, as rows like those of Examples under one theorem. Assumes nothing.
use mathlib.Core.List.{List, [], ◌∷◌}
use Prim.Native.Nat.{ℕ}
use lib.Dec.{T}
use Rattle.facts.specs.Bounded.{some, every, sum}
use Rattle.facts.specs.Numbers.{elem, all, listed, tabulate, stored, first}
use Rattle.hierarchy.specs.Hierarchy.{reach, needs, closure}
use Rattle.grid.specs.declared.Plan.{Plan}
use Rattle.grid.specs.Numbering.{offset, number, level_of, place_on, place}
use Rattle.grid.specs.Plan.{between, numbers_in_range, corners_in_range, in_range, ratio, grown, too_large, plan_refusal, last_level, above, below, parent, child, supported_at, supported, ancestor, common_at, near_at, near}
use Rattle.grid.specs.Knots.{is_set, is_corner, corners_to, times, knot_from, knot, beyond, functions as functionCount, covers, apart, together}
use Rattle.mesh.specs.Mesh.{absent, active, refined, children, cell_fits, is_mesh, is_admissible, reactivable, table_of, label_of, labels, is_labelled, refusal3, refusal6, check, fresh_cells, fresh_functions, open_mesh}
use Rattle.outcomes.specs.Calls.{cells, functions, eligible, is_too_deep, mark_refusal, under_marked, under_kept, selected, base, smallest, changed, written, refused, settle, new_cells, refusal, outcome}
use Rattle.outcomes.specs.Runs.{covered}
use Rattle.outcomes.proofs.Examples.{Row, newly_active, are, checks, plans, all_hold, fresh, refining, split, join, row}

-- 3 by 1 cells with a corner before column 1: levels, both degrees, class
abbrev cornered : ℕ → ℕ → ℕ → ℕ → Plan
cornered l p q m = record { columns = 3; rows = 1; levels = l; degree_across = p; degree_up = q; class = m; corners_across = 2; corners_up = 0 }

-- bits 0 and 3 lie outside 1 to 2
abbrev outside : ℕ → ℕ → Plan
outside across up = record { columns = 3; rows = 1; levels = 2; degree_across = 1; degree_up = 1; class = 0; corners_across = across; corners_up = up }

pub table : List Row
table =
    let linear = cornered 2 1 1 0 in
    let square = cornered 2 2 2 0 in
    let fresh1 = fresh linear in
    let fresh2 = fresh square in
    -- degree 1: nothing changes. P1, and its way back
    row linear fresh1 (split cells (0 ∷ []) 0 (0 ∷ []) (0 ∷ 4 ∷ []) ∷ []) (newly_active (8 ∷ 9 ∷ 15 ∷ 16 ∷ 22 ∷ 23 ∷ []) ∷ [])
    ∷ row linear (refining linear (0 ∷ [])) (join cells (0 ∷ []) 0 (0 ∷ []) (0 ∷ 4 ∷ []) ∷ []) (are fresh1 ∷ [])
    -- degree 2 has 6 by 3 functions on level 0 and 9 by 4 on level 1. Functions 0 and 1 cover column 0 alone, 2 columns 0 and 1
    ∷ row square fresh2 (split cells (0 ∷ []) 0 (0 ∷ []) (0 ∷ 1 ∷ 6 ∷ 7 ∷ 12 ∷ 13 ∷ []) ∷ [])
    (newly_active (18 ∷ 19 ∷ 20 ∷ 27 ∷ 28 ∷ 29 ∷ 36 ∷ 37 ∷ 38 ∷ 45 ∷ 46 ∷ 47 ∷ []) ∷ [])
    ∷ row square (refining square (0 ∷ [])) (join cells (0 ∷ []) 0 (0 ∷ []) (0 ∷ 1 ∷ 6 ∷ 7 ∷ 12 ∷ 13 ∷ []) ∷ []) (are fresh2 ∷ [])
    -- by functions, there and back. Functions 2, 8 and 14 cover columns 0 and 1: one of them alone takes nothing back, the three cell 1
    ∷ row square fresh2 (split functions (2 ∷ []) 0 (0 ∷ 1 ∷ []) (0 ∷ 1 ∷ 2 ∷ 6 ∷ 7 ∷ 8 ∷ 12 ∷ 13 ∷ 14 ∷ []) ∷ []) (are (refining square (0 ∷ 1 ∷ [])) ∷ [])
    ∷ row square (refining square (0 ∷ 1 ∷ [])) (join functions (0 ∷ 1 ∷ 2 ∷ 6 ∷ 7 ∷ 8 ∷ 12 ∷ 13 ∷ 14 ∷ []) 0 (0 ∷ 1 ∷ []) (0 ∷ 1 ∷ 2 ∷ 6 ∷ 7 ∷ 8 ∷ 12 ∷ 13 ∷ 14 ∷ []) ∷ []) (are fresh2 ∷ [])
    ∷ row square (refining square (0 ∷ 1 ∷ [])) (join functions (2 ∷ []) 0 [] [] ∷ join functions (2 ∷ 8 ∷ 14 ∷ []) 0 (1 ∷ []) (2 ∷ 8 ∷ 14 ∷ []) ∷ []) []
    -- 1: a bit outside, as the only one and with others; in either number
    ∷ row (outside 1 0) fresh1 (split cells (0 ∷ []) 1 [] [] ∷ []) (plans 1 ∷ checks 1 ∷ [])
    ∷ row (outside 10 0) fresh1 [] (plans 1 ∷ checks 1 ∷ [])
    ∷ row (outside 2 2) fresh1 [] (plans 1 ∷ checks 1 ∷ [])
    ∷ row (outside 6 0) fresh1 [] (plans 0 ∷ checks 0 ∷ [])
    ∷ []

-- class 2: after split 0, split 3, of level 1 and column 0, splits no other cell, although column 2, which stands on cell 1, is at most p from
-- it: the corner lies between, and no function covers both. One covers columns 1 and 2, so that split 4 splits cell 1 before it
pub graded : List Row
graded = let plan = cornered 3 2 1 2 in row plan (refining plan (0 ∷ [])) (split cells (3 ∷ []) 0 (3 ∷ []) (12 ∷ []) ∷ []) [] ∷ []

pub graded_across : List Row
graded_across = let plan = cornered 3 2 1 2 in row plan (refining plan (0 ∷ [])) (split cells (4 ∷ []) 0 (1 ∷ 4 ∷ []) (2 ∷ 8 ∷ []) ∷ []) [] ∷ []

pub worked : T (all_hold table)
unfolding table plan_refusal some every sum elem all listed tabulate stored first reach needs closure offset number level_of place_on place between numbers_in_range corners_in_range in_range ratio grown too_large last_level above below parent child is_set is_corner corners_to times knot_from knot beyond functionCount covers apart together supported_at supported ancestor common_at near_at near absent active refined children cell_fits is_mesh is_admissible label_of labels is_labelled refusal3 refusal6 check fresh_cells fresh_functions open_mesh reactivable eligible is_too_deep mark_refusal under_marked under_kept selected base table_of smallest changed written refused settle new_cells refusal outcome covered
worked = tt

pub worked_graded : T (all_hold graded)
unfolding graded some every sum elem all listed tabulate stored first reach needs closure offset number level_of place_on place between numbers_in_range corners_in_range in_range ratio grown too_large last_level above below parent child is_set is_corner corners_to times knot_from knot beyond functionCount covers apart together supported_at supported ancestor common_at near_at near absent active refined children cell_fits is_mesh is_admissible label_of labels is_labelled refusal3 refusal6 check fresh_cells fresh_functions open_mesh reactivable eligible is_too_deep mark_refusal under_marked under_kept selected base table_of smallest changed written refused settle new_cells refusal outcome covered
worked_graded = tt

pub worked_across : T (all_hold graded_across)
unfolding graded_across some every sum elem all listed tabulate stored first reach needs closure offset number level_of place_on place between numbers_in_range corners_in_range in_range ratio grown too_large last_level above below parent child is_set is_corner corners_to times knot_from knot beyond functionCount covers apart together supported_at supported ancestor common_at near_at near absent active refined children cell_fits is_mesh is_admissible label_of labels is_labelled refusal3 refusal6 check fresh_cells fresh_functions open_mesh reactivable eligible is_too_deep mark_refusal under_marked under_kept selected base table_of smallest changed written refused settle new_cells refusal outcome covered
worked_across = tt
