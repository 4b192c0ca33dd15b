-- The functions of one level over a cell, and their bytes, computed from the definitions on meshes of document 01 and some more. Assumes nothing.
use mathlib.Core.List.{List, [], ◌∷◌, map}
use mathlib.Core.Path.{◌≡◌, refl}
use Prim.Native.Nat.{ℕ}
use lib.ListN.{get_or}
use Rattle.facts.specs.Bounded.{some, every, sum}
use Rattle.facts.specs.Numbers.{elem, tabulate, listed}
use Rattle.grid.specs.Numbering.{offset, number, level_of, place_on, place}
use Rattle.grid.specs.Plan.{between, numbers_in_range, corners_in_range, in_range, too_large, ratio, grown, above, below, parent, child, last_level, supported_at, supported, ancestor, common_at, near_at, near, cell_level, plan_of}
use Rattle.grid.specs.Knots.{is_set, is_corner, corners_to, times, knot_from, knot, beyond, functions, covers, apart, together}
use Rattle.mesh.specs.Mesh.{absent, active, refined, children, cell_fits, is_mesh, is_admissible, table_of, label_of, labels, is_labelled, refusal3, refusal6, check}
use Rattle.basis.specs.Basis.{finest, cell_over, in_support}
use Rattle.basis.specs.Levels.{in_cell, over, functions_over}

-- what there is to see of the cell c in the mesh with these refined cells: check's number, the byte and the level of c; the functions of level l
-- over c; their bytes
abbrev pub seen : List ℕ → List ℕ → ℕ → ℕ → List (List ℕ)
seen plan refined_cells c l =
    let p = plan_of plan in
    let cells = table_of p (λ x. elem x refined_cells) in
    let fs = functions_over p l c in
    (check p cells (labels p cells) ∷ get_or cells c 0 ∷ cell_level p c ∷ []) ∷ fs ∷ map (label_of p cells) fs ∷ []

-- document 01's W0 and W2, by their class
abbrev pub small : ℕ → List ℕ
small m = 3 ∷ 1 ∷ 3 ∷ 1 ∷ 1 ∷ m ∷ []

pub worked :
    -- W2 after P7: over cell 15, of level 2, the functions of level 1 are active or deactivated; those of level 0 too, and some are active, so that
    -- three levels are active there
    seen (small 2) (0 ∷ 3 ∷ []) 15 1
    ∷ seen (small 2) (0 ∷ 3 ∷ []) 15 0
    -- cells 0 and 4 refined, which check takes for class 0 and refuses for class 2: over cell 17, of level 2, two functions of level 1 are passive
    ∷ seen (small 0) (0 ∷ 4 ∷ []) 17 1
    ∷ seen (small 2) (0 ∷ 4 ∷ []) 17 1
    -- class 3, degrees 2 and 1: cell 21 is of level 3
    ∷ seen (1 ∷ 1 ∷ 4 ∷ 2 ∷ 1 ∷ 3 ∷ []) (0 ∷ 1 ∷ 5 ∷ []) 21 1
    ∷ []
    ≡ ((0 ∷ 1 ∷ 2 ∷ []) ∷ (8 ∷ 9 ∷ 15 ∷ 16 ∷ []) ∷ (2 ∷ 1 ∷ 1 ∷ 1 ∷ []) ∷ [])
    ∷ ((0 ∷ 1 ∷ 2 ∷ []) ∷ (0 ∷ 1 ∷ 4 ∷ 5 ∷ []) ∷ (2 ∷ 1 ∷ 2 ∷ 1 ∷ []) ∷ [])
    ∷ ((0 ∷ 1 ∷ 2 ∷ []) ∷ (9 ∷ 10 ∷ 16 ∷ 17 ∷ []) ∷ (1 ∷ 0 ∷ 1 ∷ 0 ∷ []) ∷ [])
    ∷ ((5 ∷ 1 ∷ 2 ∷ []) ∷ (9 ∷ 10 ∷ 16 ∷ 17 ∷ []) ∷ (1 ∷ 0 ∷ 1 ∷ 0 ∷ []) ∷ [])
    ∷ ((0 ∷ 1 ∷ 3 ∷ []) ∷ (6 ∷ 7 ∷ 8 ∷ 10 ∷ 11 ∷ 12 ∷ []) ∷ (2 ∷ 1 ∷ 1 ∷ 1 ∷ 1 ∷ 1 ∷ []) ∷ [])
    ∷ []
unfolding some every sum elem tabulate listed offset number level_of place_on place between numbers_in_range corners_in_range in_range too_large ratio grown above below parent child last_level is_set is_corner corners_to times knot_from knot beyond functions covers apart together supported_at supported ancestor common_at near_at near absent active refined children cell_fits is_mesh is_admissible table_of label_of labels is_labelled refusal3 refusal6 check finest cell_over in_support in_cell over functions_over
worked = refl
