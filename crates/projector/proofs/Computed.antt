-- Outcomes computed from their definition, floats as their bits; the heights were worked out by hand. Assumes nothing.
use mathlib.Core.Bool.{cond}
use mathlib.Core.List.{List, [], ◌∷◌, flat_map}
use mathlib.Core.Path.{◌≡◌, refl}
use Prim.Native.Nat.{ℕ}
use lib.Dec.{eqb}
use lib.IntN.{ℤ, pos, negsuc}
use lib.Ieee.{odd, span, climb, size, to_bits}
use lib.ListN.{replicate}
use Rattle.facts.specs.Bounded.{some, every}
use Rattle.facts.specs.Numbers.{elem, tabulate, listed}
use Rattle.exact.specs.Dyadic.{over, dyadic}
use Rattle.exact.specs.Sums.{sumℤ}
use Rattle.grid.specs.Numbering.{offset, number, level_of, place_on, place}
use Rattle.grid.specs.Knots.{is_set, is_corner, corners_to, times, knot_from, knot, beyond, functions, covers, together}
use Rattle.grid.specs.Plan.{between, numbers_in_range, corners_in_range, in_range, too_large, ratio, grown, above, below, parent, child, last_level, supported_at, supported, ancestor, common_at, near_at, near, plan_of}
use Rattle.mesh.specs.Mesh.{absent, active, refined, children, cell_fits, is_mesh, is_admissible, table_of, label_of, labels, is_labelled, refusal3, refusal6, check}
use Rattle.splines.specs.Values.{rise, fall, box, basis, scale, cell_of, value, value_in, value_on}
use Rattle.heights.specs.Heights.{eighths, value_at, product_of, height_sum, inexact, low, all_low, heights_refusal, low_on}
use Rattle.heights.proofs.Computed.{heights_of, only}
use Rattle.projector.specs.declared.CornersAnswer.{CornersAnswer}
use Rattle.projector.specs.Projector.{line_at, corner_at, corner_of, corners_of, corners, plan_refusal, mesh_refusal, refusal, CornersOutcome, refused, filled, project}

-- the word that stands in the lent output: the bits of a NaN
abbrev pub lent : ℕ
lent = 0x7ff4_0000_0000_0005

-- the mesh with these refined cells, so many heights, and room for n words
abbrev pub project_to : List ℕ → List ℕ → ℕ → (ℕ → ℤ) → ℕ → CornersOutcome
project_to plan refined_cells m f n =
    let p = plan_of plan in
    let cells = table_of p (λ c. elem c refined_cells) in
    project p cells (labels p cells) (heights_of m f) (replicate n lent)

abbrev pub n0 : ℕ
n0 = 0

abbrev pub n1 : ℕ
n1 = 0x3ff0_0000_0000_0000

abbrev pub n2 : ℕ
n2 = 0x4000_0000_0000_0000

abbrev pub n4 : ℕ
n4 = 0x4010_0000_0000_0000

abbrev pub n5 : ℕ
n5 = 0x4014_0000_0000_0000

abbrev pub n6 : ℕ
n6 = 0x4018_0000_0000_0000

abbrev pub n7 : ℕ
n7 = 0x401c_0000_0000_0000

abbrev pub n8 : ℕ
n8 = 0x4020_0000_0000_0000

abbrev pub n12 : ℕ
n12 = 0x4028_0000_0000_0000

abbrev pub n3·5 : ℕ
n3·5 = 0x400c_0000_0000_0000

abbrev pub n1·75 : ℕ
n1·75 = 0x3ffc_0000_0000_0000

abbrev pub m0·5 : ℕ
m0·5 = 0xbfe0_0000_0000_0000

-- ---- document 01's W0, with cells 0 and 1 refined as P3 leaves it: cell 2 and the eight children are active

-- functions 2 and 3 of level 0 with 7 and 5 mm, 9 and 17 of level 1 with 16 and -8 sixteenths; function 1 is deactivated
abbrev pub heights : ℕ → ℤ
heights f = cond (eqb f 1) (pos 2147483647) (cond (eqb f 2) (pos 7) (cond (eqb f 3) (pos 5) (cond (eqb f 9) (pos 16) (cond (eqb f 17) (negsuc 7) (pos 0)))))

-- cell by cell: across, up and height of the lower left, lower right, upper left and upper right corner; two words stay
pub after_p3 :
    (project_to (3 ∷ 1 ∷ 3 ∷ 1 ∷ 1 ∷ 0 ∷ []) (0 ∷ 1 ∷ []) 94 heights 110).out
    ≡ n8 ∷ n0 ∷ n7 ∷ n12 ∷ n0 ∷ n5 ∷ n8 ∷ n4 ∷ n0 ∷ n12 ∷ n4 ∷ n0
    ∷ n0 ∷ n0 ∷ n0 ∷ n2 ∷ n0 ∷ n1 ∷ n0 ∷ n2 ∷ n0 ∷ n2 ∷ n2 ∷ n0
    ∷ n2 ∷ n0 ∷ n1 ∷ n4 ∷ n0 ∷ n0 ∷ n2 ∷ n2 ∷ n0 ∷ n4 ∷ n2 ∷ m0·5
    ∷ n4 ∷ n0 ∷ n0 ∷ n6 ∷ n0 ∷ n3·5 ∷ n4 ∷ n2 ∷ m0·5 ∷ n6 ∷ n2 ∷ n1·75
    ∷ n6 ∷ n0 ∷ n3·5 ∷ n8 ∷ n0 ∷ n7 ∷ n6 ∷ n2 ∷ n1·75 ∷ n8 ∷ n2 ∷ n3·5
    ∷ n0 ∷ n2 ∷ n0 ∷ n2 ∷ n2 ∷ n0 ∷ n0 ∷ n4 ∷ n0 ∷ n2 ∷ n4 ∷ n0
    ∷ n2 ∷ n2 ∷ n0 ∷ n4 ∷ n2 ∷ m0·5 ∷ n2 ∷ n4 ∷ n0 ∷ n4 ∷ n4 ∷ n0
    ∷ n4 ∷ n2 ∷ m0·5 ∷ n6 ∷ n2 ∷ n1·75 ∷ n4 ∷ n4 ∷ n0 ∷ n6 ∷ n4 ∷ n0
    ∷ n6 ∷ n2 ∷ n1·75 ∷ n8 ∷ n2 ∷ n3·5 ∷ n6 ∷ n4 ∷ n0 ∷ n8 ∷ n4 ∷ n0
    ∷ lent ∷ lent ∷ []
unfolding odd span climb size to_bits heights_of some every elem tabulate listed flat_map over dyadic sumℤ offset number level_of place_on place between numbers_in_range corners_in_range in_range too_large ratio grown above below parent child last_level covers together supported_at supported ancestor common_at near_at near absent active refined children cell_fits is_mesh is_admissible table_of label_of labels is_labelled refusal3 refusal6 check is_set is_corner corners_to times knot_from knot beyond functions rise fall box basis scale cell_of value value_in value_on eighths value_at product_of height_sum inexact low all_low heights_refusal low_on line_at corner_at corner_of corners_of corners plan_refusal mesh_refusal refusal refused filled project
after_p3 = refl

-- ---- the answers

abbrev pub said : ℕ → ℕ → CornersAnswer
said n c = record { number = n; corners = c }

-- a plan with empty tables, no heights and no room
abbrev pub bare : List ℕ → CornersAnswer
bare plan = (project (plan_of plan) [] [] [] []).answer

-- "16 where T exceeds 1,024, directly after 2", so before 3: 17 columns; 87,296 cells; 1,029; 1,040; 1,023; 1,020; 980. No plan has 1,024
pub memory :
    bare (17 ∷ 1 ∷ 1 ∷ 1 ∷ 1 ∷ 0 ∷ [])
    ∷ bare (16 ∷ 16 ∷ 5 ∷ 1 ∷ 1 ∷ 0 ∷ [])
    ∷ bare (7 ∷ 7 ∷ 3 ∷ 1 ∷ 1 ∷ 0 ∷ [])
    ∷ bare (13 ∷ 16 ∷ 2 ∷ 1 ∷ 1 ∷ 0 ∷ [])
    ∷ bare (3 ∷ 1 ∷ 5 ∷ 1 ∷ 1 ∷ 0 ∷ [])
    ∷ bare (4 ∷ 3 ∷ 4 ∷ 1 ∷ 1 ∷ 0 ∷ [])
    ∷ bare (14 ∷ 14 ∷ 2 ∷ 1 ∷ 1 ∷ 0 ∷ [])
    ∷ []
    ≡ said 1 0
    ∷ said 2 0
    ∷ said 16 0
    ∷ said 16 0
    ∷ said 3 0
    ∷ said 3 0
    ∷ said 3 0
    ∷ []
unfolding odd span climb size to_bits heights_of some every elem tabulate listed flat_map over dyadic sumℤ offset number level_of place_on place between numbers_in_range corners_in_range in_range too_large ratio grown above below parent child last_level covers together supported_at supported ancestor common_at near_at near absent active refined children cell_fits is_mesh is_admissible table_of label_of labels is_labelled refusal3 refusal6 check is_set is_corner corners_to times knot_from knot beyond functions rise fall box basis scale cell_of value value_in value_on eighths value_at product_of height_sum inexact low all_low heights_refusal low_on line_at corner_at corner_of corners_of corners plan_refusal mesh_refusal refusal refused filled project
memory = refl

-- one cell of two levels has 13 functions with degrees 1 and 1
pub answers :
    -- one active cell, then its four children; one word short; none at all
    (project_to (1 ∷ 1 ∷ 2 ∷ 1 ∷ 1 ∷ 0 ∷ []) [] 13 (only 0 (pos 3)) 12).answer
    ∷ (project_to (1 ∷ 1 ∷ 2 ∷ 1 ∷ 1 ∷ 0 ∷ []) (0 ∷ []) 13 (only 0 (pos 3)) 48).answer
    ∷ (project_to (1 ∷ 1 ∷ 2 ∷ 1 ∷ 1 ∷ 0 ∷ []) (0 ∷ []) 13 (only 0 (pos 3)) 47).answer
    ∷ (project_to (1 ∷ 1 ∷ 2 ∷ 1 ∷ 1 ∷ 0 ∷ []) (0 ∷ []) 13 (only 0 (pos 3)) 0).answer
    -- refused before 10: a height too many, an active height too large, a degree of 3 with both; a last-level cell refined
    ∷ (project_to (1 ∷ 1 ∷ 2 ∷ 1 ∷ 1 ∷ 0 ∷ []) [] 14 (only 0 (pos 65537)) 0).answer
    ∷ (project_to (1 ∷ 1 ∷ 2 ∷ 1 ∷ 1 ∷ 0 ∷ []) [] 13 (only 0 (pos 65537)) 0).answer
    ∷ (project_to (1 ∷ 1 ∷ 1 ∷ 3 ∷ 1 ∷ 0 ∷ []) [] 8 (only 0 (pos 65537)) 0).answer
    ∷ (project_to (1 ∷ 1 ∷ 2 ∷ 3 ∷ 1 ∷ 0 ∷ []) (1 ∷ []) 0 (only 0 (pos 65537)) 0).answer
    ∷ []
    ≡ said 0 4
    ∷ said 0 16
    ∷ said 10 0
    ∷ said 10 0
    ∷ said 3 0
    ∷ said 15 0
    ∷ said 14 0
    ∷ said 4 0
    ∷ []
unfolding odd span climb size to_bits heights_of some every elem tabulate listed flat_map over dyadic sumℤ offset number level_of place_on place between numbers_in_range corners_in_range in_range too_large ratio grown above below parent child last_level covers together supported_at supported ancestor common_at near_at near absent active refined children cell_fits is_mesh is_admissible table_of label_of labels is_labelled refusal3 refusal6 check is_set is_corner corners_to times knot_from knot beyond functions rise fall box basis scale cell_of value value_in value_on eighths value_at product_of height_sum inexact low all_low heights_refusal low_on line_at corner_at corner_of corners_of corners plan_refusal mesh_refusal refusal refused filled project
answers = refl

-- with a refusal the words stay, one word short too
pub kept : (project_to (1 ∷ 1 ∷ 1 ∷ 1 ∷ 1 ∷ 0 ∷ []) [] 4 (only 0 (pos 3)) 11).out ≡ replicate 11 lent
unfolding odd span climb size to_bits heights_of some every elem tabulate listed flat_map over dyadic sumℤ offset number level_of place_on place between numbers_in_range corners_in_range in_range too_large ratio grown above below parent child last_level covers together supported_at supported ancestor common_at near_at near absent active refined children cell_fits is_mesh is_admissible table_of label_of labels is_labelled refusal3 refusal6 check is_set is_corner corners_to times knot_from knot beyond functions rise fall box basis scale cell_of value value_in value_on eighths value_at product_of height_sum inexact low all_low heights_refusal low_on line_at corner_at corner_of corners_of corners plan_refusal mesh_refusal refusal refused filled project
kept = refl
