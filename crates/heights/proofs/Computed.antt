-- Answers computed from their definition, and written as the bits of the float. Assumes nothing.
use mathlib.Core.Bool.{cond}
use mathlib.Core.List.{List, [], ◌∷◌}
use mathlib.Core.Path.{◌≡◌, refl}
use Prim.Native.Nat.{ℕ, zero, suc, ◌^◌}
use lib.Dec.{eqb}
use lib.IntN.{ℤ, pos, negsuc, nat_abs}
use lib.Ieee.{odd, of_bits, binary64}
use Rattle.facts.specs.Bounded.{some, every}
use Rattle.facts.specs.Numbers.{elem, tabulate}
use Rattle.exact.specs.Dyadic.{over, dyadic}
use Rattle.exact.specs.Sums.{sumℤ}
use Rattle.grid.specs.declared.Plan.{Plan}
use Rattle.grid.specs.Numbering.{offset, number, level_of, place_on, place}
use Rattle.grid.specs.Knots.{is_set, is_corner, corners_to, times, knot_from, knot, beyond, functions, covers, together}
use Rattle.grid.specs.Plan.{between, numbers_in_range, corners_in_range, in_range, too_large, ratio, grown, above, below, parent, child, last_level, supported_at, supported, ancestor, common_at, near_at, near, plan_of}
use Rattle.mesh.specs.Mesh.{absent, active, refined, children, cell_fits, is_mesh, is_admissible, table_of, label_of, labels, is_labelled, refusal3, refusal6, check}
use Rattle.splines.specs.Values.{rise, fall, box, basis, scale, cell_of, value, value_in, value_on}
use Rattle.heights.specs.Height.{Height}
use Rattle.heights.specs.Height.{At, Refused}
use Rattle.heights.specs.Heights.{eighths, on_mesh, value_at, product_of, height_sum, places, inexact, low, all_low, heights_refusal, refusal, answer, low_on}
use Rattle.heights.specs.Demands.{touches}

-- a list of n heights
unfoldable pub heights_of : ℕ → (ℕ → ℤ) → List ℤ
heights_of zero f = []
heights_of (suc n) f = f 0 ∷ heights_of n (λ i. f (suc i))

-- one cell of two levels, refined, degrees 1 and 1: functions 0 to 3 are deactivated, 4 to 12 active
abbrev pub refined_cell : Plan
refined_cell = plan_of (1 ∷ 1 ∷ 2 ∷ 1 ∷ 1 ∷ 0 ∷ [])

abbrev pub its_functions : List ℕ
its_functions = 2 ∷ 2 ∷ 2 ∷ 2 ∷ 1 ∷ 1 ∷ 1 ∷ 1 ∷ 1 ∷ 1 ∷ 1 ∷ 1 ∷ 1 ∷ []

-- h for function f, 0 for the others
abbrev pub only : ℕ → ℤ → ℕ → ℤ
only f h g = cond (eqb g f) h (pos 0)

-- function 8, in the middle of level 1, with 16 sixteenths: a millimetre, in parts, and how many parts that is
pub unit : height_sum refined_cell its_functions (heights_of 13 (only 8 (pos 16))) 8 8 ∷ pos (2 ^ places refined_cell.levels) ∷ [] ≡ pos 262144 ∷ pos 262144 ∷ []
unfolding heights_of sumℤ offset number level_of place_on place ratio grown active is_set is_corner corners_to times knot_from knot beyond rise fall box basis scale cell_of value value_in value_on eighths value_at product_of height_sum
unit = refl

-- a deactivated function's height is neither refused nor counted; an active one's is
pub ignored :
    heights_refusal refined_cell its_functions (heights_of 13 (only 0 (pos 2147483647)))
    ∷ heights_refusal refined_cell its_functions (heights_of 13 (only 4 (pos 2147483647)))
    ∷ nat_abs (height_sum refined_cell its_functions (heights_of 13 (only 0 (pos 5))) 0 0)
    ∷ nat_abs (height_sum refined_cell its_functions (heights_of 13 (only 4 (pos 1))) 0 0)
    ∷ []
    ≡ 0 ∷ 15 ∷ 0 ∷ 16384 ∷ []
unfolding every heights_of sumℤ offset number level_of place_on place ratio grown active is_set is_corner corners_to times knot_from knot beyond rise fall box basis scale cell_of value value_in value_on eighths value_at product_of height_sum inexact low all_low heights_refusal low_on
ignored = refl

-- the cells that a point touches, of two columns and two rows and of the finer level: one, two on an edge, four where four meet; one on the
-- far corner
abbrev pub touched : ℕ → ℕ → List ℕ
touched x y = tabulate 20 (λ c. cond (touches (plan_of (2 ∷ 2 ∷ 2 ∷ 1 ∷ 1 ∷ 0 ∷ [])) x y c) 1 0)

pub touching :
    touched 3 4
    ∷ touched 16 4
    ∷ touched 16 16
    ∷ touched 32 32
    ∷ []
    ≡ (1 ∷ 0 ∷ 0 ∷ 0 ∷ 1 ∷ 0 ∷ 0 ∷ 0 ∷ 0 ∷ 0 ∷ 0 ∷ 0 ∷ 0 ∷ 0 ∷ 0 ∷ 0 ∷ 0 ∷ 0 ∷ 0 ∷ 0 ∷ [])
    ∷ (1 ∷ 1 ∷ 0 ∷ 0 ∷ 0 ∷ 1 ∷ 1 ∷ 0 ∷ 0 ∷ 0 ∷ 0 ∷ 0 ∷ 0 ∷ 0 ∷ 0 ∷ 0 ∷ 0 ∷ 0 ∷ 0 ∷ 0 ∷ [])
    ∷ (1 ∷ 1 ∷ 1 ∷ 1 ∷ 0 ∷ 0 ∷ 0 ∷ 0 ∷ 0 ∷ 1 ∷ 1 ∷ 0 ∷ 0 ∷ 1 ∷ 1 ∷ 0 ∷ 0 ∷ 0 ∷ 0 ∷ 0 ∷ [])
    ∷ (0 ∷ 0 ∷ 0 ∷ 1 ∷ 0 ∷ 0 ∷ 0 ∷ 0 ∷ 0 ∷ 0 ∷ 0 ∷ 0 ∷ 0 ∷ 0 ∷ 0 ∷ 0 ∷ 0 ∷ 0 ∷ 0 ∷ 1 ∷ [])
    ∷ []
unfolding tabulate offset number level_of place_on place between ratio grown eighths touches
touching = refl

-- with a degree of 3 and heights that are too large 14 is given, with too few of them 3
abbrev pub cubic : Plan
cubic = plan_of (1 ∷ 1 ∷ 1 ∷ 3 ∷ 2 ∷ 0 ∷ [])

pub order :
    heights_refusal cubic (1 ∷ []) (heights_of 12 (λ f. pos 65537))
    ∷ heights_refusal cubic (1 ∷ []) (heights_of 11 (λ f. pos 65537))
    ∷ []
    ≡ 14 ∷ 3 ∷ []
unfolding every heights_of offset number level_of place_on place ratio grown corners_to beyond active inexact low all_low heights_refusal low_on
order = refl

-- the answer on the mesh with these refined cells, with so many heights
abbrev pub answer_to : List ℕ → List ℕ → ℕ → (ℕ → ℤ) → ℕ → ℕ → Height
answer_to plan refined_cells n f x y =
    let p = plan_of plan in
    let cells = table_of p (λ c. elem c refined_cells) in
    answer p cells (labels p cells) (heights_of n f) x y

-- the height with these bits
abbrev pub bits : ℕ → Height
bits b = At (of_bits binary64 b)

-- one cell of two levels, refined, as above; after document 01's P3 answers are computed in `nudge`
abbrev pub on_finer : (ℕ → ℤ) → ℕ → ℕ → Height
on_finer = answer_to (1 ∷ 1 ∷ 2 ∷ 1 ∷ 1 ∷ 0 ∷ []) (0 ∷ []) 13

-- one cell, degrees 2 and 2, two levels, nothing refined: 25 functions; and plans that heights do not allow
abbrev pub one_cell : (ℕ → ℤ) → ℕ → ℕ → Height
one_cell = answer_to (1 ∷ 1 ∷ 2 ∷ 2 ∷ 2 ∷ 0 ∷ []) [] 25

pub worked :
    -- a flat surface, at its corners and on a line: 7 mm
    answer_to (2 ∷ 1 ∷ 1 ∷ 2 ∷ 1 ∷ 0 ∷ []) [] 8 (λ f. pos 7) 0 0
    ∷ answer_to (2 ∷ 1 ∷ 1 ∷ 2 ∷ 1 ∷ 0 ∷ []) [] 8 (λ f. pos 7) 5 3
    ∷ answer_to (2 ∷ 1 ∷ 1 ∷ 2 ∷ 1 ∷ 0 ∷ []) [] 8 (λ f. pos 7) 8 8
    ∷ answer_to (2 ∷ 1 ∷ 1 ∷ 2 ∷ 1 ∷ 0 ∷ []) [] 8 (λ f. pos 7) 16 8
    -- function 8, of level 1, with 16 sixteenths: 1 mm at its top, half of it beside and above, an eighth, nothing on its edge
    ∷ on_finer (only 8 (pos 16)) 8 8
    ∷ on_finer (only 8 (pos 16)) 4 8
    ∷ on_finer (only 8 (pos 16)) 8 12
    ∷ on_finer (only 8 (pos 16)) 2 12
    ∷ on_finer (only 8 (pos 16)) 16 8
    -- the last function is 1 in the far corner: -80 sixteenths are -5 mm; nothing lies beyond
    ∷ on_finer (only 12 (negsuc 79)) 16 16
    ∷ on_finer (only 12 (negsuc 79)) 17 16
    ∷ on_finer (only 12 (negsuc 79)) 16 17
    -- degree 2: 3 mm times 3/8 times 1/2
    ∷ one_cell (only 4 (pos 3)) 4 8
    -- 65,536 mm and no more, either way, on level 1 in sixteenths; function 0 is deactivated there, and its height ignored
    ∷ one_cell (only 4 (pos 65536)) 0 0
    ∷ one_cell (only 4 (pos 65537)) 0 0
    ∷ one_cell (only 4 (negsuc 65536)) 0 0
    ∷ on_finer (only 8 (pos 1048576)) 8 8
    ∷ on_finer (only 8 (pos 1048577)) 8 8
    ∷ on_finer (only 0 (pos 2147483647)) 0 0
    -- 3 before 14 before 15: too few heights of degree 3, a point beyond a mesh of degree 3, one beyond five levels
    ∷ answer_to (1 ∷ 1 ∷ 1 ∷ 2 ∷ 3 ∷ 0 ∷ []) [] 11 (λ f. pos 0) 9 0
    ∷ answer_to (1 ∷ 1 ∷ 1 ∷ 2 ∷ 3 ∷ 0 ∷ []) [] 12 (λ f. pos 0) 9 0
    ∷ answer_to (1 ∷ 1 ∷ 1 ∷ 3 ∷ 2 ∷ 0 ∷ []) [] 12 (λ f. pos 65537) 0 0
    -- after what check refuses
    ∷ answer_to (1 ∷ 1 ∷ 1 ∷ 5 ∷ 2 ∷ 0 ∷ []) [] 0 (λ f. pos 0) 9 9
    ∷ answer_to (1 ∷ 1 ∷ 2 ∷ 3 ∷ 1 ∷ 0 ∷ []) (1 ∷ []) 0 (λ f. pos 0) 99 0
    ∷ []
    ≡ bits 0x401c_0000_0000_0000
    ∷ bits 0x401c_0000_0000_0000
    ∷ bits 0x401c_0000_0000_0000
    ∷ bits 0x401c_0000_0000_0000
    ∷ bits 0x3ff0_0000_0000_0000
    ∷ bits 0x3fe0_0000_0000_0000
    ∷ bits 0x3fe0_0000_0000_0000
    ∷ bits 0x3fc0_0000_0000_0000
    ∷ bits 0
    ∷ bits 0xc014_0000_0000_0000
    ∷ Refused 15
    ∷ Refused 15
    ∷ bits 0x3fe2_0000_0000_0000
    ∷ bits 0
    ∷ Refused 15
    ∷ Refused 15
    ∷ bits 0x40f0_0000_0000_0000
    ∷ Refused 15
    ∷ bits 0
    ∷ Refused 3
    ∷ Refused 14
    ∷ Refused 14
    ∷ Refused 1
    ∷ Refused 4
    ∷ []
unfolding odd of_bits heights_of some every elem tabulate over dyadic sumℤ offset number level_of place_on place between numbers_in_range corners_in_range in_range too_large ratio grown above below parent child last_level covers together supported_at supported ancestor common_at near_at near absent active refined children cell_fits is_mesh is_admissible table_of label_of labels is_labelled refusal3 refusal6 check is_set is_corner corners_to times knot_from knot beyond functions rise fall box basis scale cell_of value value_in value_on eighths on_mesh value_at product_of height_sum inexact low all_low heights_refusal refusal answer low_on
worked = refl

-- ---- with corners; the answers were worked out in fractions

-- two columns with a corner between them, degrees 2 and 1: 10 functions
abbrev pub ridge : (ℕ → ℤ) → ℕ → ℕ → Height
ridge = answer_to (2 ∷ 1 ∷ 1 ∷ 2 ∷ 1 ∷ 0 ∷ 2 ∷ []) [] 10

-- the same on two levels, degrees 2 and 2, with cell 0 refined: 15 and 28 functions
abbrev pub beside_it : (ℕ → ℤ) → ℕ → ℕ → Height
beside_it = answer_to (2 ∷ 1 ∷ 2 ∷ 2 ∷ 2 ∷ 0 ∷ 2 ∷ []) (0 ∷ []) 43

pub cornered :
    -- a flat surface: 7 mm, on the corner too; with as many heights as without the corner 3 is given
    ridge (λ f. pos 7) 0 0
    ∷ ridge (λ f. pos 7) 8 3
    ∷ ridge (λ f. pos 7) 16 8
    ∷ answer_to (2 ∷ 1 ∷ 1 ∷ 2 ∷ 1 ∷ 0 ∷ 2 ∷ []) [] 8 (λ f. pos 7) 0 0
    -- function 2 is 1 on the corner and 25/64 at 3/8 of a cell on either side of it
    ∷ ridge (only 2 (pos 3)) 8 0
    ∷ ridge (only 2 (pos 3)) 5 0
    ∷ ridge (only 2 (pos 3)) 11 0
    ∷ ridge (only 2 (pos 3)) 8 4
    -- function 1 ends there, and function 3 begins
    ∷ ridge (only 1 (pos 4)) 7 0
    ∷ ridge (only 1 (pos 4)) 8 0
    ∷ ridge (only 3 (pos 4)) 8 0
    ∷ ridge (only 3 (pos 4)) 9 0
    -- a corner up
    ∷ answer_to (1 ∷ 2 ∷ 1 ∷ 1 ∷ 2 ∷ 0 ∷ 0 ∷ 2 ∷ []) [] 10 (only 4 (pos 3)) 0 8
    ∷ answer_to (1 ∷ 2 ∷ 1 ∷ 1 ∷ 2 ∷ 0 ∷ 0 ∷ 2 ∷ []) [] 10 (only 4 (pos 3)) 0 5
    -- function 2 of level 0 stays active, and is 1 on the corner; function 17, of level 1, is 5/8 half a cell before it and ends there;
    -- function 18 reaches over it and is not active
    ∷ beside_it (only 2 (pos 5)) 16 0
    ∷ beside_it (only 17 (pos 16)) 12 0
    ∷ beside_it (only 17 (pos 16)) 16 0
    ∷ beside_it (only 18 (pos 2147483647)) 16 0
    -- at degree 1 nothing changes
    ∷ answer_to (2 ∷ 1 ∷ 1 ∷ 1 ∷ 1 ∷ 0 ∷ 2 ∷ []) [] 6 (only 1 (pos 3)) 12 0
    ∷ []
    ≡ bits 0x401c_0000_0000_0000
    ∷ bits 0x401c_0000_0000_0000
    ∷ bits 0x401c_0000_0000_0000
    ∷ Refused 3
    ∷ bits 0x4008_0000_0000_0000
    ∷ bits 0x3ff2_c000_0000_0000
    ∷ bits 0x3ff2_c000_0000_0000
    ∷ bits 0x3ff8_0000_0000_0000
    ∷ bits 0x3fec_0000_0000_0000
    ∷ bits 0
    ∷ bits 0
    ∷ bits 0x3fec_0000_0000_0000
    ∷ bits 0x4008_0000_0000_0000
    ∷ bits 0x3ff2_c000_0000_0000
    ∷ bits 0x4014_0000_0000_0000
    ∷ bits 0x3fe4_0000_0000_0000
    ∷ bits 0
    ∷ bits 0
    ∷ bits 0x3ff8_0000_0000_0000
    ∷ []
unfolding odd of_bits heights_of some every elem tabulate over dyadic sumℤ offset number level_of place_on place between numbers_in_range corners_in_range in_range too_large ratio grown above below parent child last_level covers together supported_at supported ancestor common_at near_at near absent active refined children cell_fits is_mesh is_admissible table_of label_of labels is_labelled refusal3 refusal6 check is_set is_corner corners_to times knot_from knot beyond functions rise fall box basis scale cell_of value value_in value_on eighths on_mesh value_at product_of height_sum inexact low all_low heights_refusal refusal answer low_on
cornered = refl
