-- Heights that are changed, and the answers before and after, computed from their definitions; the answers were worked out in fractions.
-- Assumes nothing.
use mathlib.Core.Bool.{true, false, cond}
use mathlib.Core.List.{List, [], ◌∷◌}
use mathlib.Core.Path.{◌≡◌, refl}
use Prim.Native.Nat.{ℕ}
use lib.Dec.{ltb}
use lib.IntN.{ℤ, pos, negsuc}
use lib.Ieee.{odd, of_bits, binary64}
use Rattle.facts.specs.Bounded.{some, every}
use Rattle.facts.specs.Numbers.{elem, tabulate}
use Rattle.exact.specs.Distance.{numerator, denominator, shared, difference, within}
use Rattle.exact.specs.Dyadic.{over, dyadic}
use Rattle.exact.specs.Sums.{sumℤ}
use Rattle.grid.specs.Numbering.{offset, number, level_of, place_on, place}
use Rattle.grid.specs.Knots.{is_set, is_corner, corners_to, times, knot_from, knot, beyond, functions, covers, together}
use Rattle.grid.specs.Plan.{between, numbers_in_range, corners_in_range, in_range, too_large, ratio, grown, above, below, parent, child, last_level, supported_at, supported, ancestor, common_at, near_at, near, plan_of}
use Rattle.mesh.specs.Mesh.{absent, active, refined, children, cell_fits, is_mesh, is_admissible, table_of, label_of, labels, is_labelled, refusal3, refusal6, check}
use Rattle.splines.specs.Values.{rise, fall, box, basis, scale, cell_of, value, value_in, value_on}
use Rattle.heights.specs.Height.{Height}
use Rattle.heights.specs.Height.{Refused}
use Rattle.heights.specs.Heights.{eighths, on_mesh, value_at, product_of, height_sum, inexact, low, all_low, heights_refusal, refusal, answer, low_on}
use Rattle.heights.proofs.Computed.{heights_of, only, bits}
use Rattle.nudge.specs.Nudge.{nudged}

-- four heights, of which the third falls by 7; one that is not there
pub lists :
    nudged 2 (negsuc 6) (heights_of 4 pos)
    ∷ nudged 4 (pos 1) (heights_of 4 pos)
    ∷ []
    ≡ (pos 0 ∷ pos 1 ∷ negsuc 4 ∷ pos 3 ∷ [])
    ∷ (pos 0 ∷ pos 1 ∷ pos 2 ∷ pos 3 ∷ [])
    ∷ []
unfolding heights_of nudged
lists = refl

-- the answer on the mesh with these refined cells, with these heights
abbrev pub answer_with : List ℕ → List ℕ → List ℤ → ℕ → ℕ → Height
answer_with plan refined_cells heights x y =
    let p = plan_of plan in
    let cells = table_of p (λ c. elem c refined_cells) in
    answer p cells (labels p cells) heights x y

-- after document 01's P3, where function f alone has the height h: at a point, before and after its height is changed by d
abbrev pub after_p3 : List ℤ → ℕ → ℕ → Height
after_p3 = answer_with (3 ∷ 1 ∷ 3 ∷ 1 ∷ 1 ∷ 0 ∷ []) (0 ∷ 1 ∷ [])

abbrev pub nudge : ℕ → ℤ → ℤ → ℕ → ℕ → List Height
nudge f h d x y = after_p3 (heights_of 94 (only f h)) x y ∷ after_p3 (nudged f d (heights_of 94 (only f h))) x y ∷ []

-- the same beside a corner: two columns with a corner between them, degrees 2 and 1
abbrev pub ridge : List ℤ → ℕ → ℕ → Height
ridge = answer_with (2 ∷ 1 ∷ 1 ∷ 2 ∷ 1 ∷ 0 ∷ 2 ∷ []) []

abbrev pub nudge_ridge : ℕ → ℤ → ℤ → ℕ → ℕ → List Height
nudge_ridge f h d x y = ridge (heights_of 10 (only f h)) x y ∷ ridge (nudged f d (heights_of 10 (only f h))) x y ∷ []

pub worked :
    -- function 9, of level 1, rises by 3 sixteenths: so does its top; half way down it is half as much
    nudge 9 (pos 16) (pos 3) 16 0
    ∷ nudge 9 (pos 16) (pos 3) 8 0
    -- it falls by 5
    ∷ nudge 9 (pos 16) (negsuc 4) 16 0
    -- on the support's edges nothing moves, on the mesh's own neither: function 8 has all there
    ∷ nudge 9 (pos 16) (pos 3) 32 0
    ∷ nudge 9 (pos 16) (pos 3) 16 16
    ∷ nudge 9 (pos 16) (pos 3) 0 0
    ∷ nudge 8 (pos 16) (negsuc 31) 0 0
    -- to 65,536 mm and past it; a deactivated function's height
    ∷ nudge 9 (pos 1048576) (negsuc 0) 16 0
    ∷ nudge 9 (pos 1048576) (pos 1) 16 0
    ∷ nudge 1 (pos 3) (pos 2147483644) 16 0
    -- on a corner function 2 has all; function 1 ends there, and function 3 begins
    ∷ nudge_ridge 2 (pos 3) (pos 1) 8 0
    ∷ nudge_ridge 1 (pos 4) (pos 4) 7 0
    ∷ nudge_ridge 1 (pos 4) (pos 4) 8 0
    ∷ nudge_ridge 3 (pos 4) (pos 4) 8 0
    ∷ []
    ≡ (bits 0x3ff0_0000_0000_0000 ∷ bits 0x3ff3_0000_0000_0000 ∷ [])
    ∷ (bits 0x3fe0_0000_0000_0000 ∷ bits 0x3fe3_0000_0000_0000 ∷ [])
    ∷ (bits 0x3ff0_0000_0000_0000 ∷ bits 0x3fe6_0000_0000_0000 ∷ [])
    ∷ (bits 0 ∷ bits 0 ∷ [])
    ∷ (bits 0 ∷ bits 0 ∷ [])
    ∷ (bits 0 ∷ bits 0 ∷ [])
    ∷ (bits 0x3ff0_0000_0000_0000 ∷ bits 0xbff0_0000_0000_0000 ∷ [])
    ∷ (bits 0x40f0_0000_0000_0000 ∷ bits 0x40ef_fffe_0000_0000 ∷ [])
    ∷ (bits 0x40f0_0000_0000_0000 ∷ Refused 15 ∷ [])
    ∷ (bits 0 ∷ bits 0 ∷ [])
    ∷ (bits 0x4008_0000_0000_0000 ∷ bits 0x4010_0000_0000_0000 ∷ [])
    ∷ (bits 0x3fec_0000_0000_0000 ∷ bits 0x3ffc_0000_0000_0000 ∷ [])
    ∷ (bits 0 ∷ bits 0 ∷ [])
    ∷ (bits 0 ∷ bits 0 ∷ [])
    ∷ []
unfolding odd of_bits heights_of some every elem tabulate over dyadic sumℤ offset number level_of place_on place between numbers_in_range corners_in_range in_range too_large ratio grown above below parent child last_level covers together supported_at supported ancestor common_at near_at near absent active refined children cell_fits is_mesh is_admissible table_of label_of labels is_labelled refusal3 refusal6 check is_set is_corner corners_to times knot_from knot beyond functions rise fall box basis scale cell_of value value_in value_on eighths on_mesh value_at product_of height_sum inexact low all_low heights_refusal refusal answer low_on nudged
worked = refl

-- the first of these moves by 3/16 mm and no less
pub reached :
    within (of_bits binary64 0x3ff0_0000_0000_0000) (of_bits binary64 0x3ff3_0000_0000_0000) 3 16
    ∷ within (of_bits binary64 0x3ff0_0000_0000_0000) (of_bits binary64 0x3ff3_0000_0000_0000) 3 17
    ∷ []
    ≡ true ∷ false ∷ []
unfolding of_bits odd numerator denominator shared difference within
reached = refl

-- every function of level 0 has risen by 2 mm, and every other by 3 of its units: where one of each is active, one of them half, the point
-- has by 1 + 3/16 mm, and no more than 2 + 3/16 + 3/256
abbrev risen : ℕ → ℤ
risen f = cond (ltb f 8) (pos 2) (pos 3)

pub several :
    after_p3 (heights_of 94 (λ f. pos 0)) 48 0
    ∷ after_p3 (heights_of 94 risen) 48 0
    ∷ []
    ≡ bits 0 ∷ bits 0x3ff3_0000_0000_0000 ∷ []
unfolding odd of_bits heights_of some every elem tabulate over dyadic sumℤ offset number level_of place_on place between numbers_in_range corners_in_range in_range too_large ratio grown above below parent child last_level covers together supported_at supported ancestor common_at near_at near absent active refined children cell_fits is_mesh is_admissible table_of label_of labels is_labelled refusal3 refusal6 check is_set is_corner corners_to times knot_from knot beyond functions rise fall box basis scale cell_of value value_in value_on eighths on_mesh value_at product_of height_sum inexact low all_low heights_refusal refusal answer low_on nudged
several = refl
