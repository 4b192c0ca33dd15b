-- Carried heights computed from their definition. Assumes nothing.
use mathlib.Core.Bool.{cond}
use mathlib.Core.List.{List, [], ◌∷◌, ◌++◌}
use mathlib.Core.Path.{◌≡◌, refl}
use Prim.Native.Nat.{ℕ}
use lib.Dec.{eqb}
use lib.IntN.{ℤ, pos, negsuc}
use Rattle.facts.specs.Bounded.{some, every}
use Rattle.facts.specs.Numbers.{elem, tabulate}
use Rattle.grid.specs.declared.Plan.{Plan}
use Rattle.grid.specs.Numbering.{offset, number, level_of, place_on, place}
use Rattle.grid.specs.Knots.{is_set, is_corner, corners_to, times, knot_from, knot, beyond, covers}
use Rattle.grid.specs.Plan.{ratio, grown, above, parent, supported_at, supported, plan_of, function_total}
use Rattle.mesh.specs.Mesh.{absent, active, refined, table_of, label_of, labels}
use Rattle.splines.specs.Values.{rise, fall, box, basis, scale, cell_of}
use Rattle.twoscale.specs.TwoScale.{coefficient, quarters}
use Rattle.carry.specs.Carry.{sixteenths, heights_of, at, pass_on, carried, only_active, carry}

-- the functions of the mesh with these refined cells
abbrev pub functions_with : Plan → List ℕ → List ℕ
functions_with p cells = labels p (table_of p (λ c. elem c cells))

-- h for function f, 0 for the others
abbrev pub only : ℕ → ℤ → ℕ → ℤ
only f h g = cond (eqb g f) h (pos 0)

-- one cell, three levels, degree 1: 4, 9 and 25 functions
abbrev one_cell : Plan
one_cell = plan_of (1 ∷ 1 ∷ 3 ∷ 1 ∷ 1 ∷ 0 ∷ [])

-- those of level 0 and level 1 are deactivated
abbrev two_levels_gone : List ℕ
two_levels_gone = tabulate 13 (λ f. 2) ++ tabulate 25 (λ f. 1)

-- 1 mm at the first corner
abbrev start : List ℤ
start = heights_of 38 (only 0 (pos 1))

-- function 0 passes it to function 4 on level 1, and that to function 13 on level 2
pub coarsest_first : (let now = carried one_cell two_levels_gone 5 start in at now 0 ∷ at now 4 ∷ at now 13 ∷ []) ≡ pos 0 ∷ pos 0 ∷ pos 256 ∷ []
unfolding tabulate grown ratio is_set is_corner corners_to times knot_from knot beyond rise fall box basis scale cell_of coefficient quarters offset level_of place_on place refined sixteenths heights_of pass_on carried
coarsest_first = refl

-- a function of degree 1 falls from 1 on its own line to 0 on the next
pub through : carried one_cell two_levels_gone 38 start
    ≡ heights_of 13 (λ f. pos 0)
    ++ (pos 256 ∷ pos 192 ∷ pos 128 ∷ pos 64 ∷ pos 0
    ∷ pos 192 ∷ pos 144 ∷ pos 96 ∷ pos 48 ∷ pos 0
    ∷ pos 128 ∷ pos 96 ∷ pos 64 ∷ pos 32 ∷ pos 0
    ∷ pos 64 ∷ pos 48 ∷ pos 32 ∷ pos 16 ∷ pos 0
    ∷ pos 0 ∷ pos 0 ∷ pos 0 ∷ pos 0 ∷ pos 0 ∷ [])
unfolding tabulate grown ratio is_set is_corner corners_to times knot_from knot beyond rise fall box basis scale cell_of coefficient quarters offset level_of place_on place refined sixteenths heights_of pass_on carried
through = refl

-- of the heights carried from the mesh with the cells `old` refined to that with `new` those of some functions
unfoldable pub list_of : List ℕ → List ℤ → List ℤ
list_of [] heights = []
list_of (f ∷ fs) heights = at heights f ∷ list_of fs heights

abbrev pub carried_to : List ℕ → List ℕ → List ℕ → (ℕ → ℤ) → List ℕ → List ℤ
carried_to plan old new h fs =
    let p = plan_of plan in
    list_of fs (carry p (functions_with p old) (functions_with p new) (heights_of (function_total p) h))

pub worked :
    -- degrees 1 and 1, two columns and a row, two levels: cell 0 becomes refined, and function 0, over it alone, has 7 mm. Its children on
    -- level 1 get all of it, a half, a half and a quarter, in sixteenths of a millimetre
    carried_to (2 ∷ 1 ∷ 2 ∷ 1 ∷ 1 ∷ 0 ∷ []) [] (0 ∷ []) (only 0 (pos 7)) (0 ∷ 3 ∷ 6 ∷ 7 ∷ 8 ∷ 11 ∷ 12 ∷ 13 ∷ 16 ∷ [])
    -- degree 2 across: function 2, over three columns, passes 1/4, 3/4, 3/4 and 1/4; a row higher half of that
    ∷ carried_to (3 ∷ 1 ∷ 2 ∷ 2 ∷ 1 ∷ 0 ∷ []) [] (0 ∷ 1 ∷ 2 ∷ []) (only 2 (negsuc 0)) (2 ∷ 11 ∷ 12 ∷ 13 ∷ 14 ∷ 15 ∷ 16 ∷ 19 ∷ 20 ∷ 21 ∷ 22 ∷ 23 ∷ 24 ∷ [])
    -- a child has a height of its own, which stays: function 1 passes half of its height to function 7, which has 100
    ∷ carried_to (2 ∷ 1 ∷ 2 ∷ 1 ∷ 1 ∷ 0 ∷ []) (0 ∷ []) (0 ∷ 1 ∷ []) (λ f. cond (eqb f 1) (pos 3) (cond (eqb f 7) (pos 100) (pos 0))) (1 ∷ 6 ∷ 7 ∷ 8 ∷ 9 ∷ 10 ∷ [])
    -- what stands there for a function that is not active counts for nothing, neither function 0's, deactivated, nor function 10's, passive before
    ∷ carried_to (2 ∷ 1 ∷ 2 ∷ 1 ∷ 1 ∷ 0 ∷ []) (0 ∷ []) (0 ∷ 1 ∷ []) (λ f. cond (eqb f 0) (pos 2147483647) (cond (eqb f 10) (negsuc 4) (pos 0))) (0 ∷ 6 ∷ 7 ∷ 10 ∷ [])
    -- three levels: function 1 of level 0 becomes deactivated, and function 7 of level 1, one of its children, is already: what that gets
    -- goes on to level 2
    ∷ carried_to (2 ∷ 1 ∷ 3 ∷ 1 ∷ 1 ∷ 0 ∷ []) (0 ∷ 2 ∷ 3 ∷ 6 ∷ 7 ∷ []) (0 ∷ 1 ∷ 2 ∷ 3 ∷ 6 ∷ 7 ∷ []) (only 1 (pos 1)) (1 ∷ 6 ∷ 7 ∷ 8 ∷ 9 ∷ 12 ∷ 13 ∷ 21 ∷ 22 ∷ 23 ∷ 24 ∷ 25 ∷ 31 ∷ 32 ∷ [])
    ∷ []
    ≡ (pos 0 ∷ pos 0 ∷ pos 112 ∷ pos 56 ∷ pos 0 ∷ pos 56 ∷ pos 28 ∷ pos 0 ∷ pos 0 ∷ [])
    ∷ (pos 0 ∷ pos 0 ∷ negsuc 3 ∷ negsuc 11 ∷ negsuc 11 ∷ negsuc 3 ∷ pos 0 ∷ pos 0 ∷ negsuc 1 ∷ negsuc 5 ∷ negsuc 5 ∷ negsuc 1 ∷ pos 0 ∷ [])
    ∷ (pos 0 ∷ pos 0 ∷ pos 124 ∷ pos 48 ∷ pos 24 ∷ pos 0 ∷ [])
    ∷ (pos 0 ∷ pos 0 ∷ pos 0 ∷ pos 0 ∷ [])
    ∷ (pos 0 ∷ pos 0 ∷ pos 0 ∷ pos 16 ∷ pos 8 ∷ pos 0 ∷ pos 8 ∷ pos 0 ∷ pos 64 ∷ pos 128 ∷ pos 64 ∷ pos 0 ∷ pos 48 ∷ pos 96 ∷ [])
    ∷ []
unfolding some every elem tabulate offset number level_of place_on place is_set is_corner corners_to times knot_from knot beyond covers ratio grown above parent supported_at supported absent active refined table_of label_of labels rise fall box basis scale cell_of coefficient quarters sixteenths heights_of pass_on carried only_active carry list_of
worked = refl
