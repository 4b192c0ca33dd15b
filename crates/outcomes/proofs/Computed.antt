-- The two steps of a call, and the sets of the printed algorithms, computed from their definitions on walls of document 01.
-- Assumes nothing.
use mathlib.Core.List.{List, [], ◌∷◌}
use mathlib.Core.Path.{◌≡◌, refl}
use Prim.Native.Nat.{ℕ}
use Rattle.facts.specs.Bounded.{some, every}
use Rattle.facts.specs.Numbers.{elem, tabulate, listed}
use Rattle.grid.specs.declared.Plan.{Plan}
use Rattle.grid.specs.Numbering.{offset, number, level_of, place_on, place}
use Rattle.grid.specs.Plan.{between, ratio, grown, above, below, parent, supported_at, supported, plan_of}
use Rattle.grid.specs.Knots.{is_set, is_corner, corners_to, times, knot_from, knot, beyond, functions as functionCount, covers}
use Rattle.mesh.specs.Mesh.{absent, active, refined, table_of, label_of, labels}
use Rattle.outcomes.specs.Calls.{under_marked, changed, written, Outcome}
use Rattle.outcomes.specs.Steps.{Settled, Relabelled, room_refusal, settle_cells, relabel, in_steps}
use Rattle.outcomes.specs.Printed.{is_new, is_active_cell, is_deactivated_cell, is_to_deactivate, is_neighbor, is_to_deactivate_near, is_candidate, is_active_function, is_deactivated_function}

-- ---- both steps, on two cells of two levels: cell 0 is split, and functions 0 and 3 are those over it alone

abbrev S : Plan
S = plan_of (2 ∷ 1 ∷ 2 ∷ 1 ∷ 1 ∷ 0 ∷ [])

abbrev small : List ℕ → List ℕ
small xs = table_of S (λ c. elem c xs)

abbrev seen : Outcome → List (List ℕ)
seen o =
    (o.answer.number ∷ o.answer.cells ∷ o.answer.functions ∷ [])
    ∷ listed 10 (refined o.cells)
    ∷ listed 21 (refined o.functions)
    ∷ o.cell_list
    ∷ o.function_list
    ∷ []

pub both_steps :
    seen (in_steps S (small []) (labels S (small [])) (7 ∷ 7 ∷ []) (7 ∷ 7 ∷ 7 ∷ []) (small (0 ∷ [])))
    -- a function list one entry short
    ∷ seen (in_steps S (small []) (labels S (small [])) (7 ∷ 7 ∷ []) (7 ∷ []) (small (0 ∷ [])))
    ∷ []
    ≡ ((0 ∷ 1 ∷ 2 ∷ []) ∷ (0 ∷ []) ∷ (0 ∷ 3 ∷ []) ∷ (0 ∷ 7 ∷ []) ∷ (0 ∷ 3 ∷ 7 ∷ []) ∷ [])
    ∷ ((11 ∷ 0 ∷ 0 ∷ []) ∷ [] ∷ [] ∷ (7 ∷ 7 ∷ []) ∷ (7 ∷ []) ∷ [])
    ∷ []
unfolding some every elem tabulate listed offset number level_of place_on place between ratio grown above below parent is_set is_corner corners_to times knot_from knot beyond functionCount covers supported_at supported absent active refined table_of label_of labels changed written room_refusal settle_cells relabel in_steps
both_steps = refl

-- ---- each step, on W2 after split 0, split 4: cells 1 and 4 become refined, functions 1 and 5 deactivated

-- document 01's W0 and W2, by their class, and the cells of the wall in which just these are refined
abbrev W : ℕ → Plan
W m = plan_of (3 ∷ 1 ∷ 3 ∷ 1 ∷ 1 ∷ m ∷ [])

abbrev wall : List ℕ → List ℕ
wall xs = table_of (W 0) (λ c. elem c xs)

abbrev labelled : List ℕ → List ℕ
labelled xs = labels (W 0) (wall xs)

-- what there is to see of each step: numbers, deactivated or refined ones, lists
abbrev seen_settled : Settled → List (List ℕ)
seen_settled s = (s.answer.number ∷ s.answer.cells ∷ s.answer.functions ∷ []) ∷ listed 63 (refined s.cells) ∷ s.cell_list ∷ []

abbrev seen_relabelled : Relabelled → List (List ℕ)
seen_relabelled r = (r.count ∷ []) ∷ listed 94 (refined r.functions) ∷ r.function_list ∷ []

pub relabelled :
    -- from the settled cells; from the cells as they were nothing changes
    seen_relabelled (relabel (W 2) (wall (0 ∷ 1 ∷ 4 ∷ [])) (labelled (0 ∷ [])) (7 ∷ 7 ∷ 7 ∷ 7 ∷ []))
    ∷ seen_relabelled (relabel (W 2) (wall (0 ∷ [])) (labelled (0 ∷ [])) (7 ∷ 7 ∷ 7 ∷ 7 ∷ []))
    ∷ []
    ≡ ((2 ∷ []) ∷ (0 ∷ 1 ∷ 4 ∷ 5 ∷ []) ∷ (1 ∷ 5 ∷ 7 ∷ 7 ∷ []) ∷ [])
    ∷ ((0 ∷ []) ∷ (0 ∷ 4 ∷ []) ∷ (7 ∷ 7 ∷ 7 ∷ 7 ∷ []) ∷ [])
    ∷ []
unfolding some every elem tabulate listed offset number level_of place_on place between ratio grown above below parent is_set is_corner corners_to times knot_from knot beyond functionCount covers supported_at supported absent active refined table_of label_of labels changed written relabel
relabelled = refl

pub settled :
    -- room for all, and one entry more in the cell list; a function list one entry short; a cell list one entry short, and then 10 comes first
    seen_settled (settle_cells (W 2) (wall (0 ∷ [])) (labelled (0 ∷ [])) (7 ∷ 7 ∷ 7 ∷ []) 2 (wall (0 ∷ 1 ∷ 4 ∷ [])))
    ∷ seen_settled (settle_cells (W 2) (wall (0 ∷ [])) (labelled (0 ∷ [])) (7 ∷ 7 ∷ 7 ∷ []) 1 (wall (0 ∷ 1 ∷ 4 ∷ [])))
    ∷ seen_settled (settle_cells (W 2) (wall (0 ∷ [])) (labelled (0 ∷ [])) (7 ∷ []) 1 (wall (0 ∷ 1 ∷ 4 ∷ [])))
    ∷ []
    ≡ ((0 ∷ 2 ∷ 0 ∷ []) ∷ (0 ∷ 1 ∷ 4 ∷ []) ∷ (1 ∷ 4 ∷ 7 ∷ []) ∷ [])
    ∷ ((11 ∷ 0 ∷ 0 ∷ []) ∷ (0 ∷ []) ∷ (7 ∷ 7 ∷ 7 ∷ []) ∷ [])
    ∷ ((10 ∷ 0 ∷ 0 ∷ []) ∷ (0 ∷ []) ∷ (7 ∷ []) ∷ [])
    ∷ []
unfolding some every elem tabulate listed offset number level_of place_on place between ratio grown above below parent is_set is_corner corners_to times knot_from knot beyond functionCount covers supported_at supported absent active refined table_of label_of labels changed written room_refusal settle_cells
settled = refl

-- ---- the printed sets

-- of a refinement of the cells of ME, in the wall where `old` are refined, to that where `new` are: NE; the deactivated
-- cells, and the active ones of levels 0 and 1; MF; F^C; the active functions of levels 0 and 1, and the deactivated ones
abbrev sets_of : List ℕ → List ℕ → List ℕ → List (List ℕ)
sets_of old ME new =
    listed 63 (is_new (W 0) ME)
    ∷ listed 63 (is_deactivated_cell (wall old) ME)
    ∷ listed 15 (is_active_cell (W 0) (wall old) ME)
    ∷ listed 94 (is_to_deactivate (W 0) (wall new) (labelled old) ME)
    ∷ listed 94 (is_candidate (W 0) (wall new) (labelled old) ME)
    ∷ listed 29 (is_active_function (W 0) (wall new) (labelled old) ME)
    ∷ listed 94 (is_deactivated_function (W 0) (wall new) (labelled old) ME)
    ∷ []

pub printed :
    -- P1 W0 fresh, split 0: 0; 0 4. Functions newly active: 8 9 15 16 22 23
    sets_of [] (0 ∷ []) (0 ∷ [])
    -- P2 W0 fresh, split 1: 1; none. Newly active: 11 18 25
    ∷ sets_of [] (1 ∷ []) (1 ∷ [])
    -- W2, split 0, then split 4: 1 4; 1 5
    ∷ sets_of (0 ∷ []) (1 ∷ 4 ∷ []) (0 ∷ 1 ∷ 4 ∷ [])
    -- P7 W2, split 0, then split 3: 3; 8. Function 0 stays deactivated, and its child 8 is not active
    ∷ sets_of (0 ∷ []) (3 ∷ []) (0 ∷ 3 ∷ [])
    ∷ []
    ≡ ((3 ∷ 4 ∷ 9 ∷ 10 ∷ []) ∷ (0 ∷ []) ∷ (1 ∷ 2 ∷ 3 ∷ 4 ∷ 9 ∷ 10 ∷ []) ∷ (0 ∷ 4 ∷ []) ∷ (8 ∷ 9 ∷ 15 ∷ 16 ∷ 22 ∷ 23 ∷ []) ∷ (1 ∷ 2 ∷ 3 ∷ 5 ∷ 6 ∷ 7 ∷ 8 ∷ 9 ∷ 15 ∷ 16 ∷ 22 ∷ 23 ∷ []) ∷ (0 ∷ 4 ∷ []) ∷ [])
    ∷ ((5 ∷ 6 ∷ 11 ∷ 12 ∷ []) ∷ (1 ∷ []) ∷ (0 ∷ 2 ∷ 5 ∷ 6 ∷ 11 ∷ 12 ∷ []) ∷ [] ∷ (11 ∷ 18 ∷ 25 ∷ []) ∷ (0 ∷ 1 ∷ 2 ∷ 3 ∷ 4 ∷ 5 ∷ 6 ∷ 7 ∷ 11 ∷ 18 ∷ 25 ∷ []) ∷ [] ∷ [])
    ∷ ((5 ∷ 6 ∷ 11 ∷ 12 ∷ 17 ∷ 18 ∷ 29 ∷ 30 ∷ []) ∷ (0 ∷ 1 ∷ 4 ∷ []) ∷ (2 ∷ 3 ∷ 5 ∷ 6 ∷ 9 ∷ 10 ∷ 11 ∷ 12 ∷ []) ∷ (1 ∷ 5 ∷ []) ∷ (10 ∷ 11 ∷ 17 ∷ 18 ∷ 24 ∷ 25 ∷ 32 ∷ 45 ∷ []) ∷ (2 ∷ 3 ∷ 6 ∷ 7 ∷ 8 ∷ 9 ∷ 10 ∷ 11 ∷ 15 ∷ 16 ∷ 17 ∷ 18 ∷ 22 ∷ 23 ∷ 24 ∷ 25 ∷ []) ∷ (0 ∷ 1 ∷ 4 ∷ 5 ∷ []) ∷ [])
    ∷ ((15 ∷ 16 ∷ 27 ∷ 28 ∷ []) ∷ (0 ∷ 3 ∷ []) ∷ (1 ∷ 2 ∷ 4 ∷ 9 ∷ 10 ∷ []) ∷ (8 ∷ []) ∷ (29 ∷ 30 ∷ 42 ∷ 43 ∷ []) ∷ (1 ∷ 2 ∷ 3 ∷ 5 ∷ 6 ∷ 7 ∷ 9 ∷ 15 ∷ 16 ∷ 22 ∷ 23 ∷ []) ∷ (0 ∷ 4 ∷ 8 ∷ []) ∷ [])
    ∷ []
unfolding some every elem tabulate listed offset number level_of place_on place between ratio grown above below parent is_set is_corner corners_to times knot_from knot beyond functionCount covers supported_at supported absent active refined table_of label_of labels is_new is_active_cell is_deactivated_cell is_to_deactivate is_candidate is_active_function is_deactivated_function
printed = refl

-- P3 W0 fresh, split by function 1: 0 1; 0 1 4 5. Its neighbours are those over cells 0 and 1
pub neighbors :
    listed 94 (is_neighbor (W 0) (1 ∷ [])) ∷ listed 94 (is_to_deactivate_near (W 0) (wall (0 ∷ 1 ∷ [])) (labelled []) (1 ∷ [])) ∷ []
    ≡ (0 ∷ 1 ∷ 2 ∷ 4 ∷ 5 ∷ 6 ∷ []) ∷ (0 ∷ 1 ∷ 4 ∷ 5 ∷ []) ∷ []
unfolding some every elem tabulate listed offset number level_of place_on place between ratio grown above below parent is_set is_corner corners_to times knot_from knot beyond functionCount covers supported_at supported absent active refined table_of label_of labels under_marked is_neighbor is_to_deactivate_near
neighbors = refl
