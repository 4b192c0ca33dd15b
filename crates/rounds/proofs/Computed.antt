-- Document 02, Req 13, worked by hand: calls as rows of one table under one theorem that the checker computes. What is expected is written
-- out. Assumes nothing.
use mathlib.Core.Bool.{Bool, true, ◌&&◌}
use mathlib.Core.List.{List, [], ◌∷◌, ◌++◌, flatten}
use mathlib.Core.Path.{◌≡◌, refl}
use Prim.Native.Nat.{ℕ, ◌-◌}
use lib.Dec.{T}
use lib.ListN.{length}
use Rattle.facts.specs.Bounded.{some, every}
use Rattle.facts.specs.Numbers.{elem, listed, tabulate, stored, first}
use Rattle.hierarchy.specs.Hierarchy.{reach, needs, closure}
use Rattle.grid.specs.declared.Plan.{Plan}
use Rattle.grid.specs.Numbering.{offset, number, level_of, place_on, place}
use Rattle.grid.specs.Knots.{is_set, is_corner, corners_to, times, knot_from, knot, beyond, functions as functionCount, covers, apart, together}
use Rattle.grid.specs.Plan.{between, numbers_in_range, corners_in_range, in_range, too_large, ratio, grown, above, below, parent, child, last_level, supported_at, supported, ancestor, common_at, near_at, near}
use Rattle.mesh.specs.Mesh.{absent, active, refined, children, cell_fits, is_mesh, is_admissible, table_of, label_of, labels, is_labelled, refusal3, refusal6, check, fresh_cells, fresh_functions}
use Rattle.outcomes.specs.Calls.{eligible, is_too_deep, mark_refusal, selected, base, smallest, changed, written, refused, settle, new_cells, refusal, outcome}
use Rattle.outcomes.specs.Runs.{Tables, result, after}
use Rattle.outcomes.proofs.Examples.{same, lent, plan, W2, tables, fresh, refining}
use Rattle.rounds.specs.Rounds.{marks_on, by_round, in_turn, rounds, losing, RoundsOutcome, filled, find_rounds}
use Rattle.rounds.specs.Rounds as these
use Rattle.rounds.specs.Demands.{cut_by}

-- ---- rows

pub data Row : Type 0 where
  -- from today's tables to the wanted ones, with lists of so many entries 7: these marks, and these lengths
  finds : Plan → Tables → Tables → ℕ → ℕ → List ℕ → List ℕ → Row
  -- or refused with this number, and both lists as they were
  refuses : Plan → Tables → Tables → ℕ → ℕ → ℕ → Row

-- ---- what a row says

abbrev pub found : Plan → Tables → Tables → ℕ → ℕ → RoundsOutcome
found p t u m n = find_rounds p t.cells t.functions u.cells u.functions (lent m) (lent n)

abbrev pub answers : RoundsOutcome → ℕ → ℕ → ℕ → Bool
answers o number marks count = same (o.answer.number ∷ o.answer.marks ∷ o.answer.rounds ∷ []) (number ∷ marks ∷ count ∷ [])

abbrev pub holds : Row → Bool
holds (finds p t u m n marks lengths) =
    let o = found p t u m n in
    answers o 0 (length marks) (length lengths)
    && (same o.marks (marks ++ lent (m - length marks)) && same o.lengths (lengths ++ lent (n - length lengths)))
holds (refuses p t u m n k) =
    let o = found p t u m n in
    answers o k 0 0 && (same o.marks (lent m) && same o.lengths (lent n))

abbrev pub all_hold : List Row → Bool
all_hold [] = true
all_hold (r ∷ rs) = let rest = all_hold rs in holds r && rest

-- ---- one at a time, on the smallest meshes that show it

-- one cell, three levels, from cell 0 refined to cells 0 and 3: the marks of rounds 0 and 1, level by level, and no cell that is refined today
pub by_levels : let p = plan 1 1 3 1 1 0 in
    let cs = (refining p (0 ∷ [])).cells in
    let ws = (refining p (0 ∷ 3 ∷ [])).cells in
    marks_on p ws 0 cs ∷ marks_on p ws 1 cs ∷ [] ≡ [] ∷ (3 ∷ []) ∷ []
unfolding some elem listed tabulate offset number level_of place_on place ratio grown above below parent child absent active refined table_of marks_on
by_levels = refl

-- one cell, two levels: the wanted tables have no bytes, and cell 0 is lost
pub before_20 : let p = plan 1 1 2 1 1 0 in
    let t = refining p (0 ∷ []) in
    these.refusal p t.cells t.functions [] [] ≡ 3
unfolding some every elem listed tabulate stored first reach needs closure offset number level_of place_on place between numbers_in_range corners_in_range in_range ratio grown too_large last_level above below parent child is_set is_corner corners_to times knot_from knot beyond functionCount covers apart together supported_at supported ancestor common_at near_at near absent active refined children cell_fits is_mesh is_admissible table_of label_of labels is_labelled refusal3 refusal6 check fresh_cells fresh_functions losing these.refusal
before_20 = refl

-- an empty round, and one of one mark
pub empty_too : (filled ([] ∷ (3 ∷ []) ∷ []) (lent 1) (lent 2)).lengths ≡ 0 ∷ 1 ∷ []
unfolding written flatten these.refused filled
empty_too = refl

-- what is written, cut into an empty round and one of two marks
pub parts : cut_by (0 ∷ 2 ∷ []) (2 ∷ 7 ∷ []) ≡ [] ∷ (2 ∷ 7 ∷ []) ∷ []
unfolding cut_by
parts = refl

-- ---- the table

-- two cells, three levels, class 0
abbrev V0 : Plan
V0 = plan 2 1 3 1 1 0

unfoldable pub table : List Row
table =
    -- from the mesh as opened to P7's; lists that are longer keep their other entries
    finds W2 (fresh W2) (refining W2 (0 ∷ 3 ∷ [])) 2 2 (0 ∷ 3 ∷ []) (1 ∷ 1 ∷ [])
    ∷ finds W2 (fresh W2) (refining W2 (0 ∷ 3 ∷ [])) 4 3 (0 ∷ 3 ∷ []) (1 ∷ 1 ∷ [])
    -- cell 4 is active today, but needs cell 1: it comes one round later
    ∷ finds W2 (refining W2 (0 ∷ [])) (refining W2 (0 ∷ 1 ∷ 4 ∷ [])) 2 2 (1 ∷ 4 ∷ []) (1 ∷ 1 ∷ [])
    -- to itself
    ∷ finds W2 (refining W2 (0 ∷ 3 ∷ [])) (refining W2 (0 ∷ 3 ∷ [])) 0 2 [] (0 ∷ 0 ∷ [])
    -- several cells of a level, and empty rounds, the first one and the last one
    ∷ finds V0 (fresh V0) (refining V0 (0 ∷ 2 ∷ 7 ∷ [])) 3 2 (0 ∷ 2 ∷ 7 ∷ []) (1 ∷ 2 ∷ [])
    ∷ finds V0 (refining V0 (0 ∷ [])) (refining V0 (0 ∷ 2 ∷ 7 ∷ [])) 2 2 (2 ∷ 7 ∷ []) (0 ∷ 2 ∷ [])
    ∷ finds V0 (refining V0 (0 ∷ [])) (refining V0 (0 ∷ 1 ∷ [])) 1 2 (1 ∷ []) (1 ∷ 0 ∷ [])
    -- one level: no rounds
    ∷ finds (plan 2 1 1 1 1 0) (fresh (plan 2 1 1 1 1 0)) (fresh (plan 2 1 1 1 1 0)) 0 0 [] []
    -- cell 3 is lost; cell 1, where the lists are short too
    ∷ refuses W2 (refining W2 (0 ∷ 3 ∷ [])) (refining W2 (0 ∷ [])) 2 2 20
    ∷ refuses V0 (refining V0 (1 ∷ [])) (refining V0 (0 ∷ [])) 0 0 20
    -- the wanted mesh is not admissible; so it is where cell 1 is lost too
    ∷ refuses W2 (fresh W2) (refining W2 (0 ∷ 4 ∷ [])) 2 2 5
    ∷ refuses W2 (refining W2 (1 ∷ [])) (refining W2 (0 ∷ 4 ∷ [])) 2 2 5
    -- its tables do not have the plan's lengths; today's mesh is not admissible, and that comes first
    ∷ refuses V0 (fresh V0) (tables [] []) 2 2 3
    ∷ refuses W2 (refining W2 (0 ∷ 4 ∷ [])) (tables [] []) 2 2 5
    -- each list one entry short
    ∷ refuses V0 (fresh V0) (refining V0 (0 ∷ 2 ∷ 7 ∷ [])) 2 2 10
    ∷ refuses V0 (fresh V0) (refining V0 (0 ∷ 2 ∷ 7 ∷ [])) 3 1 10
    ∷ []

pub worked : T (all_hold table)
unfolding table some every elem listed tabulate stored first reach needs closure offset number level_of place_on place between numbers_in_range corners_in_range in_range ratio grown too_large last_level above below parent child is_set is_corner corners_to times knot_from knot beyond functionCount covers apart together supported_at supported ancestor common_at near_at near absent active refined children cell_fits is_mesh is_admissible table_of label_of labels is_labelled refusal3 refusal6 check fresh_cells fresh_functions eligible is_too_deep mark_refusal selected base smallest changed written refused settle new_cells refusal outcome result after flatten marks_on by_round in_turn rounds losing these.refusal these.refused filled find_rounds
worked = tt
