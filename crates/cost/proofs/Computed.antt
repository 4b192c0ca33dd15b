-- Document 02, Req 09, computed on small plans: what a marked cell reaches, needs, and costs, one table under one theorem. Assumes
-- nothing.
use Prim.Native.Nat.{ℕ}
use mathlib.Core.Path.{◌≡◌, refl}
use mathlib.Core.Bool.{Bool, true, not, ◌&&◌}
use mathlib.Core.List.{List, [], ◌∷◌}
use lib.Dec.{T, eqb, leb}
use lib.ListN.{length}
use Rattle.facts.specs.Bounded.{some, every, sum}
use Rattle.facts.specs.Numbers.{elem, all, listed, tabulate, stored, first}
use Rattle.hierarchy.specs.Hierarchy.{reach, needs, closure}
use Rattle.grid.specs.declared.Plan.{Plan}
use Rattle.grid.specs.Numbering.{offset, number, level_of, place_on, place}
use Rattle.grid.specs.Plan.{between, numbers_in_range, corners_in_range, in_range, ratio, grown, too_large, plan_refusal, last_level, above, below, parent, child, supported_at, supported, ancestor, common_at, near_at, near, cell_total, cell_level, hierarchy}
use Rattle.grid.specs.Spans.{in_span, in_rectangle}
use Rattle.grid.specs.Knots.{is_set, is_corner, corners_to, times, knot_from, knot, beyond, functions as functionCount, covers, apart, together}
use Rattle.mesh.specs.Mesh.{absent, active, refined, children, cell_fits, is_mesh, is_admissible, reactivable, table_of, label_of, labels, is_labelled, refusal3, refusal6, check, fresh_cells, fresh_functions, open_mesh}
use Rattle.outcomes.specs.Calls.{refine, cells, eligible, is_too_deep, mark_refusal, under_marked, under_kept, selected, base, smallest, changed, written, refused, settle, new_cells, refusal, outcome}
use Rattle.outcomes.specs.Runs.{covered}
use Rattle.outcomes.proofs.Examples.{same, plan, refining, split, row, W0, W2}
use Rattle.outcomes.proofs.Examples as calls
use Rattle.cost.specs.Reach.{at_most, window, reaches, most_refined}
use Rattle.cost.specs.Cost.{most_of}

-- the cell 4 of W2, of level 1, row 0, column 1, needs cell 1 (`needed`, below), and reaches it: one column from its ancestor, the most
-- that degree 1 allows
pub one_column : reaches W2 4 1 ≡ true
unfolding at_most window reaches in_span in_rectangle some offset number level_of place_on place ratio grown ancestor
one_column = refl

pub data Row : Type 0 where
  -- a mark on the cell c reaches just these cells, and costs at most n
  reached : Plan → ℕ → List ℕ → ℕ → Row
  -- it reaches n cells, and costs at most n
  full : Plan → ℕ → ℕ → Row
  -- the cell c needs the cell x, and reaches it; it reaches x and does not need it
  needed spared : Plan → ℕ → ℕ → Row
  -- cells of a list cost at most n together
  costing : Plan → List ℕ → ℕ → Row
  -- where the cells of the first list are refined, a mark on c refines those of the second, of at most n
  refines : Plan → List ℕ → ℕ → List ℕ → ℕ → Row
  -- a whole call, as in crate outcomes
  called : calls.Row → Row

-- the cells that a mark on c refines; without the functions, so that larger meshes compute
abbrev added : Plan → List ℕ → ℕ → List ℕ
added p old c =
    let cs = table_of p (λ x. elem x old) in
    changed (cell_total p) cs (new_cells refine cells p cs [] (c ∷ []))

abbrev pub holds : Row → Bool
holds (reached p c xs n) = same (listed (cell_total p) (reaches p c)) xs && eqb (most_refined p (cell_level p c)) n
holds (full p c n) = eqb (length (listed (cell_total p) (reaches p c))) n && eqb (most_refined p (cell_level p c)) n
holds (needed p c x) = needs (hierarchy p) c x && reaches p c x
holds (spared p c x) = not (needs (hierarchy p) c x) && reaches p c x
holds (costing p cs n) = eqb (most_of p cs) n
holds (refines p old c xs n) = same (added p old c) xs && (leb (length xs) (most_refined p (cell_level p c)) && eqb (most_refined p (cell_level p c)) n)
holds (called r) = calls.holds r

-- what stands in a `let` is computed only where it is asked for
abbrev pub all_hold : List Row → Bool
all_hold [] = true
all_hold (r ∷ rs) = let rest = all_hold rs in holds r && rest

pub table : List Row
table =
    -- "plan 8 1 5 1 1 2 with cell 3 split, where marking 15 splits" 4 and 15: here without its last two levels, which change nothing
    -- of it. The session program's stored input (crate session) has all five
    called (let p = plan 8 1 3 1 1 2 in row p (refining p (3 ∷ [])) (split cells (15 ∷ []) 0 (4 ∷ 15 ∷ []) (4 ∷ 13 ∷ []) ∷ []) [])
    -- cell 15, of level 1, row 0, column 7, stands on column 3 of level 0: it reaches columns 2 to 4 there
    ∷ reached (plan 8 1 3 1 1 2) 15 (2 ∷ 3 ∷ 4 ∷ 15 ∷ []) 10
    -- at the edge a window ends with the level
    ∷ reached (plan 8 1 3 1 1 2) 8 (0 ∷ 1 ∷ 8 ∷ []) 10
    -- 3 rows of 3 columns and the cell itself: where a window lies inside, the mark reaches as many cells as the bound says
    ∷ full (plan 3 3 3 1 1 2) 23 10
    -- degrees 2 and 1: columns up to 2 away, and rows up to 1: 5 · 3 and 1
    ∷ full (plan 5 3 3 2 1 2) 39 16
    -- a mark of level 0, and any in class 0, reaches itself alone
    ∷ reached W2 1 (1 ∷ []) 1
    ∷ reached W0 7 (7 ∷ []) 1
    -- class 3: from level 2 to level 0, past level 1; from level 1 nowhere
    ∷ reached (plan 3 1 4 1 1 3) 15 (0 ∷ 1 ∷ 15 ∷ []) 10
    ∷ reached (plan 3 1 4 1 1 3) 3 (3 ∷ []) 1
    -- cell 23, of level 2, row 0, column 8, needs columns 3 and 4 of level 1, and so, in two steps, cell 1
    ∷ needed (plan 3 1 4 1 1 2) 23 1
    -- P7: cell 3 does not need cell 1, which it reaches. Cell 4 does
    ∷ spared W2 3 1
    ∷ needed W2 4 1
    -- marks of levels 1, 0 and 2; one mark twice
    ∷ costing (plan 8 1 5 1 1 2) (15 ∷ 3 ∷ 40 ∷ []) 30
    ∷ costing (plan 8 1 5 1 1 2) (15 ∷ 15 ∷ []) 20
    -- 3 by 3 cells with the one in the middle refined, and a mark on its first child, in row 2 and column 2 of level 1: rows and columns 1
    -- to 3 stand on rows and columns 0 and 1. 4 cells of at most 10
    ∷ refines (plan 3 3 3 1 1 2) (4 ∷ []) 23 (0 ∷ 1 ∷ 3 ∷ 23 ∷ []) 10
    -- class 3, a mark of level 2: it reaches level 0, by its ancestor of level 1. 2 cells of at most 10
    ∷ refines (plan 2 1 4 1 1 3) (0 ∷ 3 ∷ []) 13 (1 ∷ 13 ∷ []) 10
    ∷ []

pub worked : T (all_hold table)
unfolding table at_most window reaches most_of in_span in_rectangle plan_refusal some every sum elem all listed tabulate stored first reach needs closure offset number level_of place_on place between numbers_in_range corners_in_range in_range ratio grown too_large last_level above below parent child is_set is_corner corners_to times knot_from knot beyond functionCount covers apart together supported_at supported ancestor common_at near_at near absent active refined children cell_fits is_mesh is_admissible label_of labels is_labelled refusal3 refusal6 check fresh_cells fresh_functions open_mesh reactivable eligible is_too_deep mark_refusal under_marked under_kept selected base table_of smallest changed written refused settle new_cells refusal outcome covered
worked = tt
