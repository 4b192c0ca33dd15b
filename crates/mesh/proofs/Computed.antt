-- Check by the rule before Req 12, and check, of the same tables: computed on W2 with some cells refined. Assumes nothing.
use mathlib.Core.Path.{◌≡◌, refl}
use mathlib.Core.List.{List, [], ◌∷◌}
use Prim.Native.Nat.{ℕ}
use Rattle.facts.specs.Bounded.{some, every}
use Rattle.facts.specs.Numbers.{elem, tabulate}
use Rattle.grid.specs.Numbering.{offset, number, level_of, place_on, place}
use Rattle.grid.specs.Plan.{between, numbers_in_range, corners_in_range, in_range, ratio, grown, too_large, plan_refusal, last_level, above, below, parent, child, supported_at, supported, ancestor, common_at, near_at, near}
use Rattle.grid.specs.HNear.{h_near_at, h_near}
use Rattle.grid.specs.Knots.{is_set, is_corner, corners_to, times, knot_from, knot, beyond, functions, covers, apart, together}
use Rattle.mesh.specs.Mesh.{absent, active, refined, children, cell_fits, is_mesh, is_admissible, table_of, label_of, labels, is_labelled, refusal3, refusal6, check}
use Rattle.mesh.specs.HAdmissible.{is_h_admissible, h_check}
use Rattle.mesh.proofs.AfterP7.{W2}

-- both numbers, of the tables in which just these cells are refined
abbrev checks : List ℕ → List ℕ
checks xs =
    let cells = table_of W2 (λ c. elem c xs) in
    h_check W2 cells (labels W2 cells) ∷ check W2 cells (labels W2 cells) ∷ []

-- cell 3 needed cell 1, and does not now; what passed passes; cell 4 needs cell 1 by both
pub worked : checks (0 ∷ 3 ∷ []) ∷ checks (0 ∷ 1 ∷ 3 ∷ []) ∷ checks (0 ∷ 4 ∷ []) ∷ [] ≡ (5 ∷ 0 ∷ []) ∷ (0 ∷ 0 ∷ []) ∷ (5 ∷ 5 ∷ []) ∷ []
unfolding some every elem tabulate offset number level_of place_on place between numbers_in_range corners_in_range in_range ratio grown too_large plan_refusal last_level above below parent child is_set is_corner corners_to times knot_from knot beyond functions covers apart together supported_at supported ancestor common_at near_at near h_near_at h_near absent active refined children cell_fits is_mesh is_admissible is_h_admissible table_of label_of labels is_labelled refusal3 refusal6 check h_check
worked = refl
