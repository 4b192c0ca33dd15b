-- The published basis of meshes that document 01 works by hand, computed from its definition: who is in H, who is deactivated, and
-- the labels beside them. Assumes nothing.
use mathlib.Core.Bool.{Bool, true, false, not, ◌&&◌, cond}
use mathlib.Core.List.{List, [], ◌∷◌}
use Prim.Native.Nat.{ℕ}
use lib.Dec.{T, eqb}
use Rattle.facts.specs.Bounded.{some, every}
use Rattle.facts.specs.Numbers.{elem, tabulate}
use Rattle.grid.specs.declared.Plan.{Plan}
use Rattle.grid.specs.Numbering.{offset, number, level_of, place_on, place}
use Rattle.grid.specs.Plan.{ratio, grown, above, parent, supported_at, supported, ancestor, function_total}
use Rattle.grid.specs.Knots.{is_set, is_corner, corners_to, times, knot_from, knot, beyond, functions, covers}
use Rattle.mesh.specs.Mesh.{absent, refined, table_of, label_of}
use Rattle.basis.specs.Basis.{finest, cell_over, in_support, in_region, inside_region, member, active_function, deactivated_function}

-- document 01's W0 and W2, by their class
abbrev pub plan : ℕ → Plan
plan m = record { columns = 3; rows = 1; levels = 3; degree_across = 1; degree_up = 1; class = m; corners_across = 0; corners_up = 0 }

pub record Row : Type 0 where
  pub on : Plan
  pub refined_cells : List ℕ
  pub active : List ℕ
  pub deactivated : List ℕ

abbrev pub same : Bool → Bool → Bool
same true b = b
same false b = not b

-- the function is active, and is deactivated, where the row says so, and its label is the one for that
abbrev pub holds_at : Row → List ℕ → ℕ → Bool
holds_at r cells f =
    let one = active_function r.on cells f in
    let two = deactivated_function r.on cells f in
    same one (elem f r.active) && (same two (elem f r.deactivated) && eqb (label_of r.on cells f) (cond one 1 (cond two 2 0)))

abbrev pub holds : Row → Bool
holds r = let cells = table_of r.on (λ c. elem c r.refined_cells) in every (function_total r.on) (holds_at r cells)

abbrev pub all_hold : List Row → Bool
all_hold [] = true
all_hold (r ∷ rs) = holds r && all_hold rs

abbrev pub row : Plan → List ℕ → List ℕ → List ℕ → Row
row p c a d = record { on = p; refined_cells = c; active = a; deactivated = d }

pub table : List Row
table =
    -- W0 fresh; after P1; after P2; after P3; W2 after P7, where function 0 is deactivated and its child 8 is not active
    row (plan 0) [] (0 ∷ 1 ∷ 2 ∷ 3 ∷ 4 ∷ 5 ∷ 6 ∷ 7 ∷ []) []
    ∷ row (plan 0) (0 ∷ []) (1 ∷ 2 ∷ 3 ∷ 5 ∷ 6 ∷ 7 ∷ 8 ∷ 9 ∷ 15 ∷ 16 ∷ 22 ∷ 23 ∷ []) (0 ∷ 4 ∷ [])
    ∷ row (plan 0) (1 ∷ []) (0 ∷ 1 ∷ 2 ∷ 3 ∷ 4 ∷ 5 ∷ 6 ∷ 7 ∷ 11 ∷ 18 ∷ 25 ∷ []) []
    ∷ row (plan 0) (0 ∷ 1 ∷ [])
    (2 ∷ 3 ∷ 6 ∷ 7 ∷ 8 ∷ 9 ∷ 10 ∷ 11 ∷ 15 ∷ 16 ∷ 17 ∷ 18 ∷ 22 ∷ 23 ∷ 24 ∷ 25 ∷ []) (0 ∷ 1 ∷ 4 ∷ 5 ∷ [])
    ∷ row (plan 2) (0 ∷ 3 ∷ [])
    (1 ∷ 2 ∷ 3 ∷ 5 ∷ 6 ∷ 7 ∷ 9 ∷ 15 ∷ 16 ∷ 22 ∷ 23 ∷ 29 ∷ 30 ∷ 42 ∷ 43 ∷ []) (0 ∷ 4 ∷ 8 ∷ [])
    ∷ []

pub worked : T (all_hold table)
unfolding table some every elem tabulate offset number level_of place_on place ratio grown above parent is_set is_corner corners_to times knot_from knot beyond functions covers supported_at supported ancestor absent refined table_of label_of finest cell_over in_support in_region inside_region member active_function deactivated_function
worked = tt
