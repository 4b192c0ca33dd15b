-- What is read for a cell is what refusal 5 asks of it; and of the last level it asks nothing. Assumes nothing.
use mathlib.Core.Path.{◌≡◌, refl, sym, ap, ◌∙◌}
use mathlib.Core.Bool.{Bool, true, not, ◌||◌, and-true}
use mathlib.Core.List.{List}
use Prim.Native.Nat.{ℕ, ◌+◌, ◌-◌, ◌*◌, ◌<◌}
use native.Mathlib.Omega.{arith}
use lib.Dec.{eqb}
use lib.ListN.{get_or}
use Rattle.facts.specs.Ranges.{every_from}
use Rattle.facts.proofs.Bounded.{every_i}
use Rattle.facts.proofs.Ranges.{every_from_lem, from_i}
use Rattle.facts.proofs.Tests.{or_implies, implies_i, T_true, true_T}
use Rattle.grid.specs.declared.Plan.{Plan}
use Rattle.grid.specs.declared.Place.{Place}
use Rattle.grid.specs.Plan.{columns_at, rows_at, cell_offset, cell_total, cell_level, near}
use Rattle.grid.specs.Range.{InRange}
use Rattle.grid.proofs.Laws.{near_places}
use Rattle.grid.proofs.Numbering.{level_ends, place_rest}
use Rattle.mesh.specs.Mesh.{refined, is_admissible}
use Rattle.mesh.proofs.Bridge.{mesh_fits}
use Rattle.nesting.specs.Table.{MeshTable}
use Rattle.grid.proofs.Levels.{levels_join}
use Rattle.windows.specs.Near.{least_near}
use Rattle.windows.proofs.Near.{least_near_two}
use Rattle.admissible.specs.Admissible.{cell_admissible}

-- ---- a cell

module _ (p : Plan) (cells : List ℕ) (table : MeshTable p cells) where
  pub cell_read : (q n : ℕ) → n ≡ least_near p cells q → not (eqb (get_or cells q 0) 2) || eqb n 2 ≡ cell_admissible p cells q
  unfolding cell_admissible refined
  cell_read q n e =
      ap (λ (x : ℕ). not (eqb (get_or cells q 0) 2) || eqb x 2) e
      ∙ (ap (λ (b : Bool). not (eqb (get_or cells q 0) 2) || b) (least_near_two p table.sized.range cells q (λ c i. (mesh_fits p cells (true_T _ table.mesh) c i).byte)) ∙ or_implies (eqb (get_or cells q 0) 2) _)

  -- ---- the last level

  last_passes : (k : ℕ) → k + 1 ≡ p.levels → every_from (cell_offset p k) (rows_at p k * columns_at p k) (cell_admissible p cells) ≡ true
  unfolding cell_admissible
  last_passes k l = T_true _ (from_i (cell_offset p k) _ _ (λ c a b.
      let i : c < cell_total p = omega (arith, level_ends (columns_at p) (rows_at p) k p.levels (omega arith)) in
      let e : k ≡ cell_level p c = ap (λ (x : Place). x.level) (place_rest (columns_at p) (rows_at p) p.levels c k (c - cell_offset p k) (omega arith) (omega arith) (omega arith)) in
      implies_i (refined cells c) _ (λ t. absurd ((mesh_fits p cells (true_T _ table.mesh) c i).shallow t (omega arith)))))

  pub levels_passed : (k : ℕ) → k + 1 ≡ p.levels → every_from 0 (cell_offset p k) (cell_admissible p cells) ≡ is_admissible p cells
  unfolding is_admissible cell_admissible
  levels_passed k l =
      let test : ℕ → Bool = cell_admissible p cells in
      sym (and-true (every_from 0 (cell_offset p k) test))
      ∙ (levels_join (columns_at p) (rows_at p) test k refl (sym (last_passes k l)) ∙ (ap (λ (n : ℕ). every_from 0 (cell_offset p n) test) l ∙ every_from_lem (cell_total p) test))

-- ---- class 0

pub class_zero : (p : Plan) → InRange p → p.class ≡ 0 → (cells : List ℕ) → is_admissible p cells ≡ true
unfolding is_admissible
class_zero p range z cells = T_true _ (every_i (cell_total p) _ (λ q _. implies_i (refined cells q) _ (λ _.
    every_i (cell_total p) _ (λ c _. implies_i (near p q c) _ (λ t. absurd ((near_places p range q c t).graded z))))))
