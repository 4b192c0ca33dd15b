-- Refusals 4 and 5 come before those that follow them, and where there is none the cells are an admissible mesh. Assumes nothing.
use mathlib.Core.Path.{◌≡◌, refl}
use mathlib.Core.Logic.{◌≢◌}
use mathlib.Core.Bool.{Bool, true, false, not, cond}
use mathlib.Core.List.{List}
use Prim.Native.Nat.{ℕ}
use native.Mathlib.Omega.{arith}
use Rattle.grid.specs.declared.Plan.{Plan}
use Rattle.mesh.specs.Mesh.{is_mesh, is_admissible}
use Rattle.tables.specs.Cells.{cells_refusal}

pub cells_refuse : (p : Plan) (cs : List ℕ) (n : ℕ) → cells_refusal p cs ≢ 0 → cells_refusal p cs ≡ cond (not (is_mesh p cs)) 4 (cond (not (is_admissible p cs)) 5 n)
cells_refuse p cs n e = go (is_mesh p cs) (is_admissible p cs) e
  where
    go : (a b : Bool) → ◌≢◌ {A = ℕ} (cond (not a) 4 (cond (not b) 5 0)) 0 → ◌≡◌ {A = ℕ} (cond (not a) 4 (cond (not b) 5 0)) (cond (not a) 4 (cond (not b) 5 n))
    go false b e = refl
    go true false e = refl
    go true true e = absurd (e refl)

pub cells_pass : (p : Plan) (cs : List ℕ) → 0 ≡ cells_refusal p cs → (is_mesh p cs ≡ true) × (is_admissible p cs ≡ true)
cells_pass p cs e = go (is_mesh p cs) (is_admissible p cs) e
  where
    go : (a b : Bool) → ◌≡◌ {A = ℕ} 0 (cond (not a) 4 (cond (not b) 5 0)) → (a ≡ true) × (b ≡ true)
    go true true e = (refl, refl)
    go true false e = absurd (omega arith)
    go false b e = absurd (omega arith)
