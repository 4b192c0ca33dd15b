-- What the passes make of a plan's tables. Definitions only.
use Rattle.std.specs.Prelude.{◌≡◌, ◌&&◌, cond, List, ℕ, ◌≤◌, ◌<◌, eqb, length, get_or}
use Rattle.facts.specs.Bounded.{some}
use Rattle.grid.specs.declared.Plan.{Plan}
use Rattle.grid.specs.Plan.{cell_total, supported}
use Rattle.mesh.specs.Mesh.{deactivated}

-- 1 for a "deactivated function with a joinable cell of its own level in its support"
unfoldable pub coarsenable_byte : Plan → List ℕ → List ℕ → ℕ → ℕ
coarsenable_byte p functions reactivables f =
    cond (deactivated functions f && some (cell_total p) (λ c. supported p f c && eqb (get_or reactivables c 0) 1)) 1 0

-- a byte for each cell, none of them 0
pub record NonZero (p : Plan) (table : List ℕ) : Type 0 where
  pub size : length table ≡ cell_total p
  pub some : (c : ℕ) → c < cell_total p → 1 ≤ get_or table c 0
