-- What refusal 5 asks of a cell. Definitions only.
use Rattle.std.specs.Prelude.{Bool, List, ℕ}
use Rattle.facts.specs.Bounded.{implies, every}
use Rattle.grid.specs.declared.Plan.{Plan}
use Rattle.grid.specs.Plan.{cell_total, near}
use Rattle.mesh.specs.Mesh.{refined}

unfoldable pub cell_admissible : Plan → List ℕ → ℕ → Bool
cell_admissible p cells q = implies (refined cells q) (every (cell_total p) (λ c. implies (near p q c) (refined cells c)))
