-- Refusal 5 and check by the rule before Req 12, for the standard basis: what "Old graded walls pass" speaks of. Definitions only.
use Rattle.std.specs.Prelude.{Bool, not, cond, List, ℕ, eqb}
use Rattle.facts.specs.Bounded.{implies, every}
use Rattle.grid.specs.declared.Plan.{Plan}
use Rattle.grid.specs.Plan.{cell_total}
use Rattle.grid.specs.HNear.{h_near}
use Rattle.mesh.specs.Mesh.{refined, is_mesh, is_labelled, refusal3}

unfoldable pub is_h_admissible : Plan → List ℕ → Bool
is_h_admissible p cells =
    every (cell_total p) (λ q. implies (refined cells q) (every (cell_total p) (λ c. implies (h_near p q c) (refined cells c))))

-- refusals 1 to 6 with this for 5
unfoldable pub h_check : Plan → List ℕ → List ℕ → ℕ
h_check p cells functions =
    cond (eqb (refusal3 p cells functions) 0)
    (cond (not (is_mesh p cells)) 4 (cond (not (is_h_admissible p cells)) 5 (cond (not (is_labelled p cells functions)) 6 0)))
    (refusal3 p cells functions)
