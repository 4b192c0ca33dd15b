-- Refusals 4 and 5, of a cell table of the right length: what check and reading a file judge first. Definitions only.
use Rattle.std.specs.Prelude.{not, cond, List, ℕ}
use Rattle.grid.specs.declared.Plan.{Plan}
use Rattle.mesh.specs.Mesh.{is_mesh, is_admissible}

abbrev pub cells_refusal : Plan → List ℕ → ℕ
cells_refusal p cells = cond (not (is_mesh p cells)) 4 (cond (not (is_admissible p cells)) 5 0)
