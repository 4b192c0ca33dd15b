-- What a method makes of a table. Definitions only.
use Rattle.std.specs.Prelude.{◌≡◌, List, ℕ}
use Rattle.grid.specs.declared.Plan.{Plan}
use Rattle.closure.specs.declared.Table.{Table}

-- the plan stays, and the cells, in their place, are f of what they were
pub record Becomes (s t : Table) (f : Plan → List ℕ → List ℕ) : Type 0 where
  pub plan : t.plan ≡ s.plan
  pub place : t.cells.ghost_name ≡ s.cells.ghost_name
  pub cells : t.cells.now ≡ f s.plan s.cells.now
