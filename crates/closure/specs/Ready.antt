-- What the two public functions ask of their input. Definitions only.
use Rattle.std.specs.Prelude.{◌≡◌, Bool, not, ◌&&◌, List, ℕ, ◌≤◌, T, length}
use Rattle.grid.specs.declared.Plan.{Plan}
use Rattle.grid.specs.Plan.{cell_total, cell_level, last_level}
use Rattle.grid.specs.Range.{InRange}
use Rattle.mesh.specs.Mesh.{active, reactivable, is_mesh, is_admissible}
use Rattle.outcomes.specs.Calls.{Direction, refine, coarsen}
use Rattle.closure.specs.Walk.{flagged}
use Rattle.grid.specs.Bounds.{most_cells}

-- a plan whose cell table has n bytes
pub record TableSize (p : Plan) (n : ℕ) : Type 0 where
  pub range : InRange p
  pub small : cell_total p ≤ most_cells
  pub size : n ≡ cell_total p

-- a cell that may be refined: active and not of the last level; or made active again: reactivable
unfoldable pub may_turn : Direction → Plan → List ℕ → ℕ → Bool
may_turn refine p cells c = active cells c && not (last_level p (cell_level p c))
may_turn coarsen p cells c = reactivable p cells c

-- the cells are an admissible mesh, and each cell with the flag 1 may be refined (or made active again)
pub record Ready (d : Direction) (p : Plan) (cells flags : List ℕ) : Type 0 where
  pub range : InRange p
  pub small : cell_total p ≤ most_cells
  pub size : length cells ≡ cell_total p
  pub flags_size : length flags ≡ cell_total p
  pub mesh : T (is_mesh p cells)
  pub admissible : T (is_admissible p cells)
  pub may : (c : ℕ) → T (flagged flags c) → T (may_turn d p cells c)
