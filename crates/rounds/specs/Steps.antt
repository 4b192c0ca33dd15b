-- What the contracts of the parts cite. Definitions only.
use Rattle.std.specs.Prelude.{Bool, not, ◌&&◌, List, ◌≡◌, ℕ, ◌-◌, ◌≤◌, ◌<◌, T, eqb, length, get_or}
use Rattle.facts.specs.Numbers.{tabulate}
use Rattle.grid.specs.declared.Plan.{Plan}
use Rattle.grid.specs.Plan.{cell_offset, cell_total}
use Rattle.grid.specs.Bounds.{most_cells}
use Rattle.grid.specs.Range.{InRange}
use Rattle.mesh.specs.Mesh.{refined}
use Rattle.outcomes.specs.Calls.{changed, written}
use Rattle.outcomes.specs.Meets.{Lent}
use Rattle.rounds.specs.declared.RoundsAnswer.{RoundsAnswer}
use Rattle.rounds.specs.Rounds.{RoundsOutcome}
use Rattle.rounds.specs.Demands.{missing}

-- an answer, with both lists as the function leaves them
abbrev pub left_by_rounds : RoundsAnswer → Lent → Lent → RoundsOutcome
left_by_rounds r marks lengths = record { answer = r; marks = marks.exit.now; lengths = lengths.exit.now }

-- a byte of today's cells is 2, and the wanted one is not
abbrev pub lost_at : List ℕ → List ℕ → ℕ → Bool
lost_at cells wanted c = eqb (get_or cells c 0) 2 && not (eqb (get_or wanted c 0) 2)

-- two cell tables of the plan, where what is refined in the first is so in the second, and room for the rounds
pub record Listable (p : Plan) (cs ws ml ll : List ℕ) : Type 0 where
  pub range : InRange p
  pub small : cell_total p ≤ most_cells
  pub cells_are : length cs ≡ cell_total p
  pub wanted_are : length ws ≡ cell_total p
  pub within : (c : ℕ) → T (refined cs c) → T (refined ws c)
  pub inside : (c : ℕ) → T (refined ws c) → c < cell_total p
  pub room : length (changed (cell_total p) cs ws) ≤ length ml
  pub levels≤ : p.levels - 1 ≤ length ll

-- how many cells are missing on a level
abbrev pub missing_on : Plan → List ℕ → List ℕ → ℕ → ℕ
missing_on p cs ws k = length (missing p cs ws k)

-- the cells that are missing on the levels before k are written, n of them, and how many there are on each
pub record ListedLevels (p : Plan) (cs ws ml ll : List ℕ) (k n : ℕ) (ml' ll' : List ℕ) : Type 0 where
  pub count : n ≡ length (changed (cell_offset p k) cs ws)
  pub marks : ml' ≡ written (changed (cell_offset p k) cs ws) ml
  pub lengths : ll' ≡ written (tabulate k (missing_on p cs ws)) ll
