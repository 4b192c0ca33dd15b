-- Document 02, Req 09: what an accepted refinement costs; proofs/Cost.antt proves it of `outcome`. Definitions only.
use Rattle.std.specs.Prelude.{List, [], ◌∷◌, ◌≡◌, ℕ, ◌+◌, ◌≤◌, ◌<◌, T, take}
use Rattle.facts.specs.Numbers.{elem}
use Rattle.grid.specs.declared.Plan.{Plan}
use Rattle.grid.specs.Plan.{cell_total, cell_level}
use Rattle.outcomes.specs.Calls.{refine, By, selected, Outcome}
use Rattle.cost.specs.Reach.{reaches, most_refined}

-- the sum of what the cells of a list can cost
unfoldable pub most_of : Plan → List ℕ → ℕ
most_of p [] = 0
most_of p (c ∷ cs) = most_refined p (cell_level p c) + most_of p cs

-- the cells that the call lists
abbrev pub listed_cells : Outcome → List ℕ
listed_cells o = take o.answer.cells o.cell_list

-- what holds of an accepted refinement o in any class, by cells or by functions
pub record Cost (by : By) (p : Plan) (cs fs marks : List ℕ) (o : Outcome) : Type 0 where
  -- where every cell that the marks stand for is in a list, no more cells become refined than those of the list can cost together
  pub most : (ns : List ℕ) → ((c : ℕ) → c < cell_total p → T (selected refine by p cs fs marks c) → T (elem c ns)) → o.answer.cells ≤ most_of p ns
  -- each cell that becomes refined is reached by one of those that the marks stand for
  pub reached : (x : ℕ) → T (elem x (listed_cells o)) → (c : ℕ) × (c < cell_total p) × T (selected refine by p cs fs marks c) × T (reaches p c x)
  -- in class 0 it is one of them, and all of them are
  pub alone : p.class ≡ 0 → (x : ℕ) → x < cell_total p → elem x (listed_cells o) ≡ selected refine by p cs fs marks x
