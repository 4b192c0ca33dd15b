-- What is claimed of each accepted and each refused call, in document 01's words; proofs/Results.antt proves it of `outcome`.
use Rattle.std.specs.Prelude.{◌≡◌, Bool, not, ◌&&◌, List, ℕ, ◌<◌, T, length, take, drop}
use Rattle.facts.specs.Numbers.{elem, rising}
use Rattle.hierarchy.specs.Hierarchy.{Cells}
use Rattle.grid.specs.declared.Plan.{Plan}
use Rattle.grid.specs.Plan.{cell_total, function_total}
use Rattle.mesh.specs.Mesh.{refined, is_mesh, is_admissible, check}
use Rattle.outcomes.specs.Calls.{Direction, refine, coarsen, By, selected, base, Outcome}

-- ---- smallest

-- the table u is an admissible mesh and has refined what the call asks for, where the marks mean the cells of M
pub record Has (d : Direction) (p : Plan) (cs : List ℕ) (M : Cells) (u : List ℕ) : Type 0 where
  pub sized : length u ≡ cell_total p
  pub mesh : T (is_mesh p u)
  pub admissible : T (is_admissible p u)
  pub has : (c : ℕ) → c < cell_total p → T (base d cs M c) → T (refined u c)

-- u is the smallest of them: every other has all of its refined cells
pub record Smallest (d : Direction) (p : Plan) (cs : List ℕ) (M : Cells) (u : List ℕ) : Type 0 where
  pub one : Has d p cs M u
  pub least : (v : List ℕ) → Has d p cs M v → (c : ℕ) → c < cell_total p → T (refined u c) → T (refined v c)

-- ---- lists

-- when refining, the cells (functions) that became refined (deactivated); when coarsening, those that ceased to be
abbrev pub turned : Direction → List ℕ → List ℕ → ℕ → Bool
turned refine old new x = refined new x && not (refined old x)
turned coarsen old new x = refined old x && not (refined new x)

-- the list holds exactly those, "each in rising order, once each"
pub record Exact (d : Direction) (n : ℕ) (old new list : List ℕ) : Type 0 where
  pub rises : T (rising list)
  pub only : (x : ℕ) → T (elem x list) → (x < n) × T (turned d old new x)
  pub all : (x : ℕ) → x < n → T (turned d old new x) → T (elem x list)
  -- and nothing turned the other way
  pub none : (x : ℕ) → x < n → T (turned d new old x) → ⊥

-- ---- a call

-- what holds of an accepted call
pub record Accepted (d : Direction) (by : By) (p : Plan) (cs fs marks cl fl : List ℕ) (o : Outcome) : Type 0 where
  pub smallest : Smallest d p cs (selected d by p cs fs marks) o.cells
  -- the function bytes are those fixed by the new cells, among the rest
  pub checked : check p o.cells o.functions ≡ 0
  pub cell_list : Exact d (cell_total p) cs o.cells (take o.answer.cells o.cell_list)
  pub function_list : Exact d (function_total p) fs o.functions (take o.answer.functions o.function_list)
  -- "List entries past those lengths keep their values"
  pub cell_tail : drop o.answer.cells o.cell_list ≡ drop o.answer.cells cl
  pub function_tail : drop o.answer.functions o.function_list ≡ drop o.answer.functions fl
  pub cell_room : length o.cell_list ≡ length cl
  pub function_room : length o.function_list ≡ length fl

-- "zero lengths. Tables and lists keep their bytes"
pub record Refused (cs fs cl fl : List ℕ) (o : Outcome) : Type 0 where
  pub cells : o.cells ≡ cs
  pub functions : o.functions ≡ fs
  pub cell_list : o.cell_list ≡ cl
  pub function_list : o.function_list ≡ fl
  pub no_cells : o.answer.cells ≡ 0
  pub no_functions : o.answer.functions ≡ 0
