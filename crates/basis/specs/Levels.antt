-- Document 02, Req 12, in place of Req 02: the functions of the level k-m+1 over an active cell of level k. Definitions only.
use Rattle.std.specs.Prelude.{Bool, ◌&&◌, ◌||◌, List, ◌≡◌, ℕ, ◌+◌, ◌<◌, ◌≤◌, T, eqb, get_or}
use Rattle.facts.specs.Bounded.{some}
use Rattle.facts.specs.Numbers.{listed}
use Rattle.grid.specs.declared.Plan.{Plan}
use Rattle.grid.specs.Plan.{columns_at, rows_at, cell_total, function_total, cell_number, cell_level, function_level}
use Rattle.mesh.specs.Mesh.{active, deactivated}
use Rattle.basis.specs.Basis.{finest, cell_over, in_support}

-- the point lies in the cell c
unfoldable pub in_cell : Plan → ℕ → ℕ → ℕ → Bool
in_cell p c y x = eqb (cell_number p (cell_over p (cell_level p c) y x)) c

-- the function f is over the cell c ("covers"): its support and the cell have a point in common, whatever their levels
unfoldable pub over : Plan → ℕ → ℕ → Bool
over p f c =
    some (rows_at p (finest p)) (λ y. some (columns_at p (finest p)) (λ x. in_cell p c y x && in_support p f y x))

-- the functions of level l over the cell c, in rising order
unfoldable pub functions_over : Plan → ℕ → ℕ → List ℕ
functions_over p l c = listed (function_total p) (λ f. eqb (function_level p f) l && over p f c)

-- f is a function over c, an active cell
pub record OverActive (p : Plan) (cells : List ℕ) (c f : ℕ) : Type 0 where
  pub cell< : c < cell_total p
  pub function< : f < function_total p
  pub is_active : T (active cells c)
  pub is_over : T (over p f c)

-- What Req 12 claims of a graded wall: of tables that check passes with a class m other than 0
pub record Present (p : Plan) (cells functions : List ℕ) : Type 0 where
  -- "every function of level k-m+1 that covers an active cell of level k (k at least m) is active or deactivated"
  pub level : (c f : ℕ) → OverActive p cells c f → p.class ≤ cell_level p c → function_level p f + p.class ≡ cell_level p c + 1
      → T (active functions f || deactivated functions f)
  -- and so is every function over it of a level before that one, whatever k; the finer ones than the cell are all passive
  pub coarser : (c f : ℕ) → OverActive p cells c f → function_level p f + p.class ≤ cell_level p c + 1 → T (active functions f || deactivated functions f)
  pub finer : (c f : ℕ) → OverActive p cells c f → cell_level p c < function_level p f → get_or functions f 0 ≡ 0
