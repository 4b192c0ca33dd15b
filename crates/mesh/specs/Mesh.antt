-- Document 01, "The two tables", and the calls that need no marks: open, check, count. Definitions only.
use Rattle.std.specs.Prelude.{Bool, not, ◌&&◌, ◌||◌, cond, List, ℕ, ◌-◌, ◌*◌, ◌^◌, leb, eqb, length, get_or}
use Rattle.facts.specs.Bounded.{implies, some, every, sum}
use Rattle.facts.specs.Numbers.{tabulate}
use Rattle.grid.specs.declared.Plan.{Plan}
use Rattle.grid.specs.Plan.{ratio, plan_refusal_or, cell_total, function_total, cell_level, function_level, last_level, parent, child, supported, near}
use Rattle.hierarchy.specs.Hierarchy.{Cells}
use Rattle.mesh.specs.declared.Count.{Count}

-- ---- cells: "0 absent, 1 active, 2 split" (here: refined)

module _ (table : List ℕ) where
  unfoldable pub absent : ℕ → Bool
  absent c = eqb (get_or table c 0) 0

  unfoldable pub active : ℕ → Bool
  active c = eqb (get_or table c 0) 1

  unfoldable pub refined : ℕ → Bool
  refined c = eqb (get_or table c 0) 2

-- the functions' bytes: 0 passive, 1 active, 2 deactivated
abbrev pub deactivated : List ℕ → ℕ → Bool
deactivated functions f = refined functions f

-- each of the cell's children passes; a cell of the last level has none
unfoldable pub children : Plan → ℕ → (ℕ → Bool) → Bool
children p c test =
    last_level p (cell_level p c) || every (ratio p) (λ a. every (ratio p) (λ b. test (child p c a b)))

-- "It is a wall when it holds no other byte, no level 0 cell is absent, the children of a split cell are all present (1 or 2),
-- the children of any other cell are all absent, and no cell of level L-1 is split": what this asks of one cell
unfoldable pub cell_fits : Plan → List ℕ → ℕ → Bool
cell_fits p cells c =
    leb (get_or cells c 0) 2
    && (implies (eqb (cell_level p c) 0) (not (absent cells c))
    && (cond (refined cells c) (children p c (λ d. not (absent cells d))) (children p c (absent cells))
    && implies (last_level p (cell_level p c)) (not (refined cells c))))

-- the table is a mesh ("wall")
unfoldable pub is_mesh : Plan → List ℕ → Bool
is_mesh p cells = every (cell_total p) (cell_fits p cells)

-- "Graded": the neighbourhood of each refined cell is refined
unfoldable pub is_admissible : Plan → List ℕ → Bool
is_admissible p cells =
    every (cell_total p) (λ q. implies (refined cells q) (every (cell_total p) (λ c. implies (near p q c) (refined cells c))))

-- "split cells whose four children are active" (document 01: joinable)
unfoldable pub reactivable : Plan → List ℕ → ℕ → Bool
reactivable p cs c = refined cs c && (not (last_level p (cell_level p c)) && children p c (active cs))

-- the table in which just the cells of S are refined
unfoldable pub table_of : Plan → Cells → List ℕ
table_of p S = tabulate (cell_total p) (λ c. cond (S c) 2 (cond (eqb (cell_level p c) 0 || S (parent p c)) 1 0))

-- ---- functions: "fixed by the cells of the function's own level in its support: 0 passive if any is absent; 2 deactivated if
-- all are split; 1 active otherwise"

unfoldable pub label_of : Plan → List ℕ → ℕ → ℕ
label_of p cells f =
    cond (some (cell_total p) (λ c. supported p f c && absent cells c)) 0
    (cond (every (cell_total p) (λ c. implies (supported p f c) (refined cells c))) 2 1)

-- the function table that the cells fix
unfoldable pub labels : Plan → List ℕ → List ℕ
labels p cells = tabulate (function_total p) (label_of p cells)

unfoldable pub is_labelled : Plan → List ℕ → List ℕ → Bool
is_labelled p cells functions = every (function_total p) (λ f. eqb (get_or functions f 0) (label_of p cells f))

-- ---- refusals 1 to 6, in order (document 01, "The refusal table")

-- 1 and 2, of the plan; 3: a table's length is not T, or F
unfoldable pub refusal3 : Plan → List ℕ → List ℕ → ℕ
refusal3 p cells functions =
    plan_refusal_or p (cond (not (eqb (length cells) (cell_total p) && eqb (length functions) (function_total p))) 3 0)

-- 4: the cells are no mesh; 5: it is not admissible; 6: a function byte is not the one fixed by the cells
unfoldable pub refusal6 : Plan → List ℕ → List ℕ → ℕ
refusal6 p cells functions =
    cond (not (is_mesh p cells)) 4
    (cond (not (is_admissible p cells)) 5
    (cond (not (is_labelled p cells functions)) 6 0))

-- "Check: 0, or the first of refusals 1 to 6"
unfoldable pub check : Plan → List ℕ → List ℕ → ℕ
check p cells functions = cond (eqb (refusal3 p cells functions) 0) (refusal6 p cells functions) (refusal3 p cells functions)

-- ---- open: "level 0 cells and functions 1, the rest 0"; with a refusal the tables keep their bytes

pub record Opened : Type 0 where
  pub number : ℕ
  pub cells : List ℕ
  pub functions : List ℕ

unfoldable pub fresh_cells : Plan → List ℕ
fresh_cells p = tabulate (cell_total p) (λ c. cond (eqb (cell_level p c) 0) 1 0)

unfoldable pub fresh_functions : Plan → List ℕ
fresh_functions p = tabulate (function_total p) (λ f. cond (eqb (function_level p f) 0) 1 0)

unfoldable pub open_mesh : Plan → List ℕ → List ℕ → Opened
open_mesh p cells functions =
    cond (eqb (refusal3 p cells functions) 0)
    (record { number = 0; cells = fresh_cells p; functions = fresh_functions p })
    (record { number = refusal3 p cells functions; cells = cells; functions = functions })

-- ---- count: "active cells, split cells, active functions, and area: an active cell of level k counts 4^(L-1-k)"

-- how many numbers below n pass
unfoldable pub tally : ℕ → (ℕ → Bool) → ℕ
tally n test = sum n (λ c. cond (test c) 1 0)

unfoldable pub area_of : Plan → List ℕ → ℕ
area_of p cells =
    sum (cell_total p) (λ c. cond (active cells c) ((ratio p * ratio p) ^ (p.levels - 1 - cell_level p c)) 0)

unfoldable pub count : Plan → List ℕ → List ℕ → Count
count p cells functions =
    cond (eqb (check p cells functions) 0)
    (record {
      number = 0;
      active = tally (cell_total p) (active cells);
      refined = tally (cell_total p) (refined cells);
      functions = tally (function_total p) (active functions);
      area = area_of p cells;
    })
    (record { number = check p cells functions; active = 0; refined = 0; functions = 0; area = 0 })
