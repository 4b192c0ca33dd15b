-- Document 01, "The calls" and "The refusal table": refine ("split") and coarsen ("join"), by cells and by functions, each as one
-- function of its whole input. Everywhere cs and fs are the cell and the function table, cl and fl the lent cell and function list;
-- a prime marks what a call makes of them. Definitions only.
use Rattle.std.specs.Prelude.{Bool, false, not, ◌&&◌, ◌||◌, cond, List, ◌++◌, ℕ, ltb, eqb, length, drop}
use Rattle.std.specs.Bool.{beq}
use Rattle.facts.specs.Bounded.{some}
use Rattle.facts.specs.Numbers.{elem, listed, stored, first}
use Rattle.hierarchy.specs.Hierarchy.{Cells, closure}
use Rattle.grid.specs.declared.Plan.{Plan}
use Rattle.grid.specs.Plan.{cell_total, function_total, cell_level, function_level, last_level, supported, hierarchy}
use Rattle.mesh.specs.Mesh.{active, refined, deactivated, reactivable, table_of, labels, check}
use Rattle.outcomes.specs.declared.Answer.{Answer}

pub data Direction : Type 0 where
  refine coarsen : Direction

pub data By : Type 0 where
  cells functions : By

-- ---- marks: refusals 7, 8, 9

-- numbers of cells, or of functions
abbrev pub total : By → Plan → ℕ
total cells p = cell_total p
total functions p = function_total p

abbrev pub mark_level : By → Plan → ℕ → ℕ
mark_level cells p x = cell_level p x
mark_level functions p x = function_level p x

-- the kind of mark that the call names, of tables cs and fs
unfoldable pub eligible : Direction → By → Plan → List ℕ → List ℕ → ℕ → Bool
eligible refine cells p cs fs c = active cs c
eligible refine functions p cs fs f = active fs f
eligible coarsen cells p cs fs c = reactivable p cs c
eligible coarsen functions p cs fs f = deactivated fs f && some (cell_total p) (λ c. supported p f c && reactivable p cs c)

-- "a split mark is of level L-1"
unfoldable pub is_too_deep : Direction → By → Plan → ℕ → Bool
is_too_deep refine by p x = last_level p (mark_level by p x)
is_too_deep coarsen by p x = false

-- 7: the mark is T (or F) or more; 8: it is not of the kind its call names; 9: it is of level L-1
unfoldable pub mark_refusal : Direction → By → Plan → List ℕ → List ℕ → ℕ → ℕ
mark_refusal d by p cs fs x =
    cond (not (ltb x (total by p))) 7
    (cond (not (eligible d by p cs fs x)) 8
    (cond (is_too_deep d by p x) 9 0))

-- ---- what the marks mean

-- some marked function has the cell in its support
unfoldable pub under_marked : Plan → List ℕ → ℕ → Bool
under_marked p marks c = some (function_total p) (λ f. elem f marks && supported p f c)

-- some deactivated function that is not marked has the cell in its support
unfoldable pub under_kept : Plan → List ℕ → List ℕ → ℕ → Bool
under_kept p fs marks c = some (function_total p) (λ f. not (elem f marks) && (deactivated fs f && supported p f c))

-- the cells that the marks stand for: by functions, when refining "the active cells of its level in its support", when
-- coarsening "the joinable ones of that level in the support of a marked function and of no unmarked deactivated one of that level"
unfoldable pub selected : Direction → By → Plan → List ℕ → List ℕ → List ℕ → Cells
selected d cells p cs fs marks c = elem c marks
selected refine functions p cs fs marks c = active cs c && under_marked p marks c
selected coarsen functions p cs fs marks c = reactivable p cs c && (under_marked p marks c && not (under_kept p fs marks c))

-- ---- the result

-- what the result must have refined: "the old and the marked", "all old ones not marked"
unfoldable pub base : Direction → List ℕ → Cells → Cells
base refine cs M c = refined cs c || M c
base coarsen cs M c = refined cs c && not (M c)

-- "the smallest wall of class m whose split cells include" the cells of X: that it is one, and the smallest, is `call_accepted` of
-- proofs/Results.antt
unfoldable pub smallest : Plan → Cells → List ℕ
smallest p X = table_of p (stored (cell_total p) (closure (hierarchy p) (stored (cell_total p) X)))

-- "the cells that became split, or ceased to be", "the functions that became 2, or ceased to be", "in rising order, once each";
-- of either table, the numbers of which the byte became 2 or ceased to be
unfoldable pub changed : ℕ → List ℕ → List ℕ → List ℕ
changed n old new = listed n (λ x. not (beq (refined old x) (refined new x)))

-- the list with the changes written; "entries past those lengths keep their values"
unfoldable pub written : List ℕ → List ℕ → List ℕ
written changes list = changes ++ drop (length changes) list

-- ---- the whole call

pub record Outcome : Type 0 where
  pub answer : Answer
  pub cells : List ℕ
  pub functions : List ℕ
  pub cell_list : List ℕ
  pub function_list : List ℕ

-- "A refusal answers its number, with zero lengths. Tables and lists keep their bytes"
unfoldable pub refused : ℕ → List ℕ → List ℕ → List ℕ → List ℕ → Outcome
refused n cs fs cl fl =
    record { answer = record { number = n; cells = 0; functions = 0 }; cells = cs; functions = fs; cell_list = cl; function_list = fl }

-- what follows when the new tables are known: 10, 11, or the changes
-- (dc and df: the cells and the functions that changed)
unfoldable pub settle : Plan → List ℕ → List ℕ → List ℕ → List ℕ → List ℕ → List ℕ → Outcome
settle p cs fs cl fl cs' fs' =
    let dc = changed (cell_total p) cs cs' in
    let df = changed (function_total p) fs fs' in
    cond (ltb (length cl) (length dc)) (refused 10 cs fs cl fl)
    (cond (ltb (length fl) (length df)) (refused 11 cs fs cl fl)
    (record {
      answer = record { number = 0; cells = length dc; functions = length df };
      cells = cs';
      functions = fs';
      cell_list = written dc cl;
      function_list = written df fl;
    }))

-- the new cell table of an accepted call
unfoldable pub new_cells : Direction → By → Plan → List ℕ → List ℕ → List ℕ → List ℕ
new_cells d by p cs fs marks = smallest p (base d cs (selected d by p cs fs marks))

-- "Order: 1 to 6; then marks in list order, each tried for 7, 8, 9; then 10, 11": the first of 1 to 9, or 0
unfoldable pub refusal : Direction → By → Plan → List ℕ → List ℕ → List ℕ → ℕ
refusal d by p cs fs marks =
    cond (eqb (check p cs fs) 0) (first (mark_refusal d by p cs fs) marks) (check p cs fs)

-- the call: plan, both tables, marks and both lent lists to number, lengths, tables and lists
unfoldable pub outcome : Direction → By → Plan → List ℕ → List ℕ → List ℕ → List ℕ → List ℕ → Outcome
outcome d by p cs fs marks cl fl =
    cond (eqb (refusal d by p cs fs marks) 0)
    (let cs' = new_cells d by p cs fs marks in settle p cs fs cl fl cs' (labels p cs'))
    (refused (refusal d by p cs fs marks) cs fs cl fl)

-- the four calls by name
abbrev pub refine_cells : Plan → List ℕ → List ℕ → List ℕ → List ℕ → List ℕ → Outcome
refine_cells = outcome refine cells

abbrev pub refine_functions : Plan → List ℕ → List ℕ → List ℕ → List ℕ → List ℕ → Outcome
refine_functions = outcome refine functions

abbrev pub coarsen_cells : Plan → List ℕ → List ℕ → List ℕ → List ℕ → List ℕ → Outcome
coarsen_cells = outcome coarsen cells

abbrev pub coarsen_functions : Plan → List ℕ → List ℕ → List ℕ → List ℕ → List ℕ → Outcome
coarsen_functions = outcome coarsen functions
