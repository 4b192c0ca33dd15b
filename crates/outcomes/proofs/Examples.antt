-- Document 01, "Walls worked by hand": P1 to P11, the plans that open or are refused, the examples of the refusal table, and what
-- these leave open of the plausible mistakes, as rows of one table under one theorem that the checker computes. Assumes nothing.
use mathlib.Core.Path.{◌≡◌, refl}
use mathlib.Core.Bool.{Bool, true, false, not, ◌&&◌, ◌||◌, cond}
use mathlib.Core.List.{List, [], ◌∷◌, ◌++◌}
use Prim.Native.Nat.{ℕ, ◌-◌}
use lib.Dec.{T, eqb, eqb_refl}
use lib.ListN.{length, set, take, replicate}
use Rattle.facts.specs.Bounded.{some, every, sum}
use Rattle.facts.specs.Numbers.{elem, all, listed, tabulate, stored, first}
use Rattle.facts.proofs.Tests.{T_true}
use Rattle.hierarchy.specs.Hierarchy.{reach, needs, closure}
use Rattle.grid.specs.declared.Plan.{Plan}
use Rattle.grid.specs.Numbering.{offset, number, level_of, place_on, place}
use Rattle.grid.specs.Plan.{between, numbers_in_range, corners_in_range, in_range, ratio, grown, too_large, plan_refusal, last_level, above, below, parent, child, supported_at, supported, ancestor, common_at, near_at, near, cell_total, function_total}
use Rattle.grid.specs.Knots.{is_set, is_corner, corners_to, times, knot_from, knot, beyond, functions as functionCount, covers, apart, together}
use Rattle.mesh.specs.Mesh.{Opened, absent, active, refined, children, cell_fits, is_mesh, is_admissible, reactivable, table_of, label_of, labels, is_labelled, refusal3, refusal6, check, fresh_cells, fresh_functions, open_mesh}
use Rattle.outcomes.specs.Calls.{Direction, refine, coarsen, By, cells, functions, Outcome, eligible, is_too_deep, mark_refusal, under_marked, under_kept, selected, base, smallest, changed, written, refused, settle, new_cells, refusal, outcome, refine_cells, refine_functions, coarsen_cells, coarsen_functions}
use Rattle.outcomes.specs.Runs.{Tables, covered}

-- ---- rows

-- a call by its marks and the lengths of the lists that are lent to it, with the number and the two lists that it answers
pub record Step : Type 0 where
  pub direction : Direction
  pub by : By
  pub marks : List ℕ
  pub cell_room : ℕ
  pub function_room : ℕ
  pub number : ℕ
  pub cells : List ℕ
  pub functions : List ℕ

-- what holds after the last step
pub data Fact : Type 0 where
  -- T is the number; the plan's numbers give refusal 1 or 2, or 0; open, and check, answer the number
  totals plans opens checks : ℕ → Fact
  -- the functions that are deactivated, and those that the steps made active
  deactivated newly_active : List ℕ → Fact
  -- both tables are these; they are not
  are differ : Tables → Fact
  -- each refined cell is covered, as the undo by functions asks; not each is
  is_covered not_covered : Fact

pub record Row : Type 0 where
  pub plan : Plan
  pub start : Tables
  pub steps : List Step
  pub facts : List Fact

-- ---- what a row says

abbrev pub same : List ℕ → List ℕ → Bool
same [] [] = true
same [] (y ∷ ys) = false
same (x ∷ xs) [] = false
same (x ∷ xs) (y ∷ ys) = eqb x y && same xs ys

abbrev pub same_tables : Tables → Tables → Bool
same_tables t u = same t.cells u.cells && same t.functions u.functions

-- the lent lists hold 7s, which stay where the answer does not reach
abbrev pub lent : ℕ → List ℕ
lent n = replicate n 7

-- the call by its name, as the exported functions cite it
abbrev pub named : Direction → By → Plan → List ℕ → List ℕ → List ℕ → List ℕ → List ℕ → Outcome
named refine cells = refine_cells
named refine functions = refine_functions
named coarsen cells = coarsen_cells
named coarsen functions = coarsen_functions

abbrev pub call : Plan → Tables → Step → Outcome
call p t s = named s.direction s.by p t.cells t.functions s.marks (lent s.cell_room) (lent s.function_room)

abbrev pub left : Outcome → Tables
left o = record { cells = o.cells; functions = o.functions }

-- the step's number, lengths and whole lists; a refused step leaves the tables as they were
abbrev pub answers : Tables → Step → Outcome → Bool
answers t s o =
    eqb o.answer.number s.number
    && (eqb o.answer.cells (length s.cells)
    && (eqb o.answer.functions (length s.functions)
    && (same o.cell_list (s.cells ++ lent (s.cell_room - length s.cells))
    && (same o.function_list (s.functions ++ lent (s.function_room - length s.functions))
    && (eqb s.number 0 || same_tables (left o) t)))))

-- a plan's refusal is what open answers where the tables' lengths are right
pub opens_planned : (p : Plan) (cs fs : List ℕ) → length cs ≡ cell_total p → length fs ≡ function_total p
    → (open_mesh p cs fs).number ≡ plan_refusal p
unfolding plan_refusal open_mesh refusal3
opens_planned p cs fs e g =
    rw (e, g, T_true (eqb (cell_total p) (cell_total p)) (eqb_refl (cell_total p)), T_true (eqb (function_total p) (function_total p)) (eqb_refl (function_total p))) (by_cases (in_range p) (too_large p))
  where
    by_cases : (a b : Bool) → (cond {A = Opened} (eqb (cond (not a) 1 (cond b 2 0)) 0) (record { number = 0; cells = fresh_cells p; functions = fresh_functions p }) (record { number = cond (not a) 1 (cond b 2 0); cells = cs; functions = fs })).number ≡ cond (not a) 1 (cond b 2 0)
    by_cases true true = refl
    by_cases true false = refl
    by_cases false b = refl

-- the fact holds of tables t, reached from those of the start
abbrev pub fact_holds : Plan → Tables → Tables → Fact → Bool
fact_holds p start t (totals n) = eqb (cell_total p) n
fact_holds p start t (plans n) = eqb (plan_refusal p) n
fact_holds p start t (opens n) = eqb (open_mesh p t.cells t.functions).number n
fact_holds p start t (checks n) = eqb (check p t.cells t.functions) n
fact_holds p start t (deactivated xs) = same (listed (function_total p) (refined t.functions)) xs
fact_holds p start t (newly_active xs) =
    same (listed (function_total p) (λ f. active t.functions f && not (active start.functions f))) xs
fact_holds p start t (are u) = same_tables t u
fact_holds p start t (differ u) = not (same_tables t u)
fact_holds p start t is_covered = covered p t.cells t.functions
fact_holds p start t not_covered = not (covered p t.cells t.functions)

abbrev pub facts_hold : Plan → Tables → Tables → List Fact → Bool
facts_hold p start t [] = true
facts_hold p start t (x ∷ xs) = fact_holds p start t x && facts_hold p start t xs

abbrev pub steps_hold : Plan → Tables → Tables → List Step → List Fact → Bool
steps_hold p start t [] facts = facts_hold p start t facts
steps_hold p start t (s ∷ ss) facts =
    let o = call p t s in
    let rest = steps_hold p start (left o) ss facts in
    answers t s o && rest

abbrev pub holds : Row → Bool
holds r = steps_hold r.plan r.start r.start r.steps r.facts

-- what stands in a `let` is computed only where it is asked for: nothing behind a row that fails
abbrev pub all_hold : List Row → Bool
all_hold [] = true
all_hold (r ∷ rs) = let rest = all_hold rs in holds r && rest

-- ---- the words of the table

-- the plan's numbers in document 01's order
abbrev pub plan : ℕ → ℕ → ℕ → ℕ → ℕ → ℕ → Plan
plan a b l p q m = record { columns = a; rows = b; levels = l; degree_across = p; degree_up = q; class = m; corners_across = 0; corners_up = 0 }

abbrev pub W0 : Plan
W0 = plan 3 1 3 1 1 0

abbrev pub W2 : Plan
W2 = plan 3 1 3 1 1 2

abbrev pub tables : List ℕ → List ℕ → Tables
tables cs fs = record { cells = cs; functions = fs }

-- tables just opened, and those in which just these cells are refined
abbrev pub fresh : Plan → Tables
fresh p = tables (fresh_cells p) (fresh_functions p)

abbrev pub refining : Plan → List ℕ → Tables
refining p xs = let cs = table_of p (λ c. elem c xs) in tables cs (labels p cs)

-- a step that is lent lists of n and m entries: its call and marks; number, cells and functions
abbrev pub lending : ℕ → ℕ → Direction → By → List ℕ → ℕ → List ℕ → List ℕ → Step
lending n m d by marks answer cs fs = record {
  direction = d;
  by = by;
  marks = marks;
  cell_room = n;
  function_room = m;
  number = answer;
  cells = cs;
  functions = fs;
}

-- lists of 9 entries have room for all changes of the table
abbrev pub split : By → List ℕ → ℕ → List ℕ → List ℕ → Step
split = lending 9 9 refine

abbrev pub join : By → List ℕ → ℕ → List ℕ → List ℕ → Step
join = lending 9 9 coarsen

abbrev pub row : Plan → Tables → List Step → List Fact → Row
row p t ss xs = record { plan = p; start = t; steps = ss; facts = xs }

-- ---- the table

-- the tables that several rows start from are named, so that they are computed once
pub table : List Row
table =
    let none = tables [] [] in
    let fresh0 = fresh W0 in
    let fresh2 = fresh W2 in
    let afterP2 = refining W0 (1 ∷ []) in
    let after_p3 = refining W0 (0 ∷ 1 ∷ []) in
    let afterP7 = refining W2 (0 ∷ 3 ∷ []) in
    -- P1 W0 fresh, split 0: 0; 0 4. Functions newly active: 8 9 15 16 22 23.
    row W0 fresh0 (split cells (0 ∷ []) 0 (0 ∷ []) (0 ∷ 4 ∷ []) ∷ []) (newly_active (8 ∷ 9 ∷ 15 ∷ 16 ∷ 22 ∷ 23 ∷ []) ∷ [])
    -- P2 W0 fresh, split 1: 1; none. Newly active: 11 18 25.
    ∷ row W0 fresh0 (split cells (1 ∷ []) 0 (1 ∷ []) [] ∷ []) (newly_active (11 ∷ 18 ∷ 25 ∷ []) ∷ are afterP2 ∷ [])
    -- P3 W0 fresh, split by function 1: 0 1; 0 1 4 5. (Lists of 2 and 4 entries are long enough.)
    ∷ row W0 fresh0 (lending 2 4 refine functions (1 ∷ []) 0 (0 ∷ 1 ∷ []) (0 ∷ 1 ∷ 4 ∷ 5 ∷ []) ∷ []) (are after_p3 ∷ is_covered ∷ [])
    -- P4 after P3, join by function 1: none; none.
    ∷ row W0 after_p3 (join functions (1 ∷ []) 0 [] [] ∷ []) (are after_p3 ∷ [])
    -- P5 after P3, join by functions 1 5: 1; 1 5.
    ∷ row W0 after_p3 (join functions (1 ∷ 5 ∷ []) 0 (1 ∷ []) (1 ∷ 5 ∷ []) ∷ []) (are (refining W0 (0 ∷ [])) ∷ [])
    -- P6 after P3, join by functions 0 1 4 5: 0 1; 0 1 4 5, and the wall is fresh.
    ∷ row W0 after_p3 (join functions (0 ∷ 1 ∷ 4 ∷ 5 ∷ []) 0 (0 ∷ 1 ∷ []) (0 ∷ 1 ∷ 4 ∷ 5 ∷ []) ∷ []) (are fresh0 ∷ [])
    -- P7 W2, split 0: 0; 0 4. Then split 3: 3; 8 (Req 12). Function 0 stays deactivated, and its child 8 is not active.
    ∷ row W2 fresh2 (split cells (0 ∷ []) 0 (0 ∷ []) (0 ∷ 4 ∷ []) ∷ split cells (3 ∷ []) 0 (3 ∷ []) (8 ∷ []) ∷ []) (are afterP7 ∷ deactivated (0 ∷ 4 ∷ 8 ∷ []) ∷ [])
    -- P8 after P7, join 1: refusal 8.
    ∷ row W2 afterP7 (join cells (1 ∷ []) 8 [] [] ∷ []) []
    -- P9 after P7, join 0: refusal 8.
    ∷ row W2 afterP7 (join cells (0 ∷ []) 8 [] [] ∷ []) []
    -- P10 after P7, join 1 3: refusal 8. (Join 3: 3; 8.)
    ∷ row W2 afterP7 (join cells (1 ∷ 3 ∷ []) 8 [] [] ∷ join cells (3 ∷ []) 0 (3 ∷ []) (8 ∷ []) ∷ []) (are (refining W2 (0 ∷ [])) ∷ [])
    -- "A marked cell that the others need stays split": W2 with 0, 1 and 4 split, join 1: none; none. Cell 4 needs it. (Lists of no entries are
    -- long enough.) Join 1 4: 1 4; 1 5.
    ∷ row W2 (refining W2 (0 ∷ 1 ∷ 4 ∷ [])) (lending 0 0 coarsen cells (1 ∷ []) 0 [] [] ∷ join cells (1 ∷ 4 ∷ []) 0 (1 ∷ 4 ∷ []) (1 ∷ 5 ∷ []) ∷ []) (are (refining W2 (0 ∷ [])) ∷ [])
    -- P11 W0, split 1 (P2), split by function 1, join by functions 0 1 4 5: cells 0 and 1 are joined, so the earlier wall is not
    -- regained. Hence the premise of the mission's third demand: the first wall does not have it.
    ∷ row W0 afterP2 [] (not_covered ∷ [])
    ∷ row W0 afterP2 (split functions (1 ∷ []) 0 (0 ∷ []) (0 ∷ 1 ∷ 4 ∷ 5 ∷ []) ∷ join functions (0 ∷ 1 ∷ 4 ∷ 5 ∷ []) 0 (0 ∷ 1 ∷ []) (0 ∷ 1 ∷ 4 ∷ 5 ∷ []) ∷ []) (are fresh0 ∷ differ afterP2 ∷ [])
    -- 1 1 8 (T = 21,845) and 16 16 4 (21,760) open; class 8 opens, 9 is refused; 17 columns are refused. (Of tables this large
    -- only what the plan decides is computed; opens-planned says that open answers just that.)
    ∷ row (plan 1 1 8 1 1 0) none [] (totals 21845 ∷ plans 0 ∷ [])
    ∷ row (plan 16 16 4 1 1 0) none [] (totals 21760 ∷ plans 0 ∷ [])
    ∷ row (plan 3 1 3 1 1 8) fresh0 [] (plans 0 ∷ opens 0 ∷ [])
    ∷ row (plan 3 1 3 1 1 9) fresh0 [] (plans 1 ∷ opens 1 ∷ [])
    ∷ row (plan 17 1 3 1 1 0) none [] (plans 1 ∷ opens 1 ∷ [])
    -- 1: a plan number is out of range. A = 0; class 1.
    ∷ row (plan 0 1 3 1 1 0) none (split cells [] 1 [] [] ∷ []) (plans 1 ∷ opens 1 ∷ checks 1 ∷ [])
    ∷ row (plan 3 1 3 1 1 1) fresh0 (split cells (0 ∷ []) 1 [] [] ∷ []) (plans 1 ∷ opens 1 ∷ checks 1 ∷ [])
    -- 2: T exceeds 21,845. 16 16 5, T = 87,296.
    ∷ row (plan 16 16 5 1 1 0) none (split cells (0 ∷ []) 2 [] [] ∷ []) (totals 87296 ∷ plans 2 ∷ opens 2 ∷ checks 2 ∷ [])
    -- 3: the cell table's length is not T, or the function table's not F. W0, cell table of 62.
    ∷ row W0 (tables (take 62 fresh0.cells) fresh0.functions) (split cells (0 ∷ []) 3 [] [] ∷ []) (opens 3 ∷ checks 3 ∷ [])
    ∷ row W0 (tables fresh0.cells (take 93 fresh0.functions)) (split cells (0 ∷ []) 3 [] [] ∷ []) (opens 3 ∷ checks 3 ∷ [])
    -- 4: the cell bytes are not a wall. W0 fresh, cell 0 set to 0.
    ∷ row W0 (tables (set fresh0.cells 0 0) fresh0.functions) (split cells (0 ∷ []) 4 [] [] ∷ []) (checks 4 ∷ [])
    -- 5: the wall is not graded for its class. W2, cells 0 and 4 split, 1 active (Req 12); W0 takes these tables.
    ∷ row W2 (refining W2 (0 ∷ 4 ∷ [])) (split cells (1 ∷ []) 5 [] [] ∷ []) (checks 5 ∷ [])
    ∷ row W0 (refining W2 (0 ∷ 4 ∷ [])) [] (checks 0 ∷ [])
    -- 6: a function byte is not the one fixed above. W0 fresh, function 0 set to 2.
    ∷ row W0 (tables fresh0.cells (set fresh0.functions 0 2)) (split cells (0 ∷ []) 6 [] [] ∷ []) (checks 6 ∷ [])
    -- 7: a mark is T (or F) or more. W0, split 63; join by function 94.
    ∷ row W0 fresh0 (split cells (63 ∷ []) 7 [] [] ∷ join functions (94 ∷ []) 7 [] [] ∷ []) []
    -- 8: a mark is not of the kind its call names. W0 fresh, split 3; split by function 8; join by function 0.
    ∷ row W0 fresh0 (split cells (3 ∷ []) 8 [] [] ∷ split functions (8 ∷ []) 8 [] [] ∷ join functions (0 ∷ []) 8 [] [] ∷ []) []
    -- 9: a split mark is of level L-1. 1 1 1 1 1 0, split 0; split by function 0.
    ∷ row (plan 1 1 1 1 1 0) (fresh (plan 1 1 1 1 1 0)) (split cells (0 ∷ []) 9 [] [] ∷ split functions (0 ∷ []) 9 [] [] ∷ []) []
    -- 10: the cell list is shorter than the cells it must name. W0 fresh, split 0, list of 0. Also where both are: "then 10, 11".
    ∷ row W0 fresh0 (lending 0 9 refine cells (0 ∷ []) 10 [] [] ∷ lending 1 3 refine functions (1 ∷ []) 10 [] [] ∷ []) []
    -- 11: the function list is shorter than the functions it must name. W0 fresh, split 0, both lists of 1.
    ∷ row W0 fresh0 (lending 1 1 refine cells (0 ∷ []) 11 [] [] ∷ []) []
    -- "marks in list order": the first mark that is refused gives the number.
    ∷ row W0 fresh0 (split cells (0 ∷ 63 ∷ 3 ∷ []) 7 [] [] ∷ split cells (0 ∷ 3 ∷ 63 ∷ []) 8 [] [] ∷ []) []
    -- "Marks may repeat; repeats mean one mark; no marks at all is accepted." The lists rise, whatever the order of the marks.
    ∷ row W0 fresh0 (split cells [] 0 [] [] ∷ split cells (2 ∷ 0 ∷ 2 ∷ []) 0 (0 ∷ 2 ∷ []) (0 ∷ 3 ∷ 4 ∷ 7 ∷ []) ∷ []) []
    -- Grading is not against edge neighbours alone: 2 2 3 1 1 2, after split 0, split 9, of level 1, row 1, column 1: cell 3, which the parent 0
    -- meets in a point, has a child beside it and is split too.
    ∷ row (plan 2 2 3 1 1 2) (refining (plan 2 2 3 1 1 2) (0 ∷ [])) (split cells (9 ∷ []) 0 (1 ∷ 2 ∷ 3 ∷ 9 ∷ []) (1 ∷ 2 ∷ 3 ∷ 4 ∷ 5 ∷ 6 ∷ 7 ∷ 8 ∷ []) ∷ []) []
    -- Nor against all cells beside the parent: W2, after split 2, split 8, of level 1, row 0, column 5, the last: 8; 14. Split 7, of column 4: cell 1
    -- is split too.
    ∷ row W2 (refining W2 (2 ∷ [])) (split cells (8 ∷ []) 0 (8 ∷ []) (14 ∷ []) ∷ []) []
    ∷ row W2 (refining W2 (2 ∷ [])) (split cells (7 ∷ []) 0 (1 ∷ 7 ∷ []) (2 ∷ 6 ∷ []) ∷ []) []
    ∷ []

pub worked : T (all_hold table)
unfolding table plan_refusal some every sum elem all listed tabulate stored first reach needs closure offset number level_of place_on place between numbers_in_range corners_in_range in_range ratio grown too_large last_level above below parent child is_set is_corner corners_to times knot_from knot beyond functionCount covers apart together supported_at supported ancestor common_at near_at near absent active refined children cell_fits is_mesh is_admissible label_of labels is_labelled refusal3 refusal6 check fresh_cells fresh_functions open_mesh reactivable eligible is_too_deep mark_refusal under_marked under_kept selected base table_of smallest changed written refused settle new_cells refusal outcome covered
worked = tt
