-- Document 02, Req 04: a call in the two steps of document 000's algorithm 1, which "settles the whole mesh first and relabels functions
-- afterwards". Of the algorithm's two structures, MESH is here the cell table and SPACE the function table. Names as in Calls.antt.
-- Definitions only.
use Rattle.std.specs.Prelude.{cond, List, ℕ, ltb, eqb, length}
use Rattle.grid.specs.declared.Plan.{Plan}
use Rattle.grid.specs.Plan.{cell_total, function_total}
use Rattle.mesh.specs.Mesh.{labels}
use Rattle.outcomes.specs.declared.Answer.{Answer}
use Rattle.outcomes.specs.Calls.{changed, written, Outcome}

-- ---- lines 1 to 6: the mesh is settled

-- what the first step leaves: the answer so far (no function has changed yet), the cells and their list
pub record Settled : Type 0 where
  pub answer : Answer
  pub cells : List ℕ
  pub cell_list : List ℕ

-- 10: the cell list is too short; 11: the function list is. cs' are the cells of the refined (or coarsened) mesh, `cell_room` and
-- `function_room` the lengths of the lent lists; for 11 the functions that the second step will change are counted
unfoldable pub room_refusal : Plan → List ℕ → List ℕ → ℕ → ℕ → List ℕ → ℕ
room_refusal p cs fs cell_room function_room cs' =
    cond (ltb cell_room (length (changed (cell_total p) cs cs'))) 10
    (cond (ltb function_room (length (changed (function_total p) fs (labels p cs')))) 11 0)

-- a refusal answers its number, with zero lengths; cells and list keep their bytes. Else the cells are those of the new mesh, and the list
-- has those that changed
unfoldable pub settle_cells : Plan → List ℕ → List ℕ → List ℕ → ℕ → List ℕ → Settled
settle_cells p cs fs cl function_room cs' =
    let n = room_refusal p cs fs (length cl) function_room cs' in
    let dc = changed (cell_total p) cs cs' in
    cond (eqb n 0)
    (record { answer = record { number = 0; cells = length dc; functions = 0 }; cells = cs'; cell_list = written dc cl })
    (record { answer = record { number = n; cells = 0; functions = 0 }; cells = cs; cell_list = cl })

-- ---- lines 7 to 12: the functions are relabelled

-- what the second step leaves: how many functions changed, the functions and their list
pub record Relabelled : Type 0 where
  pub count : ℕ
  pub functions : List ℕ
  pub function_list : List ℕ

-- "what the functions and their list get follows from the settled cells and the old function bytes alone": cs are the settled cells
unfoldable pub relabel : Plan → List ℕ → List ℕ → List ℕ → Relabelled
relabel p cs fs fl =
    let df = changed (function_total p) fs (labels p cs) in
    record { count = length df; functions = labels p cs; function_list = written df fl }

-- ---- the first step and then, if it refused nothing, the second

unfoldable pub in_steps : Plan → List ℕ → List ℕ → List ℕ → List ℕ → List ℕ → Outcome
in_steps p cs fs cl fl cs' =
    let s = settle_cells p cs fs cl (length fl) cs' in
    let r = relabel p s.cells fs fl in
    cond (eqb s.answer.number 0)
    (record {
      answer = record { number = 0; cells = s.answer.cells; functions = r.count };
      cells = s.cells;
      functions = r.functions;
      cell_list = s.cell_list;
      function_list = r.function_list;
    })
    (record { answer = s.answer; cells = s.cells; functions = fs; cell_list = s.cell_list; function_list = fl })

-- what an outcome has of the second step
abbrev pub relabelled_by : Outcome → Relabelled
relabelled_by o = record { count = o.answer.functions; functions = o.functions; function_list = o.function_list }
