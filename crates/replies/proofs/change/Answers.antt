-- `change` meets its contract: the call has the parts of the tables and lists that are the wall's. Assumes nothing.
use mathlib.Core.Path.{refl, ◌∙◌}
use native.Mathlib.Omega.{arith}
use lib.Seq.{length-take-le}
use Rattle.replies.proofs.Laws.{called, called_none}
use Rattle.replies.proofs.change.Goals as goal

pub returns-in_default : goal.returns-in_default
returns-in_default c = rw c.in_default.is (called_none _ _ _ _ _ _ _ refl c.say_question-count.ensures)

pub returns : goal.returns
returns c =
    let h = c.in-Some.wall in
    let a = c.answer-count in
    rw c.in-Some.is
    (called _ _ _ h _ c.args.cells.now c.args.functions.now c.args.cell_list.now c.args.function_list.now _ _ _ refl
    (length-take-le h.cells _ (omega (arith, h.cells_bound))) (length-take-le h.functions _ (omega (arith, h.functions_bound)))
    (a.auto.cells ∙ length-take-le h.cells _ (omega (arith, h.cells_bound))) (a.auto.functions ∙ length-take-le h.functions _ (omega (arith, h.functions_bound)))
    a.ensures)
