-- `write_answer` meets its contract. Assumes nothing.
use mathlib.Core.Path.{sym, ◌∙◌}
use Prim.Native.Nat.{◌≤◌}
use native.Mathlib.Omega.{arith}
use lib.ListN.{length}
use borrow.Author.Tests.{leb-true}
use Rattle.lines.specs.Writing.{answer_room}
use Rattle.lines.proofs.Output.{answer_short, prints, prints_none}
use Rattle.lines.proofs.write_answer.Goals as goal

pub put_answer-requires : goal.put_answer-requires
put_answer-requires c = leb-true _ _ (sym c.has_room.ensures ∙ c.if-has_room.true)

pub returns-then-has_room : goal.returns-then-has_room
returns-then-has_room c = let a = c.args in
    let t = sym c.has_room.ensures ∙ c.if-has_room.true in
    let room : answer_room (length a.cells.now) (length a.functions.now) ≤ length a.out.now = leb-true _ _ t in
    prints t (omega (arith, answer_short a.number a.cells.now a.functions.now)) c.put_answer.ensures

pub returns-else-has_room : goal.returns-else-has_room
returns-else-has_room c = prints_none (sym c.has_room.ensures ∙ c.if-has_room.false)
