-- `step` meets its contract: a line is read, and what it asks is done, at the start of what was lent. Assumes nothing.
use mathlib.Core.Path.{ap, ◌∙◌}
use native.Mathlib.Omega.{arith}
use Rattle.script.specs.Session.{State, step_of}
use Rattle.script.proofs.Replies.{replied_as}
use Rattle.replies.proofs.Laws.{read_step}
use Rattle.replies.proofs.Fronts.{unwrapped, held_fronts, replied_longer}
use Rattle.replies.proofs.step.Goals as goal

pub returns : goal.returns
returns c =
    let read = c.read_line-read in
    let cells = (unwrapped _ _ _ _ c.first_chunk_mut.ensures.cases c.unwrap.ensures).same in
    let functions = (unwrapped _ _ _ _ c.first_chunk_mut-2.ensures.cases c.unwrap-2.ensures).same in
    let asked = read_step c.args.line.now _ read.result _ (omega arith) read.ensures _ in
    let same = ap (λ (t : State). step_of t c.args.line.now) (held_fronts c.args.hand _ _ _ _ cells functions) in
    replied_longer c.obey.new.cells c.obey.new.functions _ _ c.obey.ensures.lens.0 c.obey.ensures.lens.1 _ _ _ _
    (replied_as c.obey.ensures.replied (asked ∙ same))
