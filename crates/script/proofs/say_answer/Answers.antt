-- `say_answer` meets its contract: the longest answer of a session has room. Assumes nothing.
use mathlib.Core.Path.{sym}
use native.Mathlib.Omega.{arith}
use lib.ListN.{length}
use Rattle.lines.specs.Writing.{answer_room}
use Rattle.script.proofs.Replies.{said, answer_some}
use Rattle.script.proofs.say_answer.Goals as goal

pub returns : goal.returns
returns c = rw (sym c.number_of.ensures) (said (answer_room (length c.args.cells.now) (length c.args.functions.now)) _ c.write_answer.ensures (omega (arith, c.requires)) (answer_some _ _ _))
