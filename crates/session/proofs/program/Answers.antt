-- `program` meets its contract: the bytes that were read are all that the session is of. Assumes nothing.
use Rattle.std.proofs.Common.{arith}
use Rattle.std.specs.Io.KnownBytes.{Appends}
use Rattle.standard.specs.Bytes.{AppendsFront}
use Rattle.session.proofs.Turns.{on_err}
use Rattle.session.proofs.Whole.{first_taken}
use Rattle.session.proofs.program.Goals as goal

pub returns-in_err-run-clause-left : goal.returns-in_err-run-clause-left
returns-in_err-run-clause-left g c =
    on_err _ (first_taken _ _ _ _ (AppendsFront _ _) (omega (arith, c.in_ok-count.ensures.count.0, c.read.auto.buffer)) c.in_ok-count.ensures.count.1 c.in_ok-count.ensures.bytes c.in_ok-count.ensures.all c.in_err-run.ensures.left)

pub returns-clause-written : goal.returns-clause-written
returns-clause-written g c =
    first_taken _ _ _ _ (Appends _ _) (omega (arith, c.in_ok-count.ensures.count.0, c.read.auto.buffer)) c.in_ok-count.ensures.count.1 c.in_ok-count.ensures.bytes c.in_ok-count.ensures.all c.in_ok-run.ensures.written
