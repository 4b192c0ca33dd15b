-- `read_mesh` meets its contract. Assumes nothing.
use mathlib.Core.Path.{ap}
use Rattle.files.specs.File.{ReadOutcome}
use Rattle.drafts.specs.Drafts.{ended_by, draft_after_read}
use Rattle.drafting.proofs.read_mesh.Goals as goal

pub returns-clause-outcome : goal.returns-clause-outcome
returns-clause-outcome c = rw c.new.ensures c.read.ensures

pub returns-clause-draft : goal.returns-clause-draft
unfolding draft_after_read
returns-clause-draft c = rw c.new.ensures (ap (λ (o : ReadOutcome). ended_by o.answer.number c.args.draft) c.read.ensures)
