-- `refuse` meets its contract. Assumes nothing.
use mathlib.Core.Path.{◌≡◌, refl}
use Rattle.std.proofs.Common.{rules}
use Rattle.files.specs.File.{no_plan}
use Rattle.files.proofs.Reading.{answered_none, answered_some}
use Rattle.files.proofs.refuse.Goals as goal

pub returns-in-PlanOutOfRange : goal.returns-in-PlanOutOfRange
returns-in-PlanOutOfRange c = let z : c.default-plan.result ≡ no_plan = search rules in
    rw (z, answered_none c.args.refusal c.args.plan c.in-PlanOutOfRange.is) refl

pub returns-in_default : goal.returns-in_default
returns-in_default c = rw (answered_some c.args.refusal c.args.plan c.in_default.not-PlanOutOfRange c.in_default.not-TooManyCells) refl
