-- `is_admissible` meets its contract. Assumes nothing.
use mathlib.Core.Path.{sym}
use Rattle.admissible.proofs.Cells.{class_zero}
use Rattle.admissible.proofs.is_admissible.Goals as goal

pub returns-then-plan-eq0 : goal.returns-then-plan-eq0
returns-then-plan-eq0 c = let s = c in sym (class_zero s.args.plan s.requires.0.sized.range c.if-plan-eq0.true _)
