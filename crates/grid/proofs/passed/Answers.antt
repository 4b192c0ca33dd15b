-- `passed` meets its contract. Assumes nothing.
use mathlib.Core.Path.{ap, ◌∙◌}
use Prim.Native.Nat.{max}
use Rattle.grid.proofs.Turns.{passed_line, passed_not}
use Rattle.grid.proofs.passed.Goals as goal

pub returns-then-corner-z : goal.returns-then-corner-z
returns-then-corner-z c = c.max.ensures ∙ (ap (max c.args.z) c.saturating_sub.ensures ∙ passed_line _ _ _ _ c.if-corner-z.true)

pub returns-else-corner-z : goal.returns-else-corner-z
returns-else-corner-z c = passed_not _ _ _ _ c.if-corner-z.false
