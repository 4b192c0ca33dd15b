-- `is_losing` meets its contract. Assumes nothing.
use mathlib.Core.Path.{sym}
use Rattle.rounds.proofs.Turns.{some_none, some_more}
use Rattle.rounds.proofs.is_losing.Goals as goal

pub loop-i-init : goal.loop-i-init
loop-i-init c = sym (some_none _)

pub loop-i-preserved : goal.loop-i-preserved
loop-i-preserved c = rw c.loop-i.invariant (sym (some_more _ _))
