-- `cover::pick` meets its contract. The invariant: the entries so far. Assumes nothing.
use native.Mathlib.Omega.{arith}
use Rattle.facts.proofs.Mapped.{filled_none, fill_next}
use Rattle.cover.specs.Level.{picked}
use Rattle.cover.proofs.pick.Goals as goal

pub loop-i-init : goal.loop-i-init
loop-i-init c = filled_none 0 _ _

pub loop-i-preserved : goal.loop-i-preserved
unfolding picked
loop-i-preserved c = fill_next _ _ _ _ c.loop-i.invariant _ (omega arith) c.pick_one.ensures
