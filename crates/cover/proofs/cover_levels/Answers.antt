-- `cover::cover_levels` meets its contract. The invariant: the levels so far are written. Assumes nothing.
use mathlib.Core.Path.{◌≡◌, ◌∙◌}
use native.Mathlib.Omega.{arith}
use Rattle.facts.proofs.Mapped.{filled_all}
use Rattle.cover.proofs.Passes.{levels_none, levels_more}
use Rattle.cover.proofs.cover_levels.Goals as goal

pub loop-level-init : goal.loop-level-init
loop-level-init c = levels_none _ _ _ _

pub loop-level-preserved : goal.loop-level-preserved
loop-level-preserved c = levels_more _ _ _ _ _ _ _ c.loop-level.invariant c.cover_on.ensures

pub returns : goal.returns
returns c = let q : c.loop-level.level ≡ c.args.plan.levels = omega arith in
    (rw q at c.loop-level.invariant) ∙ filled_all _ _ _ c.requires.values_len.1
