-- `height_at` meets its contract: level by level. Assumes nothing.
use mathlib.Core.Path.{◌≡◌, ap, ◌∙◌}
use native.Mathlib.Omega.{arith}
use Rattle.exact.specs.Dyadic.{dyadic}
use Rattle.heights.specs.Heights.{places}
use Rattle.heights.proofs.Turns.{start_level, turn_level, up_all}
use Rattle.heights.proofs.height_at.Goals as goal

pub loop-level-init : goal.loop-level-init
loop-level-init c = start_level c.requires

pub loop-level-preserved : goal.loop-level-preserved
loop-level-preserved c = let s = c in
    let l = c.loop-level in
    turn_level s.requires (omega arith) l.invariant c.level_height-sum.ensures

pub returns : goal.returns
returns c = let s = c in
    let k : c.loop-level.level ≡ s.args.plan.levels = omega arith in
    rw k at c.loop-level.invariant ∙ ap (dyadic (places s.args.plan.levels)) (up_all s.requires)
