-- `carry_on` meets its contract: level by level. Assumes nothing.
use mathlib.Core.Path.{◌≡◌, sym, ◌∙◌}
use Prim.Native.Nat.{◌-◌}
use native.Mathlib.Omega.{arith}
use Rattle.grid.specs.Plan.{function_offset}
use Rattle.carry.specs.Steps.{Underway}
use Rattle.carry.proofs.Joins.{underway_size, levels_none, levels_more, levels_all}
use Rattle.carry.proofs.carry_on.Goals as goal
use Rattle.carry.proofs.carry_on.Goals.{At-loop-level}

pub overflow_sub-last : goal.overflow_sub-last
overflow_sub-last c = c.requires.started.allowed.range.levels≥

pub loop-level-init : goal.loop-level-init
loop-level-init c = levels_none _ _ _

-- the levels below are done
below : (c : At-loop-level) → Underway c.args.plan c.args.functions.now (function_offset c.args.plan c.loop-level.level) c.loop-level.heights
below c = let s = c in record { start = s.args.heights.now; started = s.requires.started; sized = s.requires.functions_len.0; is = c.loop-level.invariant }

pub loop-level-preserved : goal.loop-level-preserved
loop-level-preserved c = let s = c in
    let l = c.loop-level in
    levels_more s.args.plan s.args.functions.now l.level s.args.heights.now l.invariant c.pass_level.ensures

pub shape_of-heights : goal.shape_of-heights
shape_of-heights c = underway_size (below (goal.at.shape_of-heights c).At-loop-level) ∙ sym c.requires.started.sized

pub returns : goal.returns
returns c = let s = c in
    let k : c.loop-level.level ≡ s.args.plan.levels - 1 = omega arith in
    (rw k at c.loop-level.invariant) ∙ levels_all s.args.plan s.args.functions.now s.args.heights.now s.requires.functions_len.1
