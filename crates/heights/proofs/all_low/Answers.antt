-- `all_low` meets its contract: level by level. Assumes nothing.
use mathlib.Core.Path.{◌≡◌, sym, ◌∙◌}
use native.Mathlib.Omega.{arith}
use Rattle.grid.specs.Plan.{function_columns_at, function_rows_at}
use Rattle.grid.proofs.Levels.{levels_none, levels_join}
use Rattle.heights.proofs.Lows.{all_low_lem}
use Rattle.heights.proofs.all_low.Goals as goal

pub loop-level-init : goal.loop-level-init
loop-level-init c = sym (levels_none (function_columns_at _) (function_rows_at _) _)

pub loop-level-preserved : goal.loop-level-preserved
loop-level-preserved c = let s = c in
    let l = c.loop-level in
    levels_join (function_columns_at s.args.plan) (function_rows_at s.args.plan) _ l.level l.invariant c.level_low-ok.ensures

pub returns : goal.returns
returns c = let s = c in
    let k : c.loop-level.level ≡ s.args.plan.levels = omega arith in
    rw k at c.loop-level.invariant ∙ all_low_lem s.args.plan _ _
