-- `labels::write_levels` meets its contract. The invariant: the levels so far are written. Assumes nothing.
use mathlib.Core.Path.{◌≡◌, ◌∙◌}
use native.Mathlib.Omega.{arith}
use Rattle.facts.proofs.Numbers.{tabulate_is}
use Rattle.facts.proofs.Ranges.{written_none}
use Rattle.grid.specs.Plan.{function_columns_at, function_rows_at}
use Rattle.mesh.specs.Mesh.{labels}
use Rattle.grid.proofs.Levels.{offset_zero}
use Rattle.labels.proofs.write_levels.Goals as goal

pub loop-level-init : goal.loop-level-init
loop-level-init c = rw (offset_zero (function_columns_at c.args.plan) (function_rows_at c.args.plan)) (written_none _ _ _)

pub returns : goal.returns
unfolding labels
returns c = let q : c.loop-level.level ≡ c.args.plan.levels = omega arith in
    let w = rw q at c.loop-level.invariant in
    tabulate_is _ _ _ (w.size ∙ c.requires.out_len.0) (λ i l. w.made i (omega arith) l)
