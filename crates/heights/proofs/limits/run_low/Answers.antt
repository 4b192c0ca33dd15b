-- `run_low` meets its contract: function by function. Assumes nothing.
use mathlib.Core.Path.{ap, ◌∙◌}
use native.Mathlib.Omega.{arith}
use lib.IntN.{pos, nat_abs}
use lib.ListN.{get_or}
use Rattle.facts.proofs.Rows.{from_zero}
use Rattle.heights.proofs.Lows.{run_turn}
use Rattle.heights.proofs.Turns.{element}
use Rattle.heights.proofs.limits.run_low.Goals as goal

pub loop-i-init : goal.loop-i-init
loop-i-init c = from_zero _ _ _ (omega arith)

pub loop-i-preserved : goal.loop-i-preserved
loop-i-preserved c =
    let h = get_or c.args.heights.now c.loop-i.i (pos 0) in
    run_turn c.args.level c.args.functions.now c.args.heights.now c.args.from c.loop-i.i c.loop-i.auto.i (c.unsigned_abs.ensures.value ∙ ap nat_abs (element h c.unsigned_abs-arg-1.given)) c.most_of-most.ensures c.loop-i.invariant
