-- `words::count_active` meets its contract. The invariant: the ones so far. Assumes nothing.
use mathlib.Core.Path.{refl}
use native.Mathlib.Omega.{arith}
use Rattle.facts.specs.Bounded.{sum}
use Rattle.facts.proofs.Ranges.{sum_more}
use Rattle.planes.specs.Bits.{active_ones}
use Rattle.words.proofs.Loops.{active_few}
use Rattle.words.proofs.count_active.Goals as goal

pub loop-w-init : goal.loop-w-init
unfolding sum
loop-w-init c = (omega arith, refl)

pub loop-w-preserved : goal.loop-w-preserved
unfolding active_ones
loop-w-preserved c = let l = c.loop-w in
    let few = active_few c.args.present.now c.args.refined.now l.w (c.type_inv.present l.w).fits in
    (omega arith, omega (arith, sum_more l.w (active_ones c.args.present.now c.args.refined.now)))
