-- `words::count_active` meets its contract. The invariant: the ones so far. Assumes nothing.
use mathlib.Core.Path.{◌≡◌}
use Prim.Native.Nat.{◌*◌, ◌≤◌}
use Rattle.facts.specs.Bounded.{sum}
use Rattle.planes.specs.Bits.{active_ones}
use Rattle.words.proofs.count_active.Given as goal

abbrev pub invariant-loop-w : goal.invariant-loop-w
invariant-loop-w l = (l.count ≤ 64 * l.w) × (l.count ≡ sum l.w (active_ones l.present l.refined))
