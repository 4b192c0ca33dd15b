-- `height_at` meets its contract: level by level. Assumes nothing.
use mathlib.Core.Path.{◌≡◌}
use Rattle.exact.specs.Dyadic.{dyadic}
use Rattle.exact.specs.Sums.{sumℤ}
use Rattle.grid.specs.Plan.{function_offset}
use Rattle.heights.specs.Heights.{places, product_at}
use Rattle.heights.proofs.height_at.Given as goal

abbrev pub invariant-loop-level : goal.invariant-loop-level
invariant-loop-level l = l.sum ≡ dyadic (places l.plan.levels) (sumℤ (function_offset l.plan l.level) (product_at l.plan l.functions l.heights l.across l.up))
