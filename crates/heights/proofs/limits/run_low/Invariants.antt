-- `run_low` meets its contract: function by function. Assumes nothing.
use mathlib.Core.Path.{◌≡◌}
use Prim.Native.Nat.{◌-◌}
use Rattle.facts.specs.Ranges.{every_from}
use Rattle.heights.specs.Heights.{low_on}
use Rattle.heights.proofs.limits.run_low.Given as goal

abbrev pub invariant-loop-i : goal.invariant-loop-i
invariant-loop-i l = l.ok ≡ every_from l.from (l.i - l.from) (low_on l.level l.functions l.heights)
