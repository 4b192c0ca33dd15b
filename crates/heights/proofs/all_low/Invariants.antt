-- `all_low` meets its contract: level by level. Assumes nothing.
use mathlib.Core.Path.{◌≡◌}
use Rattle.facts.specs.Ranges.{every_from}
use Rattle.grid.specs.Plan.{function_offset}
use Rattle.heights.specs.Heights.{low_at}
use Rattle.heights.proofs.all_low.Given as goal

abbrev pub invariant-loop-level : goal.invariant-loop-level
invariant-loop-level l = l.ok ≡ every_from 0 (function_offset l.plan l.level) (low_at l.plan l.functions l.heights)
