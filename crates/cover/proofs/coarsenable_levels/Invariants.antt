-- `cover::coarsenable_levels` meets its contract. The invariant: the levels so far are written. Assumes nothing.
use mathlib.Core.Path.{◌≡◌}
use Rattle.facts.specs.Mapped.{filled}
use Rattle.grid.specs.Plan.{function_offset}
use Rattle.cover.specs.Cover.{coarsenable_byte}
use Rattle.cover.proofs.coarsenable_levels.Given as goal

abbrev pub invariant-loop-level : goal.invariant-loop-level
invariant-loop-level l = l.out ≡ filled 0 (function_offset l.plan l.level) (coarsenable_byte l.plan l.functions l.reactivables) l.initial.out
