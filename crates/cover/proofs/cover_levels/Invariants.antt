-- `cover::cover_levels` meets its contract. The invariant: the levels so far are written. Assumes nothing.
use mathlib.Core.Path.{◌≡◌}
use Rattle.facts.specs.Mapped.{filled}
use Rattle.grid.specs.Plan.{cell_offset}
use Rattle.windows.specs.Level.{least_value}
use Rattle.cover.proofs.cover_levels.Given as goal

abbrev pub invariant-loop-level : goal.invariant-loop-level
invariant-loop-level l = l.out ≡ filled 0 (cell_offset l.plan l.level) (least_value l.plan l.values) l.initial.out
