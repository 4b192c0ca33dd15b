-- `carry_on` meets its contract: level by level. Assumes nothing.
use mathlib.Core.Path.{◌≡◌}
use Rattle.grid.specs.Plan.{function_offset}
use Rattle.carry.specs.Carry.{carried}
use Rattle.carry.proofs.carry_on.Given as goal

abbrev pub invariant-loop-level : goal.invariant-loop-level
invariant-loop-level l = l.heights ≡ carried l.plan l.functions (function_offset l.plan l.level) l.initial.heights
