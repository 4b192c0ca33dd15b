-- `pass_level` meets its contract: row by row. Assumes nothing.
use mathlib.Core.Path.{◌≡◌}
use Prim.Native.Nat.{◌*◌}
use Rattle.grid.specs.Plan.{function_columns_at, function_offset}
use Rattle.carry.specs.Steps.{carried_from}
use Rattle.carry.proofs.pass_level.Given as goal

abbrev pub invariant-loop-row : goal.invariant-loop-row
invariant-loop-row l = l.heights ≡ carried_from l.plan l.functions (function_offset l.plan l.level) (l.row * function_columns_at l.plan l.level) l.initial.heights
