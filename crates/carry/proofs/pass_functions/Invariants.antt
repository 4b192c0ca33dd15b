-- `pass_functions` meets its contract: function by function. Assumes nothing.
use mathlib.Core.Path.{◌≡◌}
use Prim.Native.Nat.{◌+◌, ◌*◌}
use Rattle.grid.specs.Plan.{function_columns_at, function_offset}
use Rattle.carry.specs.Steps.{carried_from}
use Rattle.carry.proofs.pass_functions.Given as goal

abbrev pub invariant-loop-column : goal.invariant-loop-column
invariant-loop-column l = l.heights ≡ carried_from l.plan l.functions (function_offset l.plan l.level + l.row * function_columns_at l.plan l.level) l.column l.initial.heights
