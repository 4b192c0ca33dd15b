-- `nesting::rule_out_level` meets its contract. The invariant: the rows so far have ruled out their parents, and where the next begins.
-- Assumes nothing.
use mathlib.Core.Path.{◌≡◌}
use Prim.Native.Nat.{◌+◌, ◌*◌}
use Rattle.facts.specs.Mapped.{mapped}
use Rattle.grid.specs.Plan.{columns_at, cell_offset}
use Rattle.nesting.specs.Reactivable.{ruled_out}
use Rattle.nesting.proofs.rule_out_level.Given as goal

abbrev pub invariant-loop-row : goal.invariant-loop-row
invariant-loop-row l = l.out ≡ mapped (ruled_out l.plan l.cells (cell_offset l.plan (l.level + 1)) (l.row * columns_at l.plan (l.level + 1))) l.initial.out
