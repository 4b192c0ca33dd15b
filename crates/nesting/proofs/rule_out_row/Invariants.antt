-- `nesting::rule_out_row` meets its contract. The invariant: the children so far have ruled out their parents, and where the next begin.
-- Assumes nothing.
use mathlib.Core.Path.{◌≡◌}
use Prim.Native.Nat.{◌*◌}
use Rattle.facts.specs.Mapped.{mapped}
use Rattle.grid.specs.Plan.{ratio}
use Rattle.nesting.specs.Reactivable.{ruled_out}
use Rattle.nesting.proofs.rule_out_row.Given as goal

abbrev pub invariant-loop-column : goal.invariant-loop-column
invariant-loop-column l = l.out ≡ mapped (ruled_out l.fn.plan l.cells l.row.at (l.column * ratio l.fn.plan)) l.initial.out
