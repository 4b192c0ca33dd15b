-- `nesting::reactivable_cells` meets its contract. The invariant: the levels so far have ruled out their parents. Assumes nothing.
use mathlib.Core.Path.{◌≡◌}
use Prim.Native.Nat.{◌+◌, ◌-◌}
use Rattle.facts.specs.Numbers.{tabulate}
use Rattle.facts.specs.Mapped.{mapped}
use Rattle.grid.specs.Plan.{cell_offset, cell_total}
use Rattle.nesting.specs.Reactivable.{inner_byte, ruled_out}
use Rattle.nesting.proofs.reactivable_cells.Given as goal

abbrev pub invariant-loop-level : goal.invariant-loop-level
invariant-loop-level l = l.out ≡ mapped (ruled_out l.plan l.cells (cell_offset l.plan 1) (cell_offset l.plan (l.level + 1) - cell_offset l.plan 1)) (tabulate (cell_total l.plan) (inner_byte l.cells (cell_offset l.plan (l.plan.levels - 1))))
