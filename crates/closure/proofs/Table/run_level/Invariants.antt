-- `run_level` meets its contract. The invariant: the rows passed are visited, and the number of the next. Assumes nothing.
use mathlib.Core.Path.{◌≡◌}
use Prim.Native.Nat.{◌+◌, ◌-◌, ◌*◌}
use Rattle.grid.specs.Plan.{columns_at, cell_offset}
use Rattle.closure.specs.Table.{Becomes}
use Rattle.closure.specs.Walk.{sweep, told, visit, over_row, level_cells}
use Rattle.closure.proofs.Table.run_level.Given as goal

abbrev pub invariant-loop-row : goal.invariant-loop-row
invariant-loop-row l = (l.first ≡ cell_offset l.initial.self.plan l.level + l.row * columns_at l.initial.self.plan l.level)
    × (Becomes l.initial.self l.self (λ p. sweep (λ y. over_row (visit l.step p l.flags (told p l.near)) l.level y (level_cells p l.level).columns) 0 (l.row - 0)))
