-- `Plan::offset` meets its contract. The invariant: the sum is the offset of level k. Assumes nothing.
use mathlib.Core.Path.{◌≡◌}
use Rattle.grid.specs.Plan.{widened, columns_at, rows_at}
use Rattle.grid.specs.Numbering.{offset}
use Rattle.grid.proofs.Plan.offset.Given as goal

abbrev pub invariant-loop-k : goal.invariant-loop-k
invariant-loop-k l = l.sum ≡ offset (widened (columns_at l.self) l.across) (widened (rows_at l.self) l.up) l.k
