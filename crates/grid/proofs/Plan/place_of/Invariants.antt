-- `Plan::place_of` meets its contract. The invariant: what is left of the number is the number less the level's offset. Assumes nothing.
use mathlib.Core.Path.{◌≡◌}
use Prim.Native.Nat.{◌+◌}
use Rattle.grid.specs.Plan.{widened, columns_at, rows_at}
use Rattle.grid.specs.Numbering.{offset}
use Rattle.grid.proofs.Plan.place_of.Given as goal

abbrev pub invariant-loop-level : goal.invariant-loop-level
invariant-loop-level l = l.rest + offset (widened (columns_at l.self) l.across) (widened (rows_at l.self) l.up) l.level ≡ l.number
