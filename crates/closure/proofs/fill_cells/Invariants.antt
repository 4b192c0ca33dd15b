-- `fill_cells` meets its contract. The invariant: the rows passed have the byte. Assumes nothing.
use mathlib.Core.Path.{◌≡◌}
use Prim.Native.Nat.{◌+◌}
use Rattle.closure.specs.Walk.{fill_block}
use Rattle.closure.proofs.Writing.{span}
use Rattle.closure.proofs.fill_cells.Given as goal

abbrev pub invariant-loop-row : goal.invariant-loop-row
invariant-loop-row l = l.part ≡ fill_block (span l.fn.r.rows.first l.row) (span l.first (l.first + l.count)) l.width l.value l.initial.part
