-- `run_row` meets its contract. The invariant: the cells passed are visited. Assumes nothing.
use Prim.Native.Nat.{◌-◌}
use Rattle.closure.specs.Table.{Becomes}
use Rattle.closure.specs.Walk.{sweep, at, told, visit}
use Rattle.closure.proofs.Table.run_row.Given as goal

abbrev pub invariant-loop-column : goal.invariant-loop-column
invariant-loop-column l = Becomes l.initial.self l.self (λ p. sweep (λ x. visit l.step p l.flags (told p l.near) (at l.level l.row x)) 0 (l.column - 0))
