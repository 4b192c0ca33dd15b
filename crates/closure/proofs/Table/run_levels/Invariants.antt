-- `run_levels` meets its contract. The invariant: the levels passed are visited, each by the table made when it was entered. Assumes nothing.
use Prim.Native.Nat.{◌-◌}
use Rattle.closure.specs.Table.{Becomes}
use Rattle.closure.specs.Walk.{sweep, pass_level}
use Rattle.closure.proofs.Table.run_levels.Given as goal

abbrev pub invariant-loop-level : goal.invariant-loop-level
invariant-loop-level l = Becomes l.initial.self l.self (λ p. sweep (pass_level l.step p l.flags) 0 (l.level - 0))
