-- `list_levels` meets its contract: level by level. Assumes nothing.
use Rattle.rounds.specs.Steps.{ListedLevels}
use Rattle.rounds.proofs.list_levels.Given as goal

abbrev pub invariant-loop-k : goal.invariant-loop-k
invariant-loop-k l = ListedLevels l.plan l.cells l.wanted l.initial.marks l.initial.lengths l.k l.n l.marks l.lengths
