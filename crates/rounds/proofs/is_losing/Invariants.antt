-- `is_losing` meets its contract. The invariant: whether one of the cells passed is lost. Assumes nothing.
use mathlib.Core.Path.{◌≡◌}
use Rattle.facts.specs.Bounded.{some}
use Rattle.rounds.specs.Steps.{lost_at}
use Rattle.rounds.proofs.is_losing.Given as goal

abbrev pub invariant-loop-i : goal.invariant-loop-i
invariant-loop-i l = l.lost ≡ some l.i (lost_at l.cells l.wanted)
