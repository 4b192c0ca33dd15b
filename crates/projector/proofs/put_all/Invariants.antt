-- `put_all` meets its contract: cell by cell. Assumes nothing.
use Rattle.facts.specs.Writing.{Writes}
use Rattle.projector.proofs.Words.{words_below}
use Rattle.projector.proofs.put_all.Given as goal

abbrev pub invariant-loop-c : goal.invariant-loop-c
invariant-loop-c l = Writes l.initial.out 0 (words_below l.plan l.functions l.heights l.cells l.c) l.at l.out
