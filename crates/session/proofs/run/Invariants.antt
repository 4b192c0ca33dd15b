-- What is left to be printed is what the lines from the place on print, with the state in hand, and the output has grown by what was printed.
use Rattle.std.proofs.Common.{◌≡◌, ◌-◌, ◌≤◌, length}
use Rattle.std.specs.Io.KnownBytes.{Appends}
use Rattle.script.specs.Steps.{held}
use Rattle.standard.specs.Answers.{printed}
use Rattle.session.specs.Program.{Left}
use Rattle.session.proofs.run.Given as goal

abbrev pub invariant-loop-at : goal.invariant-loop-at
invariant-loop-at g l = record {
  left : Left l.input l.handed.answers l.at (held l.hand l.cells l.functions);
  few : l.handed.answers ≤ l.at;
  written : Appends (g.W.Write.contents l.initial.output.stream) (g.W.Write.contents l.output.stream) (printed l.input l.handed.answers);
  none_failed : l.output.has_failed ≡ l.initial.output.has_failed;
}

abbrev pub decreases-loop-at : goal.decreases-loop-at
decreases-loop-at g l = length l.input - l.at
