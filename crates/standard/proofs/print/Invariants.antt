-- `print` ends, since each turn writes some of the text, and what it wrote is what the writer's bytes grew by.
use Rattle.std.proofs.Common.{◌≡◌, ◌-◌, ◌≤◌, length, take, drop}
use Rattle.std.specs.Io.KnownBytes.{Appends}
use Rattle.standard.proofs.print.Given as goal

abbrev pub invariant-loop-rest : goal.invariant-loop-rest
invariant-loop-rest g l = record {
  inside : length l.rest ≤ length l.text;
  behind : l.rest ≡ drop (length l.text - length l.rest) l.text;
  written : Appends (g.W.Write.contents l.initial.output.stream) (g.W.Write.contents l.output.stream) (take (length l.text - length l.rest) l.text);
  none_failed : l.output.has_failed ≡ l.initial.output.has_failed;
}

abbrev pub decreases-loop-rest : goal.decreases-loop-rest
decreases-loop-rest g l = length l.rest
