-- `read` ends, since each turn fills some of the buffer, and what it filled is what it took.
use Rattle.std.proofs.Common.{◌≡◌, ◌-◌, ◌≤◌, length, take}
use Rattle.std.specs.Io.KnownBytes.{Consumes}
use Rattle.standard.proofs.read.Given as goal

abbrev pub invariant-loop-done : goal.invariant-loop-done
invariant-loop-done g l = record {
  same_length : length l.buffer ≡ length l.initial.buffer;
  inside : l.done ≤ length l.buffer;
  taken : Consumes (g.R.Read.remaining l.initial.input.stream) (g.R.Read.remaining l.input.stream) (take l.done l.buffer);
  none_failed : l.input.has_failed ≡ l.initial.input.has_failed;
}

abbrev pub decreases-loop-done : goal.decreases-loop-done
decreases-loop-done g l = length l.initial.buffer - l.done
