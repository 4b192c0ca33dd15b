-- `compare::same` meets its contract. The invariant: the bytes so far. Assumes nothing.
use mathlib.Core.Path.{◌≡◌}
use Rattle.compare.specs.Agree.{agree}
use Rattle.compare.proofs.same.Given as goal

abbrev pub invariant-loop-i : goal.invariant-loop-i
invariant-loop-i l = l.ok ≡ agree l.from l.i l.a l.b
