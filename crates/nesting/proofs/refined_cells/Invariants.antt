-- `nesting::refined_cells` meets its contract. The invariant: the bytes so far are written. Assumes nothing.
use mathlib.Core.Path.{◌≡◌}
use Prim.Native.Nat.{◌-◌}
use Rattle.facts.specs.Mapped.{filled}
use Rattle.nesting.specs.Reactivable.{refined_byte}
use Rattle.nesting.proofs.refined_cells.Given as goal

abbrev pub invariant-loop-i : goal.invariant-loop-i
invariant-loop-i l = l.out ≡ filled l.from (l.i - l.from) (refined_byte l.cells l.kept) l.initial.out
