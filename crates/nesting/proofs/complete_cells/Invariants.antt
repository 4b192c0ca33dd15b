-- `nesting::complete_cells` meets its contract. The invariant: the cells so far have their bytes. Assumes nothing.
use mathlib.Core.Path.{◌≡◌}
use Prim.Native.Nat.{◌-◌}
use Rattle.facts.specs.Mapped.{filled}
use Rattle.mesh.specs.Mesh.{refined}
use Rattle.nesting.specs.Completed.{byte_in}
use Rattle.nesting.proofs.complete_cells.Given as goal

abbrev pub invariant-loop-i : goal.invariant-loop-i
invariant-loop-i l = l.cells ≡ filled l.fn.at (l.i - l.fn.at) (byte_in (refined l.initial.cells) l.fn.present) l.initial.cells
