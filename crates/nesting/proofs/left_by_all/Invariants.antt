-- `nesting::left_by_all` meets its contract. The invariant: what the children so far left. Assumes nothing.
use mathlib.Core.Path.{◌≡◌}
use mathlib.Core.Bool.{cond}
use Rattle.facts.specs.Ranges.{every_from}
use Rattle.mesh.specs.Mesh.{active}
use Rattle.nesting.proofs.left_by_all.Given as goal

abbrev pub invariant-loop-child : goal.invariant-loop-child
invariant-loop-child l = l.left ≡ cond (every_from l.at l.child-index (active l.cells)) l.byte 2
