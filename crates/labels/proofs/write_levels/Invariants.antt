-- `labels::write_levels` meets its contract. The invariant: the levels so far are written. Assumes nothing.
use Rattle.facts.specs.Ranges.{Written}
use Rattle.grid.specs.Plan.{function_offset}
use Rattle.mesh.specs.Mesh.{label_of}
use Rattle.labels.proofs.write_levels.Given as goal

abbrev pub invariant-loop-level : goal.invariant-loop-level
invariant-loop-level l = Written l.initial.out l.out 0 (function_offset l.plan l.level) (label_of l.plan l.cells)
