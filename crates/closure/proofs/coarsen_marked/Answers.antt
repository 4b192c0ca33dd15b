-- `coarsen_marked` meets its contract. Assumes nothing.
use native.Mathlib.Omega.{arith}
use Rattle.closure.proofs.Becoming.{both}
use Rattle.closure.proofs.Marked.{coarsened_smallest}
use Rattle.closure.proofs.coarsen_marked.Goals as goal

pub returns : goal.returns
returns c = let a = c.args in
    grind (arith, (both c.run.ensures c.run-2.ensures).cells, coarsened_smallest a.plan a.cells.now a.flags.now c.requires)
