-- `refine_marked` meets its contract. Assumes nothing.
use native.Mathlib.Omega.{arith}
use Rattle.closure.proofs.Marked.{refined_smallest}
use Rattle.closure.proofs.refine_marked.Goals as goal

pub returns : goal.returns
returns c = let a = c.args in
    grind (arith, c.run.ensures.cells, refined_smallest a.plan a.cells.now a.flags.now c.requires)
