-- `Plan::ancestor_of` meets its contract. Assumes nothing.
use Rattle.grid.specs.Spans.{ancestor_of}
use Rattle.grid.proofs.Plan.ancestor_of.Goals as goal

pub returns : goal.returns
unfolding ancestor_of
returns c = rw (c.coarser.ensures, c.coarser-2.ensures)
