-- `Plan::parents_around` meets its contract. Assumes nothing.
use Rattle.grid.proofs.Rectangles.{around_ends}
use Rattle.grid.proofs.Plan.parents_around.Goals as goal

pub parents_of-requires : goal.parents_of-requires
parents_of-requires c = let s = c in
    rw c.around.ensures (around_ends s.args.self s.requires.in_range s.args.place s.requires.cell_inside s.requires.le_level)
