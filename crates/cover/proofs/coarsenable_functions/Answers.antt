-- `cover::coarsenable_functions` meets its contract: the room that it lends is large enough. Assumes nothing.
use Rattle.grid.proofs.Totals.{functions_bound}
use Rattle.grid.specs.Bounds.{most_functions}
use Rattle.windows.proofs.Rooms.{zeros_length}
use Rattle.cover.proofs.coarsenable_functions.Goals as goal

pub coarsenable_levels-requires : goal.coarsenable_levels-requires
coarsenable_levels-requires c = let s = c in
    let b = functions_bound s.args.plan s.requires.in_range.0 s.requires.in_range.1 in
    record { in_range = s.requires.in_range.0; functions_len = s.requires.functions_len; plan_in_bounds = (rw (zeros_length most_functions) b, rw (zeros_length most_functions) b) }
