-- `Plan::function_place` meets its contract. Assumes nothing.
use Rattle.grid.proofs.Sides.{functions_beyond}
use Rattle.grid.proofs.Plan.function_place.Goals as goal

pub place_of-requires-clause-beyond : goal.place_of-requires-clause-beyond
place_of-requires-clause-beyond c = rw (c.beyond_across.ensures, c.beyond_up.ensures) (functions_beyond c.args.self c.requires.in_range)
