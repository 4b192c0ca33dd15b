-- `Plan::function_number` meets its contract. Assumes nothing.
use Rattle.grid.proofs.Sides.{functions_beyond}
use Rattle.grid.proofs.Plan.function_number.Goals as goal

pub number_of-requires-clause-beyond : goal.number_of-requires-clause-beyond
number_of-requires-clause-beyond c = rw (c.beyond_across.ensures, c.beyond_up.ensures) (functions_beyond c.args.self c.requires.in_range)
