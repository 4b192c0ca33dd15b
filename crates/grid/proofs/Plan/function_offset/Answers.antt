-- `Plan::function_offset` meets its contract. Assumes nothing.
use Rattle.grid.proofs.Sides.{functions_beyond}
use Rattle.grid.proofs.Plan.function_offset.Goals as goal

pub offset-requires-clause-beyond : goal.offset-requires-clause-beyond
offset-requires-clause-beyond c = rw (c.beyond_across.ensures, c.beyond_up.ensures) (functions_beyond c.args.self c.requires.in_range)
