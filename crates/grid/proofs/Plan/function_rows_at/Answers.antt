-- `Plan::function_rows_at` meets its contract. Assumes nothing.
use native.Mathlib.Omega.{arith}
use Rattle.grid.proofs.Sides.{functions_beyond}
use Rattle.grid.proofs.Plan.function_rows_at.Goals as goal

pub wide-requires-clause-more_bound : goal.wide-requires-clause-more_bound
wide-requires-clause-more_bound c = omega (arith, c.beyond_up.ensures, (functions_beyond c.args.self c.requires.in_range).up≤)
