-- `nesting::first_level_fits` meets its contract. Level 0 is where the table begins. Assumes nothing.
use native.Mathlib.Omega.{arith}
use Rattle.grid.specs.Plan.{columns_at, rows_at}
use Rattle.grid.proofs.Levels.{offset_mono}
use Rattle.nesting.proofs.Nested.{first_fits}
use Rattle.nesting.proofs.first_level_fits.Goals as goal

pub all_fit-requires : goal.all_fit-requires
all_fit-requires c = let s = c in omega (arith, s.requires.size, c.cell_offset-end.ensures, offset_mono (columns_at s.args.plan) (rows_at s.args.plan) 1 s.args.plan.levels s.requires.range.levels≥)

pub returns : goal.returns
returns c = let s = c in
    first_fits s.args.plan s.requires.range s.args.cells.now c.cell_offset-end.ensures c.most_at.ensures c.all_fit.ensures
