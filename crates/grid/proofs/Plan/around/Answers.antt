-- `Plan::around` meets its contract. Assumes nothing.
use mathlib.Core.Path.{refl}
use Rattle.grid.proofs.Sides.{across_in, up_in}
use Rattle.grid.specs.Spans.{around}
use Rattle.grid.proofs.Plan.around.Goals as goal

pub around-requires-clause-side_in : goal.around-requires-clause-side_in
around-requires-clause-side_in c = rw c.up_at.ensures (up_in c.args.self c.requires.in_range _ c.requires.cell_inside.level<)

pub around-requires-2-clause-side_in : goal.around-requires-2-clause-side_in
around-requires-2-clause-side_in c = rw c.across_at.ensures (across_in c.args.self c.requires.in_range _ c.requires.cell_inside.level<)

pub returns : goal.returns
unfolding around
returns c = rw (c.around.ensures, c.up_at.ensures, c.around-2.ensures, c.across_at.ensures) refl
