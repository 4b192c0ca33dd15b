-- `Plan::support_of` meets its contract. Assumes nothing.
use mathlib.Core.Path.{refl}
use Rattle.grid.proofs.Sides.{across_in, up_in, across_functions, up_functions}
use Rattle.grid.specs.Spans.{support_of}
use Rattle.grid.proofs.Plan.support_of.Goals as goal

pub support-requires-clause-side_in : goal.support-requires-clause-side_in
support-requires-clause-side_in c = rw c.up_at.ensures (up_in c.args.self c.requires.in_range _ c.requires.function_inside.level<)

pub support-requires-clause-i_bound : goal.support-requires-clause-i_bound
support-requires-clause-i_bound c = rw (c.up_at.ensures, up_functions c.args.self c.args.place.level) c.requires.function_inside.row<

pub support-requires-2-clause-side_in : goal.support-requires-2-clause-side_in
support-requires-2-clause-side_in c = rw c.across_at.ensures (across_in c.args.self c.requires.in_range _ c.requires.function_inside.level<)

pub support-requires-2-clause-i_bound : goal.support-requires-2-clause-i_bound
support-requires-2-clause-i_bound c = rw (c.across_at.ensures, across_functions c.args.self c.args.place.level) c.requires.function_inside.column<

pub returns : goal.returns
unfolding support_of
returns c = rw (c.support.ensures, c.up_at.ensures, c.support-2.ensures, c.across_at.ensures) refl
