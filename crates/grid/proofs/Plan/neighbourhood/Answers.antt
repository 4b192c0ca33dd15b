-- `Plan::neighbourhood` meets its contract. Assumes nothing.
use mathlib.Core.Path.{refl}
use Rattle.grid.specs.Spans.{neighbourhood}
use Rattle.grid.proofs.Spans.{ancestor_in}
use Rattle.grid.proofs.Rectangles.{ancestor_below}
use Rattle.grid.proofs.Plan.neighbourhood.Goals as goal

pub parents_around-requires-clause-cell_inside : goal.parents_around-requires-clause-cell_inside
parents_around-requires-clause-cell_inside c = let s = c in
    rw c.ancestor_of.ensures (ancestor_in s.args.self s.requires.in_range s.args.place s.requires.has_neighbourhood s.requires.cell_inside)

pub parents_around-requires-clause-le_level : goal.parents_around-requires-clause-le_level
parents_around-requires-clause-le_level c = let s = c in
    rw c.ancestor_of.ensures (ancestor_below s.args.self s.requires.in_range s.args.place s.requires.has_neighbourhood)

pub returns : goal.returns
unfolding neighbourhood
returns c = rw (c.parents_around.ensures, c.ancestor_of.ensures) refl
