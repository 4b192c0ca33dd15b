-- `layout::cell_at` meets its contract. Assumes nothing.
use mathlib.Core.Path.{refl, sym, ◌∙◌}
use Rattle.layout.specs.Layout.{cell_at}
use Rattle.layout.proofs.Found.{place_has}
use Rattle.layout.proofs.cell_at.Goals as goal

pub cell_number-requires : goal.cell_number-requires
cell_number-requires c = let (r, i) = place_has c.args.plan c.args.place (rw (sym c.has_place.ensures ∙ c.if-has_place.true) tt) in record { in_range = r; cell_inside = i }

pub returns-then-has_place : goal.returns-then-has_place
unfolding cell_at
returns-then-has_place c = rw (c.into.ensures, c.cell_number.ensures, sym c.has_place.ensures ∙ c.if-has_place.true) refl

pub returns-else-has_place : goal.returns-else-has_place
unfolding cell_at
returns-else-has_place c = rw (sym c.has_place.ensures ∙ c.if-has_place.false) (λ j. record { found = c.default.ensures.0 j; cell = c.default.ensures.1 j })
