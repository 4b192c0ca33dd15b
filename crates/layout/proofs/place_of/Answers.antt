-- `layout::place_of` meets its contract. Assumes nothing.
use mathlib.Core.Path.{refl}
use native.Mathlib.Omega.{arith}
use Rattle.layout.proofs.Found.{cells_below, place_found, place_none}
use Rattle.layout.proofs.place_of.Goals as goal

pub cell_place-requires : goal.cell_place-requires
cell_place-requires c = let (r, l) = cells_below c.args.plan c.args.cell (omega arith) in record { in_range = r; cell_bound = l }

pub returns-then-cell-cells_len : goal.returns-then-cell-cells_len
returns-then-cell-cells_len c = rw (c.into.ensures, c.cell_place.ensures, place_found c.args.plan c.args.cell (omega arith)) refl

pub returns-else-cell-cells_len : goal.returns-else-cell-cells_len
returns-else-cell-cells_len c = rw (place_none c.args.plan c.args.cell (omega arith)) (λ j. record {
  found = c.default.ensures.0 j;
  level = c.default.ensures.1.0 j;
  row = c.default.ensures.1.1.0 j;
  column = c.default.ensures.1.1.1 j;
})
