-- What the code wants of the number of a place: it fits. Assumes nothing.
use mathlib.Core.Path.{◌≡◌, ap}
use Prim.Native.Nat.{ℕ, ◌+◌, ◌*◌, ◌≤◌, ◌<◌}
use native.Mathlib.Omega.{arith}
use Rattle.grid.specs.declared.Plan.{Plan}
use Rattle.grid.specs.declared.Place.{Place}
use Rattle.grid.specs.Numbering.{number}
use Rattle.grid.specs.Plan.{columns_at, cell_offset, cell_total, cell_number, CellInside}
use Rattle.grid.specs.Bounds.{most_cells}
use Rattle.grid.proofs.Laws.{cell_number_lt}
use Rattle.closure.specs.Ready.{TableSize}

-- at the offset o and the width w of the place's level, in a table of n cells
pub record Sited (p : Plan) (x : Place) (o w : ℕ) : Type 0 where
  pub row_fits : x.row * w ≤ most_cells
  pub at_fits : o + (x.row * w + x.column) < cell_total p
  pub same : o + (x.row * w + x.column) ≡ cell_number p x

pub sited : {p : Plan} {x : Place} {n o w : ℕ} → TableSize p n → CellInside p x → o ≡ cell_offset p x.level → w ≡ columns_at p x.level → Sited p x o w
unfolding number
sited {p} {x} {n} {o} {w} t q eo ew =
    let b : cell_number p x < cell_total p = cell_number_lt p t.range x q in
    let e : x.row * w ≡ x.row * columns_at p x.level = ap (λ (y : ℕ). x.row * y) ew in
    let s : cell_total p ≤ most_cells = t.small in
    record { row_fits = omega arith; at_fits = omega arith; same = omega arith }
