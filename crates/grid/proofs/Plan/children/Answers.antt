-- `Plan::children` meets its contract. Assumes nothing.
use mathlib.Core.Path.{◌≡◌}
use Prim.Native.Nat.{ℕ, ◌+◌, ◌*◌, ◌≤◌}
use native.Mathlib.Omega.{arith}
use Rattle.grid.specs.declared.Plan.{Plan}
use Rattle.grid.specs.declared.Place.{Place}
use Rattle.grid.specs.Plan.{ratio, CellInside}
use Rattle.grid.specs.Range.{InRange}
use Rattle.grid.specs.Spans.{finer_span, children_of}
use Rattle.grid.proofs.Small.{finer_small}
use Rattle.grid.proofs.Plan.children.Goals as goal

small : (p : Plan) (x : Place) (s : ℕ) → InRange p → CellInside p x → s ≡ ratio p → (x.row * s + s ≤ 4096) × (x.column * s + s ≤ 4096)
small p x s r i e = (
  finer_small p r.rows≤ (omega (arith, i.level<, r.levels≤)) i.row< e,
  finer_small p r.columns≤ (omega (arith, i.level<, r.levels≤)) i.column< e,
)

pub overflow_mul-row : goal.overflow_mul-row
overflow_mul-row c = omega (arith, small _ _ _ c.requires.in_range c.requires.cell_inside c.ratio-ratio.ensures)

pub overflow_mul-column : goal.overflow_mul-column
overflow_mul-column c = omega (arith, small _ _ _ c.requires.in_range c.requires.cell_inside c.ratio-ratio.ensures)

pub overflow_add-result-2 : goal.overflow_add-result-2
overflow_add-result-2 c = omega (arith, small _ _ _ c.requires.in_range c.requires.cell_inside c.ratio-ratio.ensures)

pub overflow_add-result-3 : goal.overflow_add-result-3
overflow_add-result-3 c = omega (arith, small _ _ _ c.requires.in_range c.requires.cell_inside c.ratio-ratio.ensures)

pub returns : goal.returns
unfolding children_of finer_span
returns c = rw c.ratio-ratio.ensures
