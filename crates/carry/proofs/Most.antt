-- How many functions a plan that heights allow can have: what a table of carried heights needs. Assumes nothing.
use mathlib.Core.Path.{◌≡◌, refl}
use Prim.Native.Nat.{ℕ, ◌+◌, ◌-◌, ◌*◌, ◌^◌, ◌≤◌}
use native.Mathlib.Nat.{le_trans, mul-le-mul, mul-le-mul_right}
use native.Mathlib.Omega.{arith}
use lib.Dec.{lit≤}
use Rattle.grid.specs.declared.Plan.{Plan}
use Rattle.grid.specs.Numbering.{offset}
use Rattle.grid.specs.Knots.{is_set, corners_to, beyond}
use Rattle.grid.specs.Plan.{ratio, grown, function_columns_at, function_rows_at, function_total}
use Rattle.grid.proofs.Knots.{corners_le}
use Rattle.grid.proofs.Levels.{offset_mono}
use Rattle.grid.proofs.Totals.{offset_le}
use Rattle.carry.specs.Steps.{most_heights, Allowed}

-- 16 columns, degree 2, and a corner on each of the 15 inner lines
abbrev widest : ℕ → ℕ
widest k = 16 * 2 ^ k + 17

beyond_most : (degree corners base : ℕ) → degree ≤ 2 → base ≤ 16 → beyond degree corners base ≤ 17
unfolding beyond
beyond_most degree corners base d b =
    let h : degree - 1 ≤ 1 = omega arith in
    omega (arith, mul-le-mul h (corners_le corners (base - 1)))

width_most : (p : Plan) (degree corners base k : ℕ) → degree ≤ 2 → base ≤ 16 → grown (ratio p) base k + beyond degree corners base ≤ widest k
unfolding grown ratio
width_most p degree corners base k d b = omega (arith, mul-le-mul_right (2 ^ k) b, beyond_most degree corners base d b)

pub most_heights_lem : (p : Plan) → Allowed p → function_total p ≤ most_heights
unfolding offset
most_heights_lem p a =
    le_trans
    (offset_le (function_columns_at p) (function_rows_at p) widest widest (λ k. width_most p p.degree_across p.corners_across p.columns k a.across≤ a.range.columns≤) (λ k. width_most p p.degree_up p.corners_up p.rows k a.up≤ a.range.rows≤) p.levels)
    (le_trans (offset_mono widest widest p.levels 4 a.levels≤) (lit≤ tt))

-- and no smaller bound holds
pub most_reached : (p : Plan) × Allowed p × (function_total p ≡ most_heights)
unfolding offset grown ratio beyond corners_to is_set
most_reached = (
  record { columns = 16; rows = 16; levels = 4; degree_across = 2; degree_up = 2; class = 0; corners_across = 2 ^ 16 - 2; corners_up = 2 ^ 16 - 2 },
  record { range = omega arith; across≤ = lit≤ tt; up≤ = lit≤ tt; levels≤ = lit≤ tt },
  refl,
)
