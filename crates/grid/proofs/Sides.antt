-- One direction of one level, as the code sees it: what its methods require holds of a plan's, and its numbers are small. Assumes nothing.
use Prim.Native.Nat.{ℕ, ◌+◌, ◌*◌, ◌-◌, ◌/◌, ◌≤◌, ◌<◌}
use native.Mathlib.Nat.{le_refl, mul-le-mul, div-lt_iff_lt-mul}
use native.Mathlib.Omega.{arith}
use mathlib.Core.Path.{◌≡◌, ◌∙◌}
use Rattle.grid.specs.declared.Plan.{Plan}
use Rattle.grid.specs.declared.Side.{Side}
use Rattle.grid.specs.Plan.{ratio, function_columns_at, function_rows_at, function_total, across_at, up_at, beyond_across, beyond_up}
use Rattle.grid.specs.Range.{InRange, Beyond}
use Rattle.grid.specs.Knots.{corners_to, beyond, functions, first_over}
use Rattle.grid.specs.Side.{firsts, Sized, SideIn}
use Rattle.grid.proofs.Direction.{grown_pos}
use Rattle.grid.proofs.Laws.{ratio_pos, across_sized, up_sized}
use Rattle.grid.proofs.Small.{grown_small, unit_small, offset_small}
use Rattle.grid.proofs.Knots.{corners_le, functions_last, first_lt as over-lt}
pub use Rattle.grid.proofs.Spans.{across_functions, up_functions}

-- the last `degree` functions are the first over no column
pub firsts_functions : (s : Side) → firsts s + s.degree ≡ functions s
unfolding firsts functions beyond
firsts_functions s = omega arith

module _ (s : Side) (r : SideIn s) where
  pub extra_small : (c : ℕ) → c < s.base → (s.degree - 1) * corners_to s.corners c ≤ 45
  extra_small c l =
      let h : s.degree - 1 ≤ 3 = omega (arith, r.degree≤) in
      let g : corners_to s.corners c ≤ 15 = omega (arith, corners_le s.corners c, r.base≤) in
      mul-le-mul h g

  pub quotient : (x : ℕ) → x < s.cells → x / s.unit < s.base
  quotient x l = (div-lt_iff_lt-mul r.sized.unit≥).1 (rw r.sized.whole at l)

  pub first_small : (x : ℕ) → x < s.cells → first_over s x ≤ 2092
  unfolding first_over
  first_small x l = omega (arith, extra_small (x / s.unit) (quotient x l), r.cells≤)

  pub first_lt : (x : ℕ) → x < s.cells → first_over s x < firsts s
  first_lt x l = omega (arith, firsts_functions s, over-lt s r.sized x l)

  pub functions_small : functions s ≤ 2097
  functions_small = omega (arith, functions_last s r.sized, first_small (s.cells - 1) (omega (arith, r.cells≥)), r.degree≤)

-- a level has a place for each first function: its columns, and three more for each corner at the most
pub firsts_most : (s : Side) → Sized s → s.degree ≤ 4 → firsts s ≤ s.cells + 3 * (s.base - 1)
unfolding firsts functions beyond
firsts_most s sized d =
    let h : s.degree - 1 ≤ 3 = omega arith in
    omega (arith, mul-le-mul h (corners_le s.corners (s.base - 1)))

module _ (p : Plan) (range : InRange p) (k : ℕ) (l : k < p.levels) where
  pub across_in : SideIn (across_at p k)
  across_in = record {
    sized = across_sized p range k;
    cells≥ = grown_pos (ratio p) (ratio_pos p) p.columns k range.columns≥;
    base≤ = range.columns≤;
    unit≤ = unit_small p (omega (arith, range.levels≤));
    degree≤ = range.across≤;
    cells≤ = grown_small p range.columns≤ (omega (arith, range.levels≤));
  }

  pub up_in : SideIn (up_at p k)
  up_in = record {
    sized = up_sized p range k;
    cells≥ = grown_pos (ratio p) (ratio_pos p) p.rows k range.rows≥;
    base≤ = range.rows≤;
    unit≤ = unit_small p (omega (arith, range.levels≤));
    degree≤ = range.up≤;
    cells≤ = grown_small p range.rows≤ (omega (arith, range.levels≤));
  }

-- how many functions a level has beyond its columns
pub beyond_small : (degree corners base : ℕ) → degree ≤ 4 → base ≤ 16 → (degree - 1) * corners_to corners (base - 1) ≤ 45
beyond_small degree corners base d b =
    let h : degree - 1 ≤ 3 = omega arith in
    let g : corners_to corners (base - 1) ≤ 15 = omega (arith, corners_le corners (base - 1)) in
    mul-le-mul h g

pub functions_beyond : (p : Plan) → InRange p → Beyond (beyond_across p) (beyond_up p)
unfolding beyond
functions_beyond p range = record {
  across≤ = omega (arith, beyond_small p.degree_across p.corners_across p.columns range.across≤ range.columns≤, range.across≤);
  up≤ = omega (arith, beyond_small p.degree_up p.corners_up p.rows range.up≤ range.rows≤, range.up≤);
}

pub total_small : (p : Plan) → InRange p → function_total p < 35179273
total_small p r = omega (arith, offset_small p r (beyond_across p) (beyond_up p) (functions_beyond p r) p.levels (le_refl _), r.levels≤)

pub across_firsts : (p : Plan) (k : ℕ) → firsts (across_at p k) + p.degree_across ≡ function_columns_at p k
across_firsts p k = firsts_functions (across_at p k) ∙ across_functions p k

pub up_firsts : (p : Plan) (k : ℕ) → firsts (up_at p k) + p.degree_up ≡ function_rows_at p k
up_firsts p k = firsts_functions (up_at p k) ∙ up_functions p k
