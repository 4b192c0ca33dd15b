-- What `in_range` says, as facts: what the plan's methods require. Definitions only.
use Rattle.std.specs.Prelude.{◌≢◌, ◌≡◌, ℕ, ◌+◌, ◌%◌, ◌^◌, ◌≤◌, ◌<◌}
use Rattle.grid.specs.declared.Plan.{Plan}

pub record InRange (p : Plan) : Type 0 where
  pub columns≥ : 1 ≤ p.columns
  pub columns≤ : p.columns ≤ 16
  pub rows≥ : 1 ≤ p.rows
  pub rows≤ : p.rows ≤ 16
  pub levels≥ : 1 ≤ p.levels
  pub levels≤ : p.levels ≤ 8
  pub across≥ : 1 ≤ p.degree_across
  pub across≤ : p.degree_across ≤ 4
  pub up≥ : 1 ≤ p.degree_up
  pub up≤ : p.degree_up ≤ 4
  pub class≢ : p.class ≢ 1
  pub class≤ : p.class ≤ 8
  pub corners_across< : p.corners_across < 2 ^ p.columns
  pub even_across : p.corners_across % 2 ≡ 0
  pub corners_up< : p.corners_up < 2 ^ p.rows
  pub even_up : p.corners_up % 2 ≡ 0

-- a cell of level j has a neighbourhood: "m not 0 .. level j with j-m+1 at least 0"
pub record HasNeighbourhood (p : Plan) (j : ℕ) : Type 0 where
  pub class≢ : p.class ≢ 0
  pub level≥ : p.class ≤ j + 1

-- no more columns and rows beyond those of cells than the largest degree makes, with a corner on each inner line
pub record Beyond (across up : ℕ) : Type 0 where
  pub across≤ : across ≤ 49
  pub up≤ : up ≤ 49
