-- What is claimed of the two-scale coefficients of one direction. Definitions only.
use Rattle.std.specs.Prelude.{◌≡◌, ◌≢◌, ℕ, ◌*◌, ◌/◌, ◌≤◌, ◌<◌, T}
use Rattle.facts.specs.Bounded.{sum}
use Rattle.grid.specs.declared.Side.{Side}
use Rattle.grid.specs.Knots.{functions, covers}
use Rattle.grid.specs.Side.{Sized}
use Rattle.splines.specs.Values.{scale, value_on}
use Rattle.twoscale.specs.TwoScale.{coefficient, quarters}
use Rattle.twoscale.specs.Passing.{children_of, quarters_of}

-- s' is the next level of s: two cells to one, the same corners
pub record Halved (s s' : Side) : Type 0 where
  pub sized : Sized s
  pub degree≤ : s.degree ≤ 2
  pub degree : s'.degree ≡ s.degree
  pub cells : s'.cells ≡ 2 * s.cells
  pub base : s'.base ≡ s.base
  pub unit : s'.unit ≡ 2 * s.unit
  pub corners : s'.corners ≡ s.corners

pub record TwoScale (s s' : Side) : Type 0 where
  -- coefficients are whole quarters
  pub whole : (i j : ℕ) → i < functions s → j < functions s' → quarters s s' i j * scale 2 s.degree ≡ coefficient s s' i j * 4
  -- formula 2, at every point x, of which h make a cell of the next level
  pub formula : (h x i : ℕ) → 1 ≤ h → x ≤ s'.cells * h → i < functions s
      → value_on s (2 * h) i x ≡ sum (functions s') (λ j. quarters s s' i j * value_on s' h j x)
  -- what one function of the next level gets makes 1
  pub one : (j : ℕ) → j < functions s' → sum (functions s) (λ i. quarters s s' i j) ≡ 4
  -- a function of the next level that is in function i has its support within that of i
  pub within : (i j c : ℕ) → i < functions s → j < functions s' → quarters s s' i j ≢ 0 → T (covers s' j c) → T (covers s i (c / 2))
  -- the children of function i, by its own knots
  pub children : (i j : ℕ) → i < functions s → j < functions s' → quarters s s' i j ≡ quarters_of (children_of s i) j
