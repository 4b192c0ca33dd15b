-- What is claimed of the values at a point of a side. Definitions only.
use Rattle.std.specs.Prelude.{◌≡◌, not, ℕ, suc, ◌+◌, ◌-◌, ◌*◌, ◌≤◌, ◌<◌, T, ltb}
use Rattle.facts.specs.Bounded.{sum}
use Rattle.grid.specs.declared.Side.{Side}
use Rattle.grid.specs.Knots.{knot_on, functions, covers}
use Rattle.grid.specs.Side.{Sized}
use Rattle.splines.specs.Values.{rise, fall, basis, scale, from, value, value_on, is_inside}

-- degree 1 or 2, h parts to a cell, x a point up to the far edge
pub record OnSide (s : Side) (h x : ℕ) : Type 0 where
  pub sized : Sized s
  pub degree≤ : s.degree ≤ 2
  pub parts≥ : 1 ≤ h
  pub point≤ : x ≤ s.cells * h

-- the recursion's factors at step d between the knots a and b, where there is something between them, are whole numbers: nothing is
-- rounded away
pub record WholeFactors (h d a b x : ℕ) : Type 0 where
  pub rising : rise h d a b x * (b - a) ≡ (x - a * h) * d
  pub falling : fall h d a b x * (b - a) ≡ (b * h - x) * d

pub record Values (s : Side) (h x : ℕ) : Type 0 where
  -- of every step up to the degree, from any knot on
  pub factors : (d i : ℕ) → 1 ≤ d → d ≤ s.degree → i + d < functions s + (s.degree + 1) → knot_on s i < knot_on s (i + d)
      → WholeFactors h d (knot_on s i) (knot_on s (i + d)) x
  -- values in common parts are the recursion's, with nothing rounded away
  pub whole : (i : ℕ) → value_on s h i x * scale h s.degree ≡ value h s.cells s.degree (knot_on s) i x * (2 * h * h)
  -- none is above 1, and together they make 1
  pub most : (i : ℕ) → i < functions s → value_on s h i x ≤ 2 * h * h
  pub one : sum (functions s) (λ i. value_on s h i x) ≡ 2 * h * h
  -- a function is 0 in a cell that it does not cover, and on both lines of such a cell
  pub outside : (c i : ℕ) → c < s.cells → c * h ≤ x → x ≤ suc c * h → i < functions s → T (not (covers s i c)) → value_on s h i x ≡ 0
  -- it is not 0 inside its support, and only there
  pub inside : (i : ℕ) → i < functions s → ltb 0 (value_on s h i x) ≡ is_inside s h i x
  -- a function is continuous: on the line behind cell c, corner or not, the recursion gives in c the value that it has in the next cell
  pub continuous : (c i : ℕ) → suc c < s.cells → x ≡ suc c * h → i < functions s
      → basis h c (λ d. x) s.degree (from (knot_on s) i) ≡ value h s.cells s.degree (knot_on s) i x
