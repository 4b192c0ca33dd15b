-- What is claimed of the two-scale coefficients of one direction holds. Assumes nothing.
use Rattle.grid.specs.declared.Side.{Side}
use Rattle.twoscale.specs.Claims.{Halved, TwoScale}
use Rattle.twoscale.proofs.Formula as formulas
use Rattle.twoscale.proofs.Patterns.{children_are}

pub two_scale : (s s' : Side) → Halved s s' → TwoScale s s'
two_scale s s' half = record {
  whole = formulas.whole s s' half;
  formula = formulas.formula s s' half;
  one = formulas.one s s' half;
  within = formulas.within s s' half;
  children = children_are s s' half;
}
