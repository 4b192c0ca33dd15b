-- `Plan::parents_of` meets its contract. Assumes nothing.
use native.Mathlib.Numerals.{sub-one}
use Rattle.grid.specs.Spans.{parents_of}
use Rattle.grid.proofs.Plan.parents_of.Goals as goal

pub returns : goal.returns
unfolding parents_of
returns c = λ i. record {
  level = sub-one c.args.rectangle.level i;
  rows = c.coarser_span.ensures i;
  columns = c.coarser_span-2.ensures i;
}
