-- `Plan::in_range` meets its contract: corners are looked at where columns and rows are few. Assumes nothing.
use mathlib.Core.Path.{sym, ◌∙◌}
use Rattle.grid.specs.Plan.{in_range}
use Rattle.grid.proofs.Laws.{few_columns, few_rows}
use Rattle.grid.proofs.Plan.in_range.Goals as goal
use Rattle.grid.proofs.Plan.in_range.Goals.{then-numbers_in_range, else-numbers_in_range}

pub corners_in_range-requires : goal.corners_in_range-requires
corners_in_range-requires c = few_columns c.args.self (rw (sym c.numbers_in_range.ensures ∙ c.if-numbers_in_range.true) tt)

pub corners_in_range-requires-then-corners_in_range : goal.corners_in_range-requires-then-corners_in_range
corners_in_range-requires-then-corners_in_range c = elim c.if-numbers_in_range.branch [
  | then-numbers_in_range w ↦ few_rows c.args.self (rw (sym c.numbers_in_range.ensures ∙ w.if-numbers_in_range.true) tt)
  | else-numbers_in_range w ↦ cc
]

pub returns-then-corners_in_range : goal.returns-then-corners_in_range
unfolding in_range
returns-then-corners_in_range c = elim c.if-numbers_in_range.branch [
  | then-numbers_in_range w ↦ rw (sym c.numbers_in_range.ensures ∙ w.if-numbers_in_range.true, sym w.corners_in_range.ensures ∙ (sym w.value-is ∙ c.if-corners_in_range.true)) c.corners_in_range-then-corners_in_range.ensures
  | else-numbers_in_range w ↦ cc
]

pub returns-else-corners_in_range : goal.returns-else-corners_in_range
unfolding in_range
returns-else-corners_in_range c = elim c.if-numbers_in_range.branch [
  | then-numbers_in_range w ↦ rw (sym c.numbers_in_range.ensures ∙ w.if-numbers_in_range.true, sym w.corners_in_range.ensures ∙ (sym w.value-is ∙ c.if-corners_in_range.false)) c.if-corners_in_range.false
  | else-numbers_in_range w ↦ rw (sym c.numbers_in_range.ensures ∙ w.if-numbers_in_range.false) c.if-corners_in_range.false
]
