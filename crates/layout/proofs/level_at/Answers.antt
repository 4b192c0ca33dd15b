-- `layout::level_at` meets its contract. Assumes nothing.
use mathlib.Core.Path.{sym, ◌∙◌}
use native.Mathlib.Omega.{arith}
use Rattle.layout.specs.Layout.{level_at}
use Rattle.layout.proofs.Found.{level_said}
use Rattle.layout.proofs.level_at.Goals as goal

-- a level's part begins at its number, or ends there
pub cell_offset-requires : goal.cell_offset-requires
cell_offset-requires c = let (r, l) = level_said c.args.plan c.has_level.ensures c.if-has_level.true in record { in_range = r; level_le_levels = omega arith }

pub columns_at-requires : goal.columns_at-requires
columns_at-requires c = let (r, l) = level_said c.args.plan c.has_level.ensures c.if-has_level.true in record { in_range = r; level_lt_levels = l }

pub rows_at-requires : goal.rows_at-requires
rows_at-requires c = let (r, l) = level_said c.args.plan c.has_level.ensures c.if-has_level.true in record { in_range = r; level_lt_levels = l }

pub function_offset-requires : goal.function_offset-requires
function_offset-requires c = let (r, l) = level_said c.args.plan c.has_level.ensures c.if-has_level.true in record { in_range = r; level_le_levels = omega arith }

pub function_columns_at-requires : goal.function_columns_at-requires
function_columns_at-requires c = let (r, l) = level_said c.args.plan c.has_level.ensures c.if-has_level.true in record { in_range = r; level_lt_levels = l }

pub function_rows_at-requires : goal.function_rows_at-requires
function_rows_at-requires c = let (r, l) = level_said c.args.plan c.has_level.ensures c.if-has_level.true in record { in_range = r; level_lt_levels = l }

pub returns-then-has_level : goal.returns-then-has_level
unfolding level_at
returns-then-has_level c = rw (sym c.has_level.ensures ∙ c.if-has_level.true) (λ j. record {
  first_cell = c.cell_offset.ensures j;
  columns = c.columns_at.ensures j;
  rows = c.rows_at.ensures j;
  first_function = c.function_offset.ensures j;
  functions_across = c.function_columns_at.ensures j;
  functions_up = c.function_rows_at.ensures j;
})

pub returns-else-has_level : goal.returns-else-has_level
unfolding level_at
returns-else-has_level c = rw (sym c.has_level.ensures ∙ c.if-has_level.false) (λ j. record {
  first_cell = c.default.ensures.0 j;
  columns = c.default.ensures.1.0 j;
  rows = c.default.ensures.1.1.0 j;
  first_function = c.default.ensures.1.1.1.0 j;
  functions_across = c.default.ensures.1.1.1.1.0 j;
  functions_up = c.default.ensures.1.1.1.1.1 j;
})
