-- `level_height` meets its contract. Assumes nothing.
use mathlib.Core.Path.{ap, ◌∙◌}
use Rattle.exact.specs.Dyadic.{dyadic}
use Rattle.heights.specs.Heights.{places}
use Rattle.heights.proofs.Points.{on_across, on_up, across_room, up_room}
use Rattle.heights.proofs.Surface.{across_found, up_found, inside_found, rows_found, sum_found}
use Rattle.heights.proofs.level_height.Goals as goal

pub locate-x-requires : goal.locate-x-requires
locate-x-requires c = let s = c in
    rw (c.across_at-columns.ensures, c.eighths-parts.ensures.0)
    (record { on_side = on_across _ _ _ s.requires.on_surface.point s.args.level s.requires.level_lt_levels; in_room = across_room _ _ _ s.requires.on_surface.point s.args.level s.requires.level_lt_levels })

pub locate-y-requires : goal.locate-y-requires
locate-y-requires c = let s = c in
    rw (c.up_at-rows.ensures, c.eighths-parts.ensures.0)
    (record { on_side = on_up _ _ _ s.requires.on_surface.point s.args.level s.requires.level_lt_levels; in_room = up_room _ _ _ s.requires.on_surface.point s.args.level s.requires.level_lt_levels })

pub first_over-row-requires : goal.first_over-row-requires
first_over-row-requires c = let whole = (let s = c in
    up_found s.requires.on_surface s.requires.level_lt_levels c.eighths-parts.ensures.0 c.up_at-rows.ensures c.locate-y.ensures) in record { side_in = whole.0; x_lt_cells = whole.1 }

pub first_over-column-requires : goal.first_over-column-requires
first_over-column-requires c = let whole = (let s = c in
    across_found s.requires.on_surface s.requires.level_lt_levels c.eighths-parts.ensures.0 c.across_at-columns.ensures c.locate-x.ensures) in record { side_in = whole.0; x_lt_cells = whole.1 }

pub function_number-first-requires : goal.function_number-first-requires
function_number-first-requires c = let s = c in record {
  in_range = s.requires.on_surface.point.range;
  function_inside = inside_found s.requires.on_surface s.requires.level_lt_levels c.eighths-parts.ensures.0 c.across_at-columns.ensures c.up_at-rows.ensures c.locate-x.ensures c.locate-y.ensures
      c.first_over-row.ensures c.first_over-column.ensures;
}

pub function_columns_at-width-requires : goal.function_columns_at-width-requires
function_columns_at-width-requires c = let s = c in record { in_range = s.requires.on_surface.point.range; level_lt_levels = s.requires.level_lt_levels }

pub rows-requires : goal.rows-requires
rows-requires c = let s = c in record {
  rows = rows_found s.requires.on_surface s.requires.level_lt_levels c.eighths-parts.ensures.0 c.across_at-columns.ensures c.up_at-rows.ensures c.locate-x.ensures c.locate-y.ensures
      c.first_over-row.ensures c.first_over-column.ensures c.function_number-first.ensures c.function_columns_at-width.ensures;
}

pub returns : goal.returns
returns c = let s = c in
    c.rows.ensures
    ∙ rw s.requires.same_levels (ap (dyadic (places s.args.plan.levels))
    (sum_found s.requires.on_surface s.requires.level_lt_levels c.eighths-parts.ensures.0 c.across_at-columns.ensures c.up_at-rows.ensures c.locate-x.ensures c.locate-y.ensures
    c.first_over-row.ensures c.first_over-column.ensures c.function_number-first.ensures c.function_columns_at-width.ensures))
