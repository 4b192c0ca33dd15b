-- `pass_level` meets its contract: row by row. Assumes nothing.
use mathlib.Core.Path.{sym, ◌∙◌}
use Prim.Native.Nat.{◌*◌}
use native.Mathlib.Omega.{arith}
use Rattle.grid.specs.Plan.{function_columns_at, function_offset}
use Rattle.carry.proofs.Joins.{underway_size, underway_more, rows_none, rows_more}
use Rattle.carry.proofs.pass_level.Goals as goal

pub loop-row-init : goal.loop-row-init
loop-row-init c = rows_none _ _ _ _ _

pub pass_functions-requires : goal.pass_functions-requires
pass_functions-requires c = let s = c in
    let l = c.loop-row in
    record { underway = underway_more (l.row * function_columns_at s.args.plan s.args.level) s.requires.underway l.invariant; level_bound = (s.requires.level_bound, omega (arith, c.function_rows_at-rows.ensures)) }

pub loop-row-preserved : goal.loop-row-preserved
loop-row-preserved c = let s = c in
    let l = c.loop-row in
    rows_more s.args.plan s.args.functions.now (function_offset s.args.plan s.args.level) (function_columns_at s.args.plan s.args.level) l.row s.args.heights.now l.invariant c.pass_functions.ensures

pub shape_of-heights : goal.shape_of-heights
shape_of-heights c = let s = c in
    let l = c.loop-row in
    underway_size (underway_more (l.row * function_columns_at s.args.plan s.args.level) s.requires.underway l.invariant) ∙ sym (underway_size s.requires.underway)
