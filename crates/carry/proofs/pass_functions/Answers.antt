-- `pass_functions` meets its contract: function by function. Assumes nothing.
use mathlib.Core.Path.{◌≡◌, ap, ◌∙◌}
use Prim.Native.Nat.{◌+◌, ◌*◌, ◌<◌}
use native.Mathlib.Omega.{arith}
use Rattle.grid.specs.Plan.{function_columns_at, function_offset}
use Rattle.grid.proofs.Sides.{up_in, across_in, up_functions, across_functions}
use Rattle.carry.proofs.Turns.{from_none, row_fits, row_ends, turn_size, turn_same, turn_room, turn_yes, turn_no}
use Rattle.carry.proofs.pass_functions.Goals as goal
use Rattle.carry.proofs.pass_functions.Goals.{then-functions-f, else-functions-f}
use Rattle.carry.proofs.pass_functions.Goals.{At-loop-column, In-loop-column}

pub children_of-up-requires : goal.children_of-up-requires
children_of-up-requires c = let s = c in rw c.up_at.ensures (record { side_in = (up_in s.args.plan s.requires.underway.started.allowed.range s.args.level (omega (arith, s.requires.level_bound.0)), s.requires.underway.started.allowed.up≤); i_bound = omega (arith, s.requires.level_bound.1, up_functions s.args.plan s.args.level) })

pub overflow_mul-begin : goal.overflow_mul-begin
overflow_mul-begin c = let s = c in rw c.function_columns_at-count.ensures (omega (arith, row_fits s.requires.underway s.requires.level_bound.0 s.requires.level_bound.1))

pub overflow_add-begin : goal.overflow_add-begin
overflow_add-begin c = let s = c in rw (c.function_columns_at-count.ensures, c.function_offset.ensures) (omega (arith, row_fits s.requires.underway s.requires.level_bound.0 s.requires.level_bound.1))

pub loop-column-init : goal.loop-column-init
loop-column-init c = from_none _ _ _ _

-- the row begins where it should, and its functions are those of the plan
begins : (c : At-loop-column) → c.function_offset.result + c.args.row * c.function_columns_at-count.result ≡ function_offset c.args.plan c.args.level + c.args.row * function_columns_at c.args.plan c.args.level
begins c = rw (c.function_offset.ensures, c.function_columns_at-count.ensures)

inner : (c : In-loop-column) → c.loop-column.column < function_columns_at c.args.plan c.args.level
inner c = omega (arith, c.function_columns_at-count.ensures)

at_column : (c : At-loop-column) → c.function_offset.result + c.args.row * c.function_columns_at-count.result + c.loop-column.column ≡ function_offset c.args.plan c.args.level + c.args.row * function_columns_at c.args.plan c.args.level + c.loop-column.column
at_column c = ap (λ n. n + c.loop-column.column) (begins c)

pub overflow_add-f : goal.overflow_add-f
overflow_add-f c = let s = c in omega (arith, begins (goal.at.overflow_add-f c).At-loop-column, c.function_columns_at-count.ensures, row_fits s.requires.underway s.requires.level_bound.0 s.requires.level_bound.1)

pub bounds-functions-f : goal.bounds-functions-f
bounds-functions-f c = let s = c in omega (arith, begins (goal.at.bounds-functions-f c).At-loop-column, c.function_columns_at-count.ensures, row_ends s.requires.underway s.requires.level_bound.0 s.requires.level_bound.1, s.requires.underway.sized)

pub offset_bounds-heights-f : goal.offset_bounds-heights-f
offset_bounds-heights-f c = let s = c in omega (arith, begins (goal.at.offset_bounds-heights-f c).At-loop-column, c.function_columns_at-count.ensures, row_fits s.requires.underway s.requires.level_bound.0 s.requires.level_bound.1)

pub slice_copy_out-t-23 : goal.slice_copy_out-t-23
slice_copy_out-t-23 c = let s = c in omega (arith, begins (goal.at.slice_copy_out-t-23 c).At-loop-column, c.function_columns_at-count.ensures, row_ends s.requires.underway s.requires.level_bound.0 s.requires.level_bound.1, turn_size s.requires.underway s.requires.level_bound.0 s.requires.level_bound.1 c.loop-column.column c.loop-column.invariant)

pub children_of-across-requires : goal.children_of-across-requires
children_of-across-requires c = let s = c in rw c.across_at.ensures (record { side_in = (across_in s.args.plan s.requires.underway.started.allowed.range s.args.level (omega (arith, s.requires.level_bound.0)), s.requires.underway.started.allowed.across≤); i_bound = omega (arith, inner (goal.at.children_of-across-requires c).In-loop-column, across_functions s.args.plan s.args.level) })

pub pass_function-requires : goal.pass_function-requires
pass_function-requires c = let s = c in
    turn_room s.requires.underway s.requires.level_bound.0 s.requires.level_bound.1 c.loop-column.column c.loop-column.invariant (inner (goal.at.pass_function-requires c).In-loop-column) (at_column (goal.at.pass_function-requires c).At-loop-column) c.function_offset-offset.ensures c.function_columns_at-width.ensures (rw c.up_at.ensures at c.children_of-up.ensures) (rw c.across_at.ensures at c.children_of-across.ensures)

pub loop-column-preserved : goal.loop-column-preserved
loop-column-preserved c = let s = c in
    let l = c.loop-column in
    elim c.if-functions-f.branch [
      | then-functions-f w ↦
          w.heights-is ∙ turn_yes s.requires.underway s.requires.level_bound.0 s.requires.level_bound.1 l.column l.invariant (inner (goal.at.loop-column-preserved c).In-loop-column) (at_column (goal.at.loop-column-preserved c).At-loop-column) c.function_offset-offset.ensures c.function_columns_at-width.ensures (rw c.up_at.ensures at c.children_of-up.ensures) (rw w.across_at.ensures at w.children_of-across.ensures) w.if-functions-f.true w.pass_function.ensures
      | else-functions-f w ↦ w.heights-is ∙ turn_no s.requires.underway s.requires.level_bound.0 s.requires.level_bound.1 l.column l.invariant (at_column (goal.at.loop-column-preserved c).At-loop-column) c.t23-1.given w.if-functions-f.false
    ]

pub shape_of-heights : goal.shape_of-heights
shape_of-heights c = let s = c in turn_same s.requires.underway s.requires.level_bound.0 s.requires.level_bound.1 c.loop-column.column c.loop-column.invariant
