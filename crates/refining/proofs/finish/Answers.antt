-- `finish` meets its contract: the new heights are judged beside the lent ones, and then all is written. Assumes nothing.
use mathlib.Core.Path.{◌≡◌, refl, sym, ◌∙◌}
use mathlib.Core.Bool.{true, false}
use native.Mathlib.Omega.{arith}
use Rattle.carry.specs.Steps.{most_heights}
use Rattle.refining.proofs.Finishing.{no_heights, heights_part, in_range_lem, few, old_functions, new_functions, old_heights, none_deactivated, cell_room_lem, function_room_lem, too_high, ends}
use Rattle.refining.proofs.finish.Goals as goal

pub function_total-count-requires : goal.function_total-count-requires
function_total-count-requires c = in_range_lem c.requires

pub slice_bounds-room-end : goal.slice_bounds-room-end
slice_bounds-room-end c = omega (arith, few c.requires)

pub slice_bounds-carried-end : goal.slice_bounds-carried-end
slice_bounds-carried-end c = no_heights most_heights c.function_total-count.result (omega (arith, few c.requires))

pub carry_beside-low-requires : goal.carry_beside-low-requires
carry_beside-low-requires c = let R = c.requires in
    record {
      range = in_range_lem R;
      room_is = omega (arith, old_heights R, heights_part most_heights _ c.function_total-count.ensures (few R));
      allowed = R.allowed;
      old_are = old_functions R;
      new_are = new_functions R;
      none_last = none_deactivated R;
    }

pub returns-then-not-low : goal.returns-then-not-low
returns-then-not-low c = let w = c.carry_beside-low in
    let high : w.result ≡ false = c.if-not-low.true in
    too_high c.requires w.ensures.out_after (sym w.ensures.value ∙ high) refl

pub take_over-changed_cells-requires : goal.take_over-changed_cells-requires
take_over-changed_cells-requires c = cell_room_lem c.requires

pub take_over-changed_functions-requires : goal.take_over-changed_functions-requires
take_over-changed_functions-requires c = function_room_lem c.requires

pub only_active-requires : goal.only_active-requires
only_active-requires c = let R = c.requires in
    let l = c.carry_beside-low.auto.out ∙ heights_part most_heights _ c.function_total-count.ensures (few R) in
    (c.take_over-changed_functions.auto.table ∙ old_functions R ∙ sym l, old_heights R ∙ sym l)

pub returns : goal.returns
returns c = let w = c.carry_beside-low in
    let low : w.result ≡ true = c.if-not-low.false in
    let t = c.take_over-changed_cells.ensures in
    let u = c.take_over-changed_functions.ensures in
    ends c.requires w.ensures.out_after (sym w.ensures.value ∙ low) t.count u.count t.bytes u.bytes t.listed u.listed c.only_active.ensures
