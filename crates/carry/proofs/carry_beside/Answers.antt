-- `carry_beside` meets its contract: the heights of the active functions are passed on, and judged. Assumes nothing.
use mathlib.Core.Path.{sym, ◌∙◌}
use native.Mathlib.Omega.{arith}
use Rattle.carry.proofs.NewHeights.{may, heights_are, starts, carries, carried_are}
use Rattle.carry.proofs.carry_beside.Goals as goal

pub only_active-requires : goal.only_active-requires
only_active-requires c = let C = c.requires in
    let l = heights_are C in
    (omega (arith, l, C.old_are, C.new_are), C.room_is ∙ sym l)

pub carry_on-requires : goal.carry_on-requires
carry_on-requires c = let C = c.requires in record { started = starts C c.only_active.ensures; functions_len = (C.new_are, C.none_last) }

pub all_low-requires : goal.all_low-requires
all_low-requires c = let C = c.requires in record { in_range = ((may C).range, (may C).levels≤); functions_len = (omega (arith, C.old_are, C.new_are), carried_are C c.only_active.ensures c.carry_on.ensures) }

pub returns : goal.returns
returns c = record { out_after = carries c.requires c.only_active.ensures c.carry_on.ensures; value = c.all_low.ensures }
