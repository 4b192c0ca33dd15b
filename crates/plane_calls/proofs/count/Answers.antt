-- `count` meets its contract. Assumes nothing.
use mathlib.Core.Path.{sym}
use native.Mathlib.Omega.{arith}
use Rattle.refusals.proofs.Refused.{refused, handed_on}
use Rattle.tables.proofs.Calls.{short_functions}
use Rattle.planes.proofs.Refusals.{check_of}
use Rattle.plane_calls.proofs.Rooms.{same_words, held_room}
use Rattle.plane_calls.proofs.Counted.{held_checked, counted_planes, uncounted_planes}
use Rattle.plane_calls.proofs.count.Goals as goal

pub returns-in_err-check : goal.returns-in_err-check
returns-in_err-check c = rw (handed_on _ c.from_residual.ensures.1) (uncounted_planes _ _ _ _ c.in_err-check.ensures (refused c.in_err-check.field-0.0))

pub count_active-requires : goal.count_active-requires
count_active-requires c = let h = held_checked (sym c.in_ok-check.ensures) in (same_words h, omega (arith, held_room h))

pub count_set-requires : goal.count_set-requires
count_set-requires c = let h = held_checked (sym c.in_ok-check.ensures) in omega (arith, held_room h, same_words h)

pub tally-requires : goal.tally-requires
tally-requires c = short_functions _ _ _ (check_of _ _ _ _ (sym c.in_ok-check.ensures)).1

pub area-requires : goal.area-requires
area-requires c = (held_checked (sym c.in_ok-check.ensures)).sizes.range

pub returns : goal.returns
returns c = counted_planes _ _ _ _ c.in_ok-check.ensures (λ w. (c.type_inv.present w).fits) (λ w. (c.type_inv.refined w).fits) c.count_active.ensures c.count_set.ensures c.tally.ensures c.area.ensures
