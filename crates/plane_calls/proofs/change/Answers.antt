-- `change` meets its contract. Assumes nothing.
use mathlib.Core.Path.{refl, sym}
use native.Mathlib.Omega.{arith}
use Rattle.refusals.proofs.Refused.{refused, handed_on}
use Rattle.facts.proofs.Zeros.{zeros, part_length}
use Rattle.calls.specs.Parts.{direction_of, by_of}
use Rattle.planes.specs.Planes.{refused_planes}
use Rattle.planes.proofs.Refusals.{held_of}
use Rattle.plane_calls.proofs.Rooms.{held_room}
use Rattle.plane_calls.proofs.Changes.{planes_early}
use Rattle.plane_calls.proofs.change.Goals as goal

pub returns-in_err-early_refusal : goal.returns-in_err-early_refusal
unfolding refused_planes
returns-in_err-early_refusal c = let a = c.args in
    rw (handed_on _ c.from_residual.ensures.1) (planes_early (direction_of a.call.0) (by_of a.call.1) _ _ _ _ _ _ _ c.in_err-early_refusal.ensures (refused c.in_err-early_refusal.field-0.0))

pub overflow_mul-whole : goal.overflow_mul-whole
overflow_mul-whole c = omega (arith, held_room (held_of _ _ _ _ (sym c.in_ok-early_refusal.ensures)))

pub slice_bounds-room-end : goal.slice_bounds-room-end
slice_bounds-room-end c = held_room (held_of _ _ _ _ (sym c.in_ok-early_refusal.ensures))

pub slice_bounds-bytes-end : goal.slice_bounds-bytes-end
slice_bounds-bytes-end c = zeros 21888 _ (held_room (held_of _ _ _ _ (sym c.in_ok-early_refusal.ensures)))

pub change_in-requires-clause-bytes_len : goal.change_in-requires-clause-bytes_len
change_in-requires-clause-bytes_len c = part_length 21888 _ refl (held_room (held_of _ _ _ _ (sym c.in_ok-early_refusal.ensures)))
