-- `check` meets its contract. Assumes nothing.
use mathlib.Core.Path.{refl, sym, ◌∙◌}
use native.Mathlib.Omega.{arith}
use Rattle.refusals.proofs.Refused.{refused, handed_on}
use Rattle.facts.proofs.Zeros.{zeros, part_length}
use Rattle.planes.proofs.Refusals.{held_of, check_early, check_held}
use Rattle.plane_calls.proofs.Rooms.{held_room}
use Rattle.plane_calls.proofs.check.Goals as goal

pub returns-in_err-early_refusal : goal.returns-in_err-early_refusal
returns-in_err-early_refusal c = rw (handed_on _ c.from_residual.ensures.1) (check_early _ _ _ _ c.in_err-early_refusal.ensures (refused c.in_err-early_refusal.field-0.0))

pub overflow_mul-whole : goal.overflow_mul-whole
overflow_mul-whole c = omega (arith, held_room (held_of _ _ _ _ (sym c.in_ok-early_refusal.ensures)))

pub slice_bounds-room-end : goal.slice_bounds-room-end
slice_bounds-room-end c = held_room (held_of _ _ _ _ (sym c.in_ok-early_refusal.ensures))

pub slice_bounds-bytes-end : goal.slice_bounds-bytes-end
slice_bounds-bytes-end c = zeros 21888 _ (held_room (held_of _ _ _ _ (sym c.in_ok-early_refusal.ensures)))

pub check_bytes-requires-clause-bytes_len : goal.check_bytes-requires-clause-bytes_len
check_bytes-requires-clause-bytes_len c = part_length 21888 _ refl (held_room (held_of _ _ _ _ (sym c.in_ok-early_refusal.ensures)))

pub returns : goal.returns
returns c = c.check_bytes.ensures.number ∙ check_held _ _ _ _ (sym c.in_ok-early_refusal.ensures)
