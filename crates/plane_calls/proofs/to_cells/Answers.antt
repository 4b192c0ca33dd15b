-- `to_cells` meets its contract. Assumes nothing.
use mathlib.Core.Path.{◌≡◌, refl, sym, ap, ◌∙◌}
use native.Mathlib.Omega.{arith}
use Rattle.refusals.proofs.Refused.{refused, handed_on}
use Rattle.facts.proofs.Zeros.{zeros, part_length}
use Rattle.planes.specs.Planes.{cells_refusal, order_refusal, unpack_refusal}
use Rattle.planes.proofs.Refusals.{less_length, order_before}
use Rattle.plane_calls.proofs.Copies.{both_words, both_room, cells_fit, unpack_early, within_0, unpack_made}
use Rattle.plane_calls.proofs.to_cells.Goals as goal
use Rattle.plane_calls.proofs.to_cells.Goals.{In_ok-order_refusal}

taken : (c : In_ok-order_refusal) → let a = c.args in 0 ≡ unpack_refusal a.plan a.present.now a.refined.now a.cells.now
unfolding unpack_refusal
taken c = c.in_ok-order_refusal.ensures ∙ ap (order_refusal _ _ _) c.in_ok-cells_refusal.ensures

pub returns-in_err-cells_refusal : goal.returns-in_err-cells_refusal
unfolding unpack_refusal
returns-in_err-cells_refusal c = let e = c.in_err-cells_refusal in
    rw (handed_on _ c.from_residual.ensures.1) (unpack_early _ _ _ _ (order_before _ _ _ _ (refused e.field-0.0) ∙ ap (order_refusal _ _ _) e.ensures) (refused e.field-0.0))

pub order_refusal-requires : goal.order_refusal-requires
unfolding cells_refusal
order_refusal-requires c = less_length _ _ _ (sym c.in_ok-cells_refusal.ensures)

pub returns-in_err-order_refusal : goal.returns-in_err-order_refusal
unfolding unpack_refusal
returns-in_err-order_refusal c = let e = c.in_err-order_refusal in
    rw (handed_on _ c.from_residual-in_err-order_refusal.ensures.1) (unpack_early _ _ _ _ (e.ensures ∙ ap (order_refusal _ _ _) c.in_ok-cells_refusal.ensures) (refused e.field-0.0))

pub overflow_mul-whole : goal.overflow_mul-whole
overflow_mul-whole c = omega (arith, both_room _ _ _ c.args.cells.now (sym c.in_ok-cells_refusal.ensures))

pub slice_bounds-room-end : goal.slice_bounds-room-end
slice_bounds-room-end c = both_room _ _ _ c.args.cells.now (sym c.in_ok-cells_refusal.ensures)

pub slice_bounds-bytes-end : goal.slice_bounds-bytes-end
slice_bounds-bytes-end c = zeros 21888 _ (both_room _ _ _ _ (sym c.in_ok-cells_refusal.ensures))

pub unpack_cells-requires : goal.unpack_cells-requires
unpack_cells-requires c = let z = sym c.in_ok-cells_refusal.ensures in
    let l = part_length 21888 _ refl (both_room _ _ _ _ z) in
    record { refined_len = (both_words _ _ _ _ z, l); cells_in_bounds = (omega (arith, cells_fit _ _ _ _ z, l), within_0 _ _ _ _ (sym (taken (goal.at.unpack_cells-requires c).In_ok-order_refusal))) }

pub returns : goal.returns
returns c = unpack_made _ _ _ _ (sym (taken (goal.at.returns c).In_ok-order_refusal)) c.unpack_cells.ensures
