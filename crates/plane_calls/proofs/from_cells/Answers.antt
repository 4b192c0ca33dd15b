-- `from_cells` meets its contract. Assumes nothing.
use mathlib.Core.Path.{refl, sym, ◌∙◌}
use Prim.Native.Nat.{◌*◌}
use native.Mathlib.Omega.{arith}
use lib.ListN.{length}
use Rattle.refusals.proofs.Refused.{refused, handed_on}
use Rattle.facts.proofs.Zeros.{zeros, part_length, clear}
use Rattle.facts.proofs.Tests.{true_T}
use Rattle.plane_calls.proofs.Copies.{both_words, both_room, cells_fit, pack_early, pack_4, pack_made}
use Rattle.plane_calls.proofs.Rooms.{small_of}
use Rattle.plane_calls.proofs.from_cells.Goals as goal

pub returns-in_err-cells_refusal : goal.returns-in_err-cells_refusal
returns-in_err-cells_refusal c = rw (handed_on _ c.from_residual.ensures.1) (pack_early _ _ _ _ c.in_err-cells_refusal.ensures (refused c.in_err-cells_refusal.field-0.0))

pub returns-then-not-are_small : goal.returns-then-not-are_small
returns-then-not-are_small c = pack_4 _ _ _ _ (sym c.in_ok-cells_refusal.ensures) (sym c.are_small.ensures ∙ c.if-not-are_small.true)

pub overflow_mul-whole : goal.overflow_mul-whole
overflow_mul-whole c = omega (arith, both_room _ _ _ c.args.cells.now (sym c.in_ok-cells_refusal.ensures))

pub slice_bounds-room-end : goal.slice_bounds-room-end
slice_bounds-room-end c = both_room _ _ _ c.args.cells.now (sym c.in_ok-cells_refusal.ensures)

pub slice_bounds-bytes-end : goal.slice_bounds-bytes-end
slice_bounds-bytes-end c = zeros 21888 _ (both_room _ _ _ _ (sym c.in_ok-cells_refusal.ensures))

pub pack_cells-requires : goal.pack_cells-requires
pack_cells-requires c = let z = sym c.in_ok-cells_refusal.ensures in
    let l = part_length 21888 _ refl (both_room _ _ _ _ z) in
    record { refined_len = (both_words _ _ _ _ z, l); cells_in_bounds = (omega (arith, cells_fit _ _ _ _ z, l), small_of _ (true_T _ (sym c.are_small.ensures ∙ c.if-not-are_small.false))); clear = clear 21888 (64 * length c.args.present.now) }

pub returns : goal.returns
returns c = pack_made _ _ _ _ (sym c.in_ok-cells_refusal.ensures) (sym c.are_small.ensures ∙ c.if-not-are_small.false) c.pack_cells.ensures.0 c.pack_cells.ensures.1
