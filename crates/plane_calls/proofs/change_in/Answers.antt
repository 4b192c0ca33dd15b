-- `change_in` meets its contract: planes are written where the call is accepted, and else are those of the cells. Assumes nothing.
use mathlib.Core.Path.{refl, sym, ap, ◌∙◌}
use mathlib.Core.List.{List}
use Prim.Native.Nat.{ℕ, ◌*◌}
use native.Mathlib.Omega.{arith}
use lib.ListN.{length}
use Rattle.refusals.proofs.Refused.{refused, handed_on}
use Rattle.grid.specs.Plan.{cell_total}
use Rattle.mesh.specs.Mesh.{check}
use Rattle.calls.specs.Parts.{direction_of, by_of}
use Rattle.planes.proofs.Laws.{length_bytes}
use Rattle.planes.proofs.Refusals.{held_of}
use Rattle.plane_calls.proofs.Rooms.{held_cells, cells_are}
use Rattle.plane_calls.proofs.Changes.{packable, accepted_left, refused_left}
use Rattle.plane_calls.proofs.change_in.Goals as goal

pub change_bytes-requires : goal.change_bytes-requires
change_bytes-requires c = let a = c.args in
    let h = held_of a.plan a.present.now a.refined.now a.functions.now c.requires.functions_value in
    let b = c.check_bytes-checked.ensures.bytes in record { in_range = (h.sizes.range, omega (arith, held_cells h, ap length b, length_bytes (64 * length a.present.now) a.present.now a.refined.now)); checked_value = c.check_bytes-checked.ensures.number ∙ sym (ap (λ (cs : List ℕ). check a.plan cs a.functions.now) (cells_are h (cell_total a.plan) _ refl b)) }

pub returns-in_err-changes : goal.returns-in_err-changes
returns-in_err-changes c = let a = c.args in
    rw (handed_on _ c.from_residual.ensures.1)
    (refused_left _ _ _ _ c.requires.functions_value (direction_of a.call.0) (by_of a.call.1) _ _ _ c.check_bytes-checked.ensures.bytes c.in_err-changes.ensures (λ w. (c.slice_known-1.given w).fits) (λ w. (c.slice_known-2-1.given w).fits) (refused c.in_err-changes.field-0.0))

pub pack-requires : goal.pack-requires
pack-requires c = let a = c.args in
    let whole = packable _ _ _ _ c.requires.functions_value (direction_of a.call.0) (by_of a.call.1) _ _ _ c.check_bytes-checked.ensures.bytes c.in_ok-changes.ensures in record { refined_len = whole.0; small = whole.1 }

pub returns : goal.returns
returns c = let a = c.args in
    accepted_left _ _ _ _ c.requires.functions_value (direction_of a.call.0) (by_of a.call.1) _ _ _ c.check_bytes-checked.ensures.bytes c.in_ok-changes.ensures c.pack.ensures.0 c.pack.ensures.1
