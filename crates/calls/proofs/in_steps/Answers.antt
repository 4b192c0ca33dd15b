-- `in_steps` meets its contract: what the first step leaves is what the second asks. Assumes nothing.
use mathlib.Core.Path.{refl, ◌∙◌}
use Rattle.refusals.proofs.Refused.{refused, handed_on}
use Rattle.calls.proofs.Outcomes.{stops, relabellable, ends}
use Rattle.calls.proofs.in_steps.Goals as goal

pub returns-in_err-settled : goal.returns-in_err-settled
returns-in_err-settled c = let e = c.in_err-settled in
    rw (handed_on _ c.from_residual.ensures.1) (stops c.requires _ _ e.ensures (refused e.field-0.0))

pub relabel-relabelled-requires : goal.relabel-relabelled-requires
relabel-relabelled-requires c = let s = c in
    let A = s.requires in
    let (mesh, room) = relabellable A s.args.cell_list.now s.args.function_list.now c.in_ok-settled.ensures refl in
    record { mesh_table = mesh; rooms = record { functions_are = A.functions_are; made_is = c.settle_mesh.auto.made ∙ A.room_is; cells_small = A.ready.small }; cells_in_bounds = room }

pub returns : goal.returns
returns c = ends c.requires _ _ c.in_ok-settled.ensures refl c.relabel-relabelled.ensures
