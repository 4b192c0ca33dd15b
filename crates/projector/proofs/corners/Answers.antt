-- `corners` meets its contract: the plan and the mesh, the heights, the room. Assumes nothing.
use mathlib.Core.Path.{refl, sym}
use Rattle.refusals.proofs.Refused.{refused, handed_on}
use Rattle.projector.proofs.Refusals.{passed, ready, refused_mesh, refused_heights, accepted}
use Rattle.projector.proofs.corners.Goals as goal

pub returns-in_err-mesh_refusal : goal.returns-in_err-mesh_refusal
returns-in_err-mesh_refusal c = let a = c.args in
    let e = c.in_err-mesh_refusal in
    rw (handed_on _ c.from_residual.ensures.1) (refused_mesh a.plan a.cells.now a.functions.now a.heights.now a.out.now e.ensures (refused e.field-0.0) refl)

pub refusal-requires : goal.refusal-requires
refusal-requires c = let k = passed _ _ _ (sym c.in_ok-mesh_refusal.ensures) in (k.range, k.of_functions)

pub returns-in_err-refusal : goal.returns-in_err-refusal
returns-in_err-refusal c = let a = c.args in
    let e = c.in_err-refusal in
    rw (handed_on _ c.from_residual-in_err-refusal.ensures.1)
    (refused_heights a.plan a.cells.now a.functions.now a.heights.now a.out.now (sym c.in_ok-mesh_refusal.ensures) e.ensures (refused e.field-0.0) refl)

pub fill-requires : goal.fill-requires
fill-requires c = let a = c.args in
    record { ready = ready a.plan a.cells.now a.functions.now a.heights.now a.out.now (sym c.in_ok-mesh_refusal.ensures) (sym c.in_ok-refusal.ensures); cells_len = (passed _ _ _ (sym c.in_ok-mesh_refusal.ensures)).of_cells }

pub returns : goal.returns
returns c = let a = c.args in
    accepted a.plan a.cells.now a.functions.now a.heights.now a.out.now (sym c.in_ok-mesh_refusal.ensures) (sym c.in_ok-refusal.ensures) c.fill.ensures
