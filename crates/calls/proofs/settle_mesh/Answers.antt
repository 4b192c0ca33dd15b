-- `settle_mesh` meets its contract: what is settled are the cells of the new mesh. Assumes nothing.
use mathlib.Core.Path.{◌≡◌, sym, ap, ◌∙◌}
use mathlib.Core.List.{List}
use Prim.Native.Nat.{ℕ}
use native.Mathlib.Omega.{arith}
use Rattle.facts.proofs.Zeros.{zeros, part_length}
use Rattle.grid.specs.Bounds.{most_cells}
use Rattle.outcomes.specs.Steps.{settle_cells}
use Rattle.calls.specs.Parts.{direction_of, renewed}
use Rattle.calls.proofs.Outcomes.{ready_are, mesh_are}
use Rattle.calls.proofs.settle_mesh.Goals as goal
use Rattle.calls.proofs.settle_mesh.Goals.{After-renew}

pub slice_bounds-new_cells-end : goal.slice_bounds-new_cells-end
slice_bounds-new_cells-end c = zeros most_cells c.cell_total-total.result (omega (arith, c.requires.ready.small))

pub copy_from_slice-requires : goal.copy_from_slice-requires
copy_from_slice-requires c = let R = c.requires.ready in
    part_length most_cells _ c.cell_total-total.ensures R.small ∙ sym R.size

pub renew-requires : goal.renew-requires
renew-requires c = ready_are c.copy_from_slice.ensures.after c.requires.ready

-- the new cells
new : (c : After-renew) → let a = c.args in c.renew.new.cells ≡ renewed (direction_of a.direction) a.plan a.cells.now a.flags.now
new c = let a = c.args in
    c.renew.ensures ∙ ap (λ (u : List ℕ). renewed (direction_of a.direction) a.plan u a.flags.now) c.copy_from_slice.ensures.after

pub settle_cells-requires : goal.settle_cells-requires
settle_cells-requires c = let A = c.requires in
    record { cells_len = A.ready.size; mesh_table = mesh_are (new (goal.at.settle_cells-requires c).After-renew) A.mesh; rooms = record { functions_are = A.functions_are; made_is = A.room_is; cells_small = A.ready.small } }

pub returns : goal.returns
returns c = let a = c.args in
    c.settle_cells.ensures
    ∙ ap (settle_cells a.plan a.cells.now a.functions.now a.cell_list.now a.room) (new (goal.at.returns c).After-renew)
