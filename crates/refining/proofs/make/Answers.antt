-- `make` meets its contract: the flags of the marks make the new cells, and these the new functions. Assumes nothing.
use mathlib.Core.Path.{refl, sym, ◌∙◌}
use Rattle.refusals.proofs.Refused.{refused, handed_on}
use native.Mathlib.Omega.{arith}
use Rattle.facts.proofs.Zeros.{zeros, part_length}
use Rattle.grid.specs.Bounds.{most_cells}
use Rattle.mesh.proofs.Bridge.{Passed, check_passed}
use Rattle.nesting.specs.Table.{MeshTable}
use Rattle.calls.specs.Parts.{by_of}
use Rattle.refining.proofs.Making.{made_marks, renewable, new_mesh, made_rooms}
use Rattle.refining.proofs.make.Goals as goal
use Rattle.refining.proofs.make.Goals.{After-renew, After-shared_slice_known-1}

passed : (c : After-shared_slice_known-1) → let a = c.args in Passed a.plan a.cells.now a.functions.now
passed c = check_passed _ _ _ c.requires.functions_value

pub cell_total-total-requires : goal.cell_total-total-requires
cell_total-total-requires c = (passed (goal.at.cell_total-total-requires c).After-shared_slice_known-1).range

pub slice_bounds-room-end : goal.slice_bounds-room-end
slice_bounds-room-end c = omega (arith, (passed (goal.at.slice_bounds-room-end c).After-shared_slice_known-1).small)

pub slice_bounds-flags-end : goal.slice_bounds-flags-end
slice_bounds-flags-end c = zeros most_cells c.cell_total-total.result (omega (arith, (passed (goal.at.slice_bounds-flags-end c).After-shared_slice_known-1).small))

pub flag_marks-requires : goal.flag_marks-requires
flag_marks-requires c = let s = c in
    record { functions_value = s.requires.functions_value; scratch = record { flags_are = part_length most_cells _ c.cell_total-total.ensures (passed (goal.at.flag_marks-requires c).After-shared_slice_known-1).small; values_are = s.requires.new_cells_len.1 } }

pub returns-in_err-flag_marks : goal.returns-in_err-flag_marks
returns-in_err-flag_marks c = let s = c in
    let e = c.in_err-flag_marks in
    rw (handed_on _ c.from_residual.ensures.1) (made_marks (by_of s.args.by) _ _ _ _ s.requires.functions_value _ _ e.ensures.number (refused e.field-0.0))

pub copy_bytes-requires : goal.copy_bytes-requires
copy_bytes-requires c = let s = c in s.requires.new_cells_len.0 ∙ sym (passed (goal.at.copy_bytes-requires c).After-shared_slice_known-1).cells

pub renew-requires : goal.renew-requires
renew-requires c = let s = c in renewable (by_of s.args.by) _ _ _ _ s.requires.functions_value 0 0 c.in_ok-flag_marks.ensures refl c.copy_bytes.ensures

mesh : (c : After-renew) → MeshTable c.args.plan c.renew.new.cells
mesh c = let s = c in
    new_mesh (by_of s.args.by) _ _ _ _ s.requires.functions_value 0 0 c.in_ok-flag_marks.ensures refl c.copy_bytes.ensures c.renew.ensures

pub room_refusal-requires : goal.room_refusal-requires
room_refusal-requires c = let s = c in record { cells_len = (passed (goal.at.room_refusal-requires c).After-shared_slice_known-1).cells; mesh_table = mesh (goal.at.room_refusal-requires c).After-renew; rooms = record { functions_are = (passed (goal.at.room_refusal-requires c).After-shared_slice_known-1).functions; made_is = c.flag_marks.auto.values ∙ s.requires.new_cells_len.1; cells_small = (passed (goal.at.room_refusal-requires c).After-shared_slice_known-1).small } }

pub returns-in_err-room_refusal : goal.returns-in_err-room_refusal
returns-in_err-room_refusal c = let s = c in
    let e = c.in_err-room_refusal in
    rw (handed_on _ c.from_residual-in_err-room_refusal.ensures.1)
    (made_rooms (by_of s.args.by) _ _ _ _ s.requires.functions_value _ _ c.in_ok-flag_marks.ensures refl c.copy_bytes.ensures c.renew.ensures e.ensures (λ z. absurd (refused e.field-0.0 z)))

pub write_labels-requires : goal.write_labels-requires
write_labels-requires c = let s = c in
    record { mesh_table = mesh (goal.at.write_labels-requires c).After-renew; out_len = (c.room_refusal.auto.made ∙ c.flag_marks.auto.values ∙ s.requires.new_cells_len.1, (passed (goal.at.write_labels-requires c).After-shared_slice_known-1).small) }

pub returns : goal.returns
returns c = let s = c in
    made_rooms (by_of s.args.by) _ _ _ _ s.requires.functions_value _ _ c.in_ok-flag_marks.ensures refl c.copy_bytes.ensures c.renew.ensures c.in_ok-room_refusal.ensures (λ z. c.write_labels.ensures)
