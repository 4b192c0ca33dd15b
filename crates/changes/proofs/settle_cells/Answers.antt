-- `settle_cells` meets its contract: where no list is too short, the cells take over the new bytes. Assumes nothing.
use mathlib.Core.Path.{refl, sym, ◌∙◌}
use native.Mathlib.Omega.{arith}
use Rattle.refusals.proofs.Refused.{refused, handed_on}
use Rattle.changes.proofs.Steps.{stops, cell_room_lem, ends}
use Rattle.changes.proofs.settle_cells.Goals as goal

pub returns-in_err-room_refusal : goal.returns-in_err-room_refusal
returns-in_err-room_refusal c = let e = c.in_err-room_refusal in
    rw (handed_on _ c.from_residual.ensures.1) (stops _ _ _ _ _ _ e.ensures (refused e.field-0.0) refl)

pub take_over-requires : goal.take_over-requires
take_over-requires c = let s = c in
    record {
      same = s.requires.cells_len ∙ sym s.requires.mesh_table.sized.size;
      small = omega (arith, s.requires.cells_len, s.requires.rooms.cells_small);
      room = cell_room_lem s.args.plan s.args.cells.now s.args.functions.now s.args.cell_list.now s.args.room s.args.new_cells.now c.in_ok-room_refusal.ensures s.requires.cells_len refl;
    }

pub returns : goal.returns
returns c = let t = c.take_over.ensures in
    ends _ _ _ _ _ _ c.in_ok-room_refusal.ensures c.requires.cells_len refl t.count t.bytes t.listed
