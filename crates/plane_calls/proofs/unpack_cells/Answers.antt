-- `unpack_cells` meets its contract. Assumes nothing.
use mathlib.Core.Path.{ap, ◌∙◌}
use Prim.Native.Nat.{◌*◌}
use native.Mathlib.Omega.{arith}
use lib.ListN.{length, take}
use Rattle.plane_calls.proofs.Rooms.{take_bytes}
use Rattle.plane_calls.proofs.unpack_cells.Goals as goal

pub returns : goal.returns
returns c = let a = c.args in
    c.copy_from_slice.ensures.after ∙ (ap (take (length a.cells.now)) c.unpack.ensures
    ∙ take_bytes (length a.cells.now) (64 * length a.present.now) a.present.now a.refined.now (omega (arith, c.requires.refined_len.1, c.requires.cells_in_bounds.0)))
