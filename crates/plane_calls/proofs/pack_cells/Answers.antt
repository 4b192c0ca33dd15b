-- `pack_cells` meets its contract. Assumes nothing.
use mathlib.Core.Path.{refl, ap, ◌∙◌}
use mathlib.Core.List.{List, ◌++◌}
use Prim.Native.Nat.{ℕ}
use lib.ListN.{length, drop}
use Rattle.mesh.specs.Mesh.{refined as isRefined}
use Rattle.planes.specs.Bits.{plane_of, is_present}
use Rattle.plane_calls.proofs.Rooms.{whole_present, whole_refined}
use Rattle.plane_calls.proofs.pack_cells.Goals as goal

pub returns : goal.returns
returns c = let a = c.args in
    let e = ap (λ (cs : List ℕ). cs ++ drop (length a.cells.now) a.bytes.now) c.copy_from_slice.ensures.after in
    let w = length a.present.now in
    let fits = c.requires.cells_in_bounds.0 in (
      c.pack.ensures.0 ∙ (ap (λ (bs : List ℕ). plane_of w (is_present bs)) e ∙ whole_present _ a.cells.now a.bytes.now refl fits (λ i l. c.requires.clear i) w),
      c.pack.ensures.1 ∙ (ap (λ (bs : List ℕ). plane_of w (isRefined bs)) e ∙ whole_refined _ a.cells.now a.bytes.now refl fits (λ i l. c.requires.clear i) w),
    )
