-- `check_bytes` meets its contract. Assumes nothing.
use mathlib.Core.Path.{sym, ap, ◌∙◌}
use mathlib.Core.List.{List}
use Prim.Native.Nat.{ℕ, ◌≤◌}
use native.Mathlib.Omega.{arith}
use lib.ListN.{length}
use lib.Seq.{length-take-le}
use Rattle.mesh.specs.Mesh.{check}
use Rattle.planes.proofs.Refusals.{Held, held_of}
use Rattle.plane_calls.proofs.Rooms.{same_words, held_within, held_cells, cells_are}
use Rattle.plane_calls.proofs.check_bytes.Goals as goal
use Rattle.plane_calls.proofs.check_bytes.Goals.{After-cell_total-total, Start}

held : (c : Start) → let a = c.args in Held a.plan a.present.now a.refined.now a.functions.now
held c = held_of _ _ _ _ c.requires.functions_value

-- the cells lie in the room
fits : (c : After-cell_total-total) → c.cell_total-total.result ≤ length c.unpack.new.bytes
fits c = omega (arith, held_cells (held_of _ _ _ _ c.requires.functions_value), c.cell_total-total.ensures, c.unpack.auto.bytes, c.requires.bytes_len)

pub unpack-requires : goal.unpack-requires
unpack-requires c = let h = held (goal.at.unpack-requires c).Start in record { refined_len = (same_words h, c.requires.bytes_len); within = held_within h }

pub cell_total-total-requires : goal.cell_total-total-requires
cell_total-total-requires c = (held (goal.at.cell_total-total-requires c).Start).sizes.range

pub slice_bounds-check-end : goal.slice_bounds-check-end
slice_bounds-check-end c = fits (goal.at.slice_bounds-check-end c).After-cell_total-total

pub slice_bounds-check-end-2 : goal.slice_bounds-check-end-2
slice_bounds-check-end-2 c = sym (length-take-le _ _ (fits (goal.at.slice_bounds-check-end-2 c).After-cell_total-total))

pub returns-clause-number : goal.returns-clause-number
returns-clause-number c = c.check.ensures ∙ ap (λ (cs : List ℕ). check c.args.plan cs c.args.functions.now) (cells_are (held (goal.at.returns-clause-number c).Start) _ _ c.cell_total-total.ensures c.unpack.ensures)
