-- `write` meets its contract. Assumes nothing.
use mathlib.Core.Path.{sym, ◌∙◌}
use Rattle.refusals.proofs.Refused.{refused, handed_on}
use Rattle.files.specs.File.{unwritten}
use Rattle.files.proofs.Writing.{unchecked, checked, mesh_checked}
use Rattle.files.proofs.write.Goals as goal

pub returns-in_err-check : goal.returns-in_err-check
unfolding unwritten
returns-in_err-check c = let e = c.in_err-check in
    rw (handed_on _ c.from_residual.ensures.1) (unchecked _ _ _ _ e.ensures (refused e.field-0.0))

pub write_mesh-requires : goal.write_mesh-requires
write_mesh-requires c = mesh_checked _ _ _ (sym c.in_ok-check.ensures)

pub returns : goal.returns
returns c = c.write_mesh.ensures ∙ checked _ _ _ _ (sym c.in_ok-check.ensures)
