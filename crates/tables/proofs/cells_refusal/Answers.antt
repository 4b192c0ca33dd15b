-- `tables::cells_refusal` meets its contract. Assumes nothing.
use mathlib.Core.Path.{sym, ◌∙◌}
use Rattle.tables.proofs.cells_refusal.Goals as goal

pub is_admissible-requires : goal.is_admissible-requires
is_admissible-requires c = (record { sized = c.requires.0; mesh = (sym c.is_mesh.ensures ∙ c.if-not-is_mesh.false) }, c.requires.1)

pub returns-then-not-is_mesh : goal.returns-then-not-is_mesh
returns-then-not-is_mesh c = rw (sym c.is_mesh.ensures ∙ c.if-not-is_mesh.true)

pub returns-then-not-is_admissible : goal.returns-then-not-is_admissible
returns-then-not-is_admissible c = rw (sym c.is_mesh.ensures ∙ c.if-not-is_mesh.false, sym c.is_admissible.ensures ∙ c.if-not-is_admissible.true)

pub returns : goal.returns
returns c = rw (sym c.is_mesh.ensures ∙ c.if-not-is_mesh.false, sym c.is_admissible.ensures ∙ c.if-not-is_admissible.false)
