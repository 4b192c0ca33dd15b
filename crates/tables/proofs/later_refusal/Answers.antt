-- `tables::later_refusal` meets its contract: 4 and 5, then the labels. Assumes nothing.
use mathlib.Core.Path.{sym, ◌∙◌}
use Rattle.refusals.proofs.Refused.{refused, handed_on}
use Rattle.mesh.specs.Mesh.{refusal6}
use Rattle.tables.proofs.Calls.{refuse_6, refuse_none}
use Rattle.tables.proofs.Cells.{cells_refuse, cells_pass}
use Rattle.tables.proofs.later_refusal.Goals as goal

pub returns-in_err-cells_refusal : goal.returns-in_err-cells_refusal
unfolding refusal6
returns-in_err-cells_refusal c = let e = c.in_err-cells_refusal in
    rw (handed_on _ c.from_residual.ensures.1) (e.ensures ∙ cells_refuse _ _ _ (λ z. refused e.field-0.0 (e.ensures ∙ z)))

pub is_labelled-requires : goal.is_labelled-requires
is_labelled-requires c = record { mesh_table = record { sized = c.requires.0; mesh = (cells_pass _ _ c.in_ok-cells_refusal.ensures).0 }; functions_len = (c.requires.1, c.requires.2) }

pub returns-then-not-is_labelled : goal.returns-then-not-is_labelled
returns-then-not-is_labelled c = let p = cells_pass _ _ c.in_ok-cells_refusal.ensures in refuse_6 _ _ _ p.0 p.1 (sym c.is_labelled.ensures ∙ c.if-not-is_labelled.true)

pub returns : goal.returns
returns c = let p = cells_pass _ _ c.in_ok-cells_refusal.ensures in refuse_none _ _ _ p.0 p.1 (sym c.is_labelled.ensures ∙ c.if-not-is_labelled.false)
