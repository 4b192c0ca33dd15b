-- `open` meets its contract. Nothing is written before the refusals are decided. Assumes nothing.
use mathlib.Core.Path.{sym}
use Rattle.refusals.proofs.Refused.{refused, handed_on}
use Rattle.plane_calls.proofs.Opened.{unopened_planes, sizes, few_present, few_refined, labels_fit, opened_planes}
use Rattle.plane_calls.proofs.open.Goals as goal

pub returns-in_err-refusal : goal.returns-in_err-refusal
returns-in_err-refusal c = rw (handed_on _ c.from_residual.ensures.1) (unopened_planes _ _ _ _ c.in_err-refusal.ensures (refused c.in_err-refusal.field-0.0))

pub cell_offset-requires : goal.cell_offset-requires
cell_offset-requires c = let r = (sizes _ _ _ _ (sym c.in_ok-refusal.ensures)).0.range in record { in_range = r; level_le_levels = r.levels≥ }

pub fresh-requires : goal.fresh-requires
fresh-requires c = few_present _ _ _ _ (sym c.in_ok-refusal.ensures)

pub fresh-requires-2 : goal.fresh-requires-2
fresh-requires-2 c = few_refined _ _ _ _ (sym c.in_ok-refusal.ensures)

pub function_offset-requires : goal.function_offset-requires
function_offset-requires c = let r = (sizes _ _ _ _ (sym c.in_ok-refusal.ensures)).0.range in record { in_range = r; level_le_levels = r.levels≥ }

pub fresh-requires-3 : goal.fresh-requires-3
fresh-requires-3 c = rw c.function_offset.ensures (labels_fit _ _ _ _ (sym c.in_ok-refusal.ensures))

pub returns : goal.returns
returns c = opened_planes _ _ _ _ (sym c.in_ok-refusal.ensures) _ c.cell_offset.ensures c.fresh.ensures c.fresh-2.ensures c.function_offset.ensures c.fresh-3.ensures
