-- `tables::check` meets its contract. Refusals 1 to 3, then 4 to 6. Assumes nothing.
use mathlib.Core.Path.{sym, ◌∙◌}
use Rattle.refusals.proofs.Refused.{refused, handed_on}
use Rattle.mesh.proofs.Bridge.{passed}
use Rattle.tables.proofs.Calls.{check_later, check_first}
use Rattle.tables.proofs.check.Goals as goal

pub returns-in_err-refusal : goal.returns-in_err-refusal
returns-in_err-refusal c = let e = c.in_err-refusal.ensures in
    rw (handed_on _ c.from_residual.ensures.1) (e ∙ check_first _ _ _ (λ z. refused c.in_err-refusal.field-0.0 (e ∙ z)))

pub later_refusal-requires : goal.later_refusal-requires
later_refusal-requires c = let k = passed _ _ _ (sym c.in_ok-refusal.ensures) in (record { range = k.range; size = k.cells }, k.functions, k.small)

pub returns : goal.returns
returns c = c.later_refusal.ensures ∙ check_later _ _ _ (sym c.in_ok-refusal.ensures)
