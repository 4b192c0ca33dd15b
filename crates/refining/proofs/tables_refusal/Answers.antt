-- `tables_refusal` meets its contract: the heights are judged where the tables pass. Assumes nothing.
use mathlib.Core.Path.{sym}
use Rattle.refusals.proofs.Refused.{refused, handed_on}
use Rattle.mesh.proofs.Bridge.{check_passed}
use Rattle.refining.proofs.Outcomes.{tables_check, tables_heights}
use Rattle.refining.proofs.tables_refusal.Goals as goal

pub returns-in_err-check : goal.returns-in_err-check
returns-in_err-check c = let e = c.in_err-check in rw (handed_on _ c.from_residual.ensures.1) (tables_check _ _ _ _ e.ensures (refused e.field-0.0))

pub refusal-requires : goal.refusal-requires
refusal-requires c = let k = check_passed _ _ _ (sym c.in_ok-check.ensures) in (k.range, k.functions)

pub returns : goal.returns
returns c = tables_heights _ _ _ _ (sym c.in_ok-check.ensures) c.refusal.ensures
