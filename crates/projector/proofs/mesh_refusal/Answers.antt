-- `mesh_refusal` meets its contract: 16 stands between 2 and 3. Assumes nothing.
use mathlib.Core.Path.{sym, ◌∙◌}
use native.Mathlib.Omega.{arith}
use Rattle.refusals.proofs.Refused.{refused, handed_on}
use Rattle.grid.proofs.Laws.{taken_range}
use Rattle.projector.proofs.Refusals.{refuse_plan, refuse_16, refuse_later}
use Rattle.projector.proofs.mesh_refusal.Goals as goal

pub returns-in_err-refusal : goal.returns-in_err-refusal
returns-in_err-refusal c = let e = c.in_err-refusal in
    rw (handed_on _ c.from_residual.ensures.1) (e.ensures ∙ refuse_plan _ _ _ (λ z. refused e.field-0.0 (e.ensures ∙ z)))

pub cell_total-requires : goal.cell_total-requires
cell_total-requires c = taken_range _ (sym c.in_ok-refusal.ensures)

pub returns-then-cell_total-gt-MOST_PROJECTED : goal.returns-then-cell_total-gt-MOST_PROJECTED
returns-then-cell_total-gt-MOST_PROJECTED c = refuse_16 _ _ _ (sym c.in_ok-refusal.ensures) (omega (arith, c.if-cell_total-gt-MOST_PROJECTED.true, c.cell_total.ensures))

pub returns : goal.returns
returns c = c.check.ensures ∙ refuse_later _ _ _ (sym c.in_ok-refusal.ensures) (omega (arith, c.if-cell_total-gt-MOST_PROJECTED.false, c.cell_total.ensures))
