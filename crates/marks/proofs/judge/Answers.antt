-- `judge` meets its contract. The invariant: the marks passed are not refused. Assumes nothing.
use mathlib.Core.Path.{sym, ◌∙◌}
use native.Mathlib.Omega.{arith}
use Rattle.refusals.proofs.Refused.{refused, handed_on}
use Rattle.facts.proofs.Turns.{first_end, first_skip, first_stop}
use Rattle.marks.specs.Marks.{verdict}
use Rattle.marks.proofs.judge.Goals as goal

pub returns-in_err-verdict_of : goal.returns-in_err-verdict_of
returns-in_err-verdict_of c = let e = c.in_err-verdict_of in
    rw (handed_on _ c.from_residual.ensures.1)
    (e.ensures ∙ sym (c.loop-mark.invariant ∙ first_stop (verdict c.args.kinds.now c.args.deep) c.args.marks.now c.loop-mark.mark-index (omega arith) (λ z. refused e.field-0.0 (e.ensures ∙ z))))

pub loop-mark-preserved : goal.loop-mark-preserved
loop-mark-preserved c = let a = c.args in
    let at = c.loop-mark in
    at.invariant ∙ first_skip (verdict a.kinds.now a.deep) a.marks.now at.mark-index (omega arith) (sym c.in_ok-verdict_of.ensures)

pub returns : goal.returns
returns c = let a = c.args in
    sym (c.loop-mark.invariant ∙ first_end (verdict a.kinds.now a.deep) a.marks.now c.loop-mark.mark-index (omega arith))
