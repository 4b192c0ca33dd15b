-- `close_cell` meets its contract. Assumes nothing.
use mathlib.Core.Path.{sym, ◌∙◌}
use native.Mathlib.Omega.{arith}
use borrow.Author.Tests.{eq-eqb, ne_eqb}
use Rattle.closure.specs.Walk.{told}
use Rattle.closure.proofs.Becoming.{stays, same}
use Rattle.closure.proofs.Model.{close_settled, close_open}
use Rattle.closure.proofs.Table.close_cell.Goals as goal

pub returns-then-least_near-eq2 : goal.returns-then-least_near-eq2
unfolding told
returns-then-least_near-eq2 c = stays (close_settled _ _ _ _ (eq-eqb _ _ (sym c.least_near.ensures ∙ c.if-least_near-eq2.true)))

pub returns : goal.returns
unfolding told
returns c = let a = c.args in
    let t = a.self.now in
    same (c.refine_neighbourhood.ensures t.plan.levels (omega (arith, c.requires.level_bound)))
    (close_open _ _ _ _ (ne_eqb _ _ (λ e. c.if-least_near-eq2.false (c.least_near.ensures ∙ e))))
