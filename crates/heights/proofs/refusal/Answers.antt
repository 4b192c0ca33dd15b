-- `refusal` meets its contract: 3, 14 and 15 in this order. Assumes nothing.
use mathlib.Core.Path.{◌≡◌, sym, ◌∙◌}
use lib.ListN.{length}
use Rattle.grid.specs.Plan.{function_total}
use Rattle.heights.proofs.Refusals.{few, refuse_3, refuse_14, refuse_15, refuse_none}
use Rattle.heights.proofs.refusal.Goals as goal
use Rattle.heights.proofs.refusal.Goals.{Else-heights-function_total}

pub returns-then-heights-function_total : goal.returns-then-heights-function_total
returns-then-heights-function_total c = refuse_3 _ _ _ (λ e. c.if-heights-function_total.true (e ∙ sym c.function_total.ensures))

-- the heights are as many as the functions
sized : (c : Else-heights-function_total) → length c.args.heights.now ≡ function_total c.args.plan
sized c = c.if-heights-function_total.false ∙ c.function_total.ensures

pub returns-then-inexact : goal.returns-then-inexact
returns-then-inexact c = refuse_14 _ _ _ (sized (goal.at.returns-then-inexact c).Else-heights-function_total) (sym c.inexact.ensures ∙ c.if-inexact.true)

pub all_low-requires : goal.all_low-requires
all_low-requires c = let s = c in
    record { in_range = (s.requires.0, (few _ (sym c.inexact.ensures ∙ c.if-inexact.false)).levels≤); functions_len = (s.requires.1, sized (goal.at.all_low-requires c).Else-heights-function_total) }

pub returns-then-not-all_low : goal.returns-then-not-all_low
returns-then-not-all_low c = refuse_15 _ _ _ (sized (goal.at.returns-then-not-all_low c).Else-heights-function_total) (sym c.inexact.ensures ∙ c.if-inexact.false) (sym c.all_low.ensures ∙ c.if-not-all_low.true)

pub returns : goal.returns
returns c = refuse_none _ _ _ (sized (goal.at.returns c).Else-heights-function_total) (sym c.inexact.ensures ∙ c.if-inexact.false) (sym c.all_low.ensures ∙ c.if-not-all_low.false)
