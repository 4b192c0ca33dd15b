-- `plane_calls::planes_refusal` meets its contract. Each way by the tests that led there. Assumes nothing.
use mathlib.Core.Path.{sym, ◌∙◌}
use Rattle.refusals.proofs.Refused.{refused, handed_on}
use Rattle.grid.proofs.Laws.{taken_range}
use Rattle.planes.proofs.Refusals.{size_plan, size_3, size_0, not_present, not_refined, both_sized}
use Rattle.plane_calls.proofs.planes_refusal.Goals as goal
use Rattle.plane_calls.proofs.planes_refusal.Goals.{then-present-words-via-then-present-words, then-present-words-via-else-present-words+then-refined-words}

pub returns-in_err-refusal : goal.returns-in_err-refusal
returns-in_err-refusal c = rw (handed_on _ c.from_residual.ensures.1) (size_plan _ _ c.in_err-refusal.ensures (refused c.in_err-refusal.field-0.0))

pub word_count-words-requires : goal.word_count-words-requires
word_count-words-requires c = taken_range _ (sym c.in_ok-refusal.ensures)

pub returns-then-present-words : goal.returns-then-present-words
returns-then-present-words c = let n = c.word_count-words.ensures in
    size_3 _ _ (sym c.in_ok-refusal.ensures)
    (elim c.then-present-words.branch [
      | then-present-words-via-then-present-words w ↦ not_present _ _ _ (λ e. w.if-present-words.true (e ∙ sym n))
      | then-present-words-via-else-present-words+then-refined-words w ↦ not_refined _ _ _ (w.if-present-words.false ∙ n) (λ e. w.if-refined-words.true (e ∙ sym n))
    ])

pub returns : goal.returns
returns c = let n = c.word_count-words.ensures in
    size_0 _ _ (sym c.in_ok-refusal.ensures) (both_sized _ _ _ (c.if-present-words.false ∙ n) (c.if-refined-words.false ∙ n))
