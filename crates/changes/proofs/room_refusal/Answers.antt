-- `room_refusal` meets its contract: each test is one of the definition's. Assumes nothing.
use mathlib.Core.Path.{sym, ◌∙◌}
use Rattle.changes.proofs.Steps.{refuses_10, refuses_11, refuses_none}
use Rattle.changes.proofs.room_refusal.Goals as goal

pub returns-then-is_short : goal.returns-then-is_short
returns-then-is_short c = refuses_10 _ _ _ _ _ _ c.requires.cells_len (sym c.is_short.ensures ∙ c.if-is_short.true)

pub returns-then-is_short_for_labels : goal.returns-then-is_short_for_labels
returns-then-is_short_for_labels c = refuses_11 _ _ _ _ _ _ c.requires.cells_len (sym c.is_short.ensures ∙ c.if-is_short.false)
    (sym c.is_short_for_labels.ensures ∙ c.if-is_short_for_labels.true)

pub returns : goal.returns
returns c = refuses_none _ _ _ _ _ _ c.requires.cells_len (sym c.is_short.ensures ∙ c.if-is_short.false)
    (sym c.is_short_for_labels.ensures ∙ c.if-is_short_for_labels.false)
