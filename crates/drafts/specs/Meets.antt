-- How the contracts are said. Definitions only.
use Rattle.std.specs.Prelude.{List, ◌≡◌, ℕ, ℤ}
use Rattle.outcomes.specs.declared.Answer.{Answer}
use Rattle.outcomes.specs.Calls.{Outcome}
use Rattle.outcomes.specs.Meets.{Lent, Seen, left}
use Rattle.refining.specs.Refining.{WithHeights}
use Rattle.refining.specs.Steps.{LentHeights, left_with_heights}
use Rattle.drafts.specs.declared.Draft.{Draft}
use Rattle.drafts.specs.declared.DraftAnswer.{DraftAnswer}
use Rattle.drafts.specs.declared.CloseAnswer.{CloseAnswer}
use Rattle.drafts.specs.Drafts.{Added, Closed}

abbrev pub left_by_add : DraftAnswer → Lent → Added
left_by_add r list = record { answer = r; list = list.exit.now }

abbrev pub left_by_close : CloseAnswer → Lent → Lent → Lent → Lent → Closed
left_by_close r cells functions cell_list function_list = record { outcome = left r.answer cells functions cell_list function_list; draft = r.draft }

-- the outcome is what the call, a definition, makes of the tables, draft, its list, marks and lists that the function finds
abbrev pub MeetsWithDraft : (List ℕ → List ℕ → Draft → List ℕ → List ℕ → List ℕ → List ℕ → Outcome) → Draft → List ℕ → Answer → Lent → Lent → Seen → Lent → Lent → Type 0
MeetsWithDraft call d dl r cells functions marks cell_list function_list =
    left r cells functions cell_list function_list
    ≡ call cells.entry.now functions.entry.now d dl marks.entry.now cell_list.entry.now function_list.entry.now

abbrev pub MeetsWithHeightsAndDraft : (List ℕ → List ℕ → List ℤ → Draft → List ℕ → List ℕ → List ℕ → List ℕ → WithHeights) → Draft → List ℕ → Answer → Lent → Lent → LentHeights → Seen → Lent → Lent → Type 0
MeetsWithHeightsAndDraft call d dl r cells functions heights marks cell_list function_list =
    left_with_heights r cells functions heights cell_list function_list
    ≡ call cells.entry.now functions.entry.now heights.entry.now d dl marks.entry.now cell_list.entry.now function_list.entry.now
