-- What C gets of a call on a draft d: 0 or a refusal, and the draft after it. Definitions only.
use Rattle.std.specs.Prelude.{Result, Ok, Err}
use Rattle.refusals.specs.declared.Refusal.{Refusal}
use Rattle.refusals.specs.Numbers.{number_of}
use Rattle.outcomes.specs.declared.Changes.{Changes}
use Rattle.outcomes.specs.Answers.{answer_of}
use Rattle.drafts.specs.declared.Draft.{Draft}
use Rattle.drafts.specs.declared.DraftAnswer.{DraftAnswer}
use Rattle.drafts.specs.declared.CloseAnswer.{CloseAnswer}
use Rattle.drafts.specs.declared.ReadWithDraftAnswer.{ReadWithDraftAnswer}
use Rattle.drafts.specs.Drafts.{ended_by}
use Rattle.grid.specs.declared.Plan.{Plan}
use Rattle.files.specs.declared.ReadRefusal.{ReadRefusal}
use Rattle.files.specs.Answers.{read_answer_of}

-- the one that the call makes, or, refused, the one of before
abbrev pub draft_after : Draft → Result Draft Refusal → Draft
draft_after d (Ok made) = made
draft_after d (Err r) = d

abbrev pub answered : Draft → Result Draft Refusal → DraftAnswer
answered d r = record { number = number_of r; draft = draft_after d r }

-- the same of closing, which answers as a refinement does, and ends the draft
abbrev pub closed_as : Draft → Result Changes Refusal → CloseAnswer
closed_as d r = record { answer = answer_of r; draft = ended_by (answer_of r).number d }

-- the same of reading a mesh
abbrev pub read_as : Draft → Result Plan ReadRefusal → ReadWithDraftAnswer
read_as d r = record { answer = read_answer_of r; draft = ended_by (read_answer_of r).number d }
