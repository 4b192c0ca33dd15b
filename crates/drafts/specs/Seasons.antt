-- A season (crate refining) with calls on a draft anywhere in it. Definitions only.
use Rattle.std.specs.Prelude.{List, [], ◌∷◌, ◌++◌, cond, ℕ, eqb, ℤ}
use Rattle.grid.specs.declared.Plan.{Plan}
use Rattle.outcomes.specs.Calls.{refine, By, functions, Outcome}
use Rattle.outcomes.specs.Runs.{Tables, LentLists, Entry, leaving, keeping, WalkedBack}
use Rattle.outcomes.specs.Runs as runs
use Rattle.refining.specs.Seasons.{SeasonCall, plain, carrying, direction_of}
use Rattle.drafts.specs.declared.Draft.{Draft}
use Rattle.drafts.specs.Drafts.{open_draft, drop_draft, Added, add_marks, Closed, close_draft, outcome_with_draft, outcome_with_heights_and_draft}

-- what the calls find and leave: both tables, the draft, and the list with its marks
pub record State : Type 0 where
  pub tables : Tables
  pub draft : Draft
  pub list : List ℕ

pub data DraftCall : Type 0 where
  -- a split or a join, with heights or without, in its form with a draft
  changing : SeasonCall → DraftCall
  -- the four calls on the draft
  opening : DraftCall
  adding : List ℕ → DraftCall
  closing : LentLists → DraftCall
  dropping : DraftCall
  -- no call: the caller puts another draft and another list in their place, of any numbers
  writing : Draft → List ℕ → DraftCall

module _ (p : Plan) (s : State) where
  unfoldable pub changed : SeasonCall → Outcome
  changed (plain a) = outcome_with_draft a.direction a.by p s.tables.cells s.tables.functions s.draft s.list a.marks a.room.cells a.room.functions
  changed (carrying by hs marks room) = (outcome_with_heights_and_draft by p s.tables.cells s.tables.functions hs s.draft s.list marks room.cells room.functions).outcome

  unfoldable pub added : List ℕ → Added
  added marks = add_marks p s.tables.cells s.tables.functions s.draft s.list marks

  unfoldable pub closed : LentLists → Closed
  closed room = close_draft p s.tables.cells s.tables.functions s.draft s.list room.cells room.functions

  -- what a call leaves
  unfoldable pub leave : DraftCall → State
  leave (changing a) = record { tables = leaving (changed a); draft = s.draft; list = s.list }
  leave opening = record { tables = s.tables; draft = (open_draft p s.tables.cells s.tables.functions s.draft s.list).draft; list = s.list }
  leave (adding marks) = record { tables = s.tables; draft = (added marks).answer.draft; list = (added marks).list }
  leave (closing room) = record { tables = leaving (closed room).outcome; draft = (closed room).draft; list = s.list }
  leave dropping = record { tables = s.tables; draft = (drop_draft p s.tables.cells s.tables.functions s.draft s.list).draft; list = s.list }
  leave (writing d dl) = record { tables = s.tables; draft = d; list = dl }

  -- what is kept of it: an entry for a split, a join and a close, "Walking back treats a closed draft as that one split", refused or not;
  -- nothing of what only touches the draft
  unfoldable pub keep : DraftCall → List Entry
  keep (changing a) = keeping (direction_of a) (changed a) ∷ []
  keep (closing room) = keeping refine (closed room).outcome ∷ []
  keep opening = []
  keep (adding marks) = []
  keep dropping = []
  keep (writing d dl) = []

module _ (p : Plan) where
  abbrev pub final_state : State → List DraftCall → State
  final_state = runs.final_of (leave p)

  abbrev pub state_log : State → List DraftCall → List Entry
  state_log = runs.log_of (leave p) (keep p)

-- the log, given last first to the opposite calls; walking back "begins with no draft open": these are the calls without a draft
abbrev pub DraftSeasonUndone : By → Plan → State → List DraftCall → List LentLists → Type 0
DraftSeasonUndone by p s calls rooms = WalkedBack by p s.tables (final_state p s calls).tables (state_log p s calls) rooms

-- "runs of splits by functions alone", each with heights or without. A draft may be opened, filled, dropped and written, but not closed, which
-- is a split by cells
pub data FunctionDraftSeason : List DraftCall → Type 0 where
  over : FunctionDraftSeason []
  refines : {marks : List ℕ} {room : LentLists} {rest : List DraftCall}
      → FunctionDraftSeason rest → FunctionDraftSeason (changing (plain (record { direction = refine; by = functions; marks = marks; room = room })) ∷ rest)
  refines_carrying : {hs : List ℤ} {marks : List ℕ} {room : LentLists} {rest : List DraftCall}
      → FunctionDraftSeason rest → FunctionDraftSeason (changing (carrying functions hs marks room) ∷ rest)
  opens : {rest : List DraftCall} → FunctionDraftSeason rest → FunctionDraftSeason (opening ∷ rest)
  adds : {marks : List ℕ} {rest : List DraftCall} → FunctionDraftSeason rest → FunctionDraftSeason (adding marks ∷ rest)
  drops : {rest : List DraftCall} → FunctionDraftSeason rest → FunctionDraftSeason (dropping ∷ rest)
  writes : {d : Draft} {dl : List ℕ} {rest : List DraftCall} → FunctionDraftSeason rest → FunctionDraftSeason (writing d dl ∷ rest)

-- ---- between opening a draft and closing or dropping it

-- splits and joins, second drafts and adds, accepted or refused
pub data Meanwhile : List DraftCall → Type 0 where
  ended : Meanwhile []
  changes : {a : SeasonCall} {rest : List DraftCall} → Meanwhile rest → Meanwhile (changing a ∷ rest)
  opens : {rest : List DraftCall} → Meanwhile rest → Meanwhile (opening ∷ rest)
  adds : {marks : List ℕ} {rest : List DraftCall} → Meanwhile rest → Meanwhile (adding marks ∷ rest)

-- the marks of a call that is an accepted add
unfoldable pub new_marks : Plan → State → DraftCall → List ℕ
new_marks p s (adding marks) = cond (eqb (added p s marks).answer.number 0) marks []
new_marks p s (changing a) = []
new_marks p s opening = []
new_marks p s (closing room) = []
new_marks p s dropping = []
new_marks p s (writing d dl) = []

-- those of a run, in its order
unfoldable pub collected : Plan → State → List DraftCall → List ℕ
collected p s [] = []
collected p s (a ∷ rest) = new_marks p s a ++ collected p (leave p s a) rest
