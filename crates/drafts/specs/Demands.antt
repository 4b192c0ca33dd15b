-- What is claimed of drafts. Definitions only.
use Rattle.std.specs.Prelude.{false, List, ◌≢◌, ◌≡◌, ℕ, T, ℤ}
use Rattle.facts.specs.Numbers.{first}
use Rattle.grid.specs.declared.Plan.{Plan}
use Rattle.mesh.specs.Mesh.{check}
use Rattle.outcomes.specs.Calls.{Direction, refine, By, cells, functions, mark_refusal, refused, outcome}
use Rattle.outcomes.specs.Runs.{LentLists, backwards, LongEnough, covered}
use Rattle.refining.specs.Refining.{outcome_with_heights}
use Rattle.refining.specs.Seasons.{SeasonCall}
use Rattle.drafts.specs.declared.Draft.{Draft}
use Rattle.drafts.specs.Drafts.{is_open, no_draft, marks_of, outcome_with_draft, outcome_with_heights_and_draft}
use Rattle.drafts.specs.Seasons.{State, DraftCall, opening, dropping, changed, closed, added, leave, final_state, state_log, DraftSeasonUndone, FunctionDraftSeason, Meanwhile, collected}

-- the tables pass
abbrev pub Passes : Plan → State → Type 0
Passes p s = check p s.tables.cells s.tables.functions ≡ 0

-- a draft is open
abbrev pub Open : State → Type 0
Open s = T (is_open s.draft s.list)

-- a draft that is opened on s, and the calls until it is closed or dropped
module _ (p : Plan) (s : State) (calls : List DraftCall) where
  abbrev pub opened : State
  opened = leave p s opening

  abbrev pub full : State
  full = final_state p opened calls

  pub record Filled : Type 0 where
    -- the tables are as they were
    pub still : full.tables ≡ s.tables
    -- the draft is open and has the marks of the accepted adds, in their order
    pub remains : Open full
    pub marks : marks_of full.draft full.list ≡ collected p opened calls
    -- none of 7 to 9 is due for them, so closing it is refused with 10 or 11, or not at all
    pub judged : first (mark_refusal refine cells p s.tables.cells s.tables.functions) (collected p opened calls) ≡ 0
    -- closed, it is one split by cells with these marks, in every byte
    pub as_one : (room : LentLists) → (closed p full room).outcome
        ≡ outcome refine cells p s.tables.cells s.tables.functions (collected p opened calls) room.cells room.functions
    -- dropped, it leaves every table as it was, and no draft
    pub dropped : leave p full dropping ≡ record { tables = s.tables; draft = no_draft; list = full.list }

pub record Demands : Type 0 where
  -- the mission's demand 3, of seasons with drafts: whatever the calls, their marks, drafts, lists and heights, refused ones included
  pub undone_by_cells : (p : Plan) (s : State) (calls : List DraftCall) (rooms : List LentLists) → Passes p s
      → LongEnough (backwards (state_log p s calls)) rooms → DraftSeasonUndone cells p s calls rooms
  -- and in class 0, of splits by functions, by its own function lists
  pub undone_by_functions : (p : Plan) → p.class ≡ 0 → (s : State) (calls : List DraftCall) (rooms : List LentLists) → Passes p s
      → T (covered p s.tables.cells s.tables.functions) → FunctionDraftSeason calls
      → LongEnough (backwards (state_log p s calls)) rooms → DraftSeasonUndone functions p s calls rooms
  -- a draft that is opened where none was, whatever is called until it is closed or dropped
  pub filled : (p : Plan) (s : State) (calls : List DraftCall) → Passes p s → is_open s.draft s.list ≡ false → Meanwhile calls → Filled p s calls
  -- with none open, the calls with a draft are the calls without one
  pub without : (way : Direction) (by : By) (p : Plan) (cs fs : List ℕ) (d : Draft) (dl marks cl fl : List ℕ) → is_open d dl ≡ false
      → outcome_with_draft way by p cs fs d dl marks cl fl ≡ outcome way by p cs fs marks cl fl
  pub without_but_heights : (by : By) (p : Plan) (cs fs : List ℕ) (hs : List ℤ) (d : Draft) (dl marks cl fl : List ℕ) → is_open d dl ≡ false
      → outcome_with_heights_and_draft by p cs fs hs d dl marks cl fl ≡ outcome_with_heights by p cs fs hs marks cl fl
  -- while one is open, each split and join is refused with 18 where 1 to 6 do not refuse it
  pub guarded : (p : Plan) (s : State) → Passes p s → Open s → (a : SeasonCall) → (changed p s a).answer.number ≡ 18
  -- a refused add or close leaves everything as it was, the draft too
  pub refused_add : (p : Plan) (s : State) (marks : List ℕ) → (added p s marks).answer.number ≢ 0
      → added p s marks ≡ record { answer = record { number = (added p s marks).answer.number; draft = s.draft }; list = s.list }
  pub refused_close : (p : Plan) (s : State) (room : LentLists) → (closed p s room).outcome.answer.number ≢ 0
      → closed p s room ≡ record { outcome = refused (closed p s room).outcome.answer.number s.tables.cells s.tables.functions room.cells room.functions; draft = s.draft }
  -- an accepted close leaves no draft
  pub closed_ends : (p : Plan) (s : State) (room : LentLists) → (closed p s room).outcome.answer.number ≡ 0 → (closed p s room).draft ≡ no_draft
