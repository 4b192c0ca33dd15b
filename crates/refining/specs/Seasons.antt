-- A season: a run in which refinements may have heights. Req 08: "nor do the opposite calls of the walk back" carry heights, "which still
-- concerns the two tables and the two lists only". Definitions only.
use Rattle.std.specs.Prelude.{List, [], ◌∷◌, ℕ, ℤ}
use Rattle.grid.specs.declared.Plan.{Plan}
use Rattle.outcomes.specs.Calls.{Direction, refine, By, functions, Outcome}
use Rattle.outcomes.specs.Runs.{Tables, LentLists, Call, Entry, leaving, keeping, result, WalkedBack}
use Rattle.outcomes.specs.Runs as runs
use Rattle.refining.specs.Refining.{outcome_with_heights}

pub data SeasonCall : Type 0 where
  -- a call without heights
  plain : Call → SeasonCall
  -- a refinement with heights: any, since the caller may change them between two calls
  carrying : By → List ℤ → List ℕ → LentLists → SeasonCall

unfoldable pub direction_of : SeasonCall → Direction
direction_of (plain a) = a.direction
direction_of (carrying by hs marks room) = refine

module _ (p : Plan) where
  unfoldable pub result_of : Tables → SeasonCall → Outcome
  result_of t (plain a) = result p t a
  result_of t (carrying by hs marks room) =
      (outcome_with_heights by p t.cells t.functions hs marks room.cells room.functions).outcome

  -- the tables as the call leaves them, what is kept of it, a whole season and its log: as of a run
  unfoldable pub after_it : Tables → SeasonCall → Tables
  after_it t a = leaving (result_of t a)

  unfoldable pub entry_of : Tables → SeasonCall → Entry
  entry_of t a = keeping (direction_of a) (result_of t a)

  abbrev pub final_of : Tables → List SeasonCall → Tables
  final_of = runs.final_of after_it

  abbrev pub log_of : Tables → List SeasonCall → List Entry
  log_of = runs.log_of after_it (λ t a. entry_of t a ∷ [])

-- the undo of the season's log, by calls without heights, its marks cells or functions: every one is accepted and names the same cells and
-- functions as the call that it takes back, and both tables end as they began
abbrev pub SeasonUndone : By → Plan → Tables → List SeasonCall → List LentLists → Type 0
SeasonUndone by p t season rooms = WalkedBack by p t (final_of p t season) (log_of p t season) rooms

-- "runs of splits by functions alone", each with heights or without
pub data FunctionSeason : List SeasonCall → Type 0 where
  over : FunctionSeason []
  refines : {marks : List ℕ} {room : LentLists} {rest : List SeasonCall}
      → FunctionSeason rest → FunctionSeason (plain (record { direction = refine; by = functions; marks = marks; room = room }) ∷ rest)
  refines_carrying : {hs : List ℤ} {marks : List ℕ} {room : LentLists} {rest : List SeasonCall}
      → FunctionSeason rest → FunctionSeason (carrying functions hs marks room ∷ rest)
