-- Document 01, "The walk back", on planes: a run of the plane calls, its log, and that its undo restores planes and functions. The calls,
-- their logs and their undo are those of bytes. Definitions only.
use Rattle.std.specs.Prelude.{List, [], ◌∷◌, ◌≡◌, ℕ, take}
use Rattle.grid.specs.declared.Plan.{Plan}
use Rattle.outcomes.specs.Calls.{By, outcome}
use Rattle.outcomes.specs.Runs.{LentLists, Call, Entry, final_of, log_of, backwards, undo, all_taken}
use Rattle.planes.specs.Planes.{PlanesOutcome, on_planes}

-- both planes and the functions, as a call finds or leaves them
pub record PlaneTables : Type 0 where
  pub present : List ℕ
  pub refined : List ℕ
  pub functions : List ℕ

module _ (p : Plan) where
  unfoldable pub result_on_planes : PlaneTables → Call → PlanesOutcome
  result_on_planes t a = on_planes (outcome a.direction a.by) p t.present t.refined t.functions a.marks a.room.cells a.room.functions

  unfoldable pub after_on_planes : PlaneTables → Call → PlaneTables
  after_on_planes t a = record { present = (result_on_planes t a).present; refined = (result_on_planes t a).refined; functions = (result_on_planes t a).functions }

  unfoldable pub entry_on_planes : PlaneTables → Call → Entry
  entry_on_planes t a = record {
    direction = a.direction;
    number = (result_on_planes t a).answer.number;
    cells = take (result_on_planes t a).answer.cells (result_on_planes t a).cell_list;
    functions = take (result_on_planes t a).answer.functions (result_on_planes t a).function_list;
  }

  abbrev pub final_on_planes : PlaneTables → List Call → PlaneTables
  final_on_planes = final_of after_on_planes

  abbrev pub log_on_planes : PlaneTables → List Call → List Entry
  log_on_planes = log_of after_on_planes (λ t a. entry_on_planes t a ∷ [])

pub record UndoneOnPlanes (by : By) (p : Plan) (t : PlaneTables) (run : List Call) (rooms : List LentLists) : Type 0 where
  pub named : log_on_planes p (final_on_planes p t run) (undo by (backwards (log_on_planes p t run)) rooms) ≡ all_taken (backwards (log_on_planes p t run))
  pub restored : final_on_planes p (final_on_planes p t run) (undo by (backwards (log_on_planes p t run)) rooms) ≡ t
