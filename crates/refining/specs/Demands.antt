-- What is claimed of a refinement with heights. Definitions only.
use Rattle.std.specs.Prelude.{◌≡◌, List, ◌≢◌, ℕ, T, ℤ}
use Rattle.grid.specs.declared.Plan.{Plan}
use Rattle.mesh.specs.Mesh.{check}
use Rattle.outcomes.specs.Calls.{By, cells, functions, refine, Outcome, outcome}
use Rattle.outcomes.specs.Runs.{Tables, LentLists, backwards, LongEnough, covered}
use Rattle.heights.specs.Heights.{answer}
use Rattle.refining.specs.Refining.{tables_refusal, WithHeights, refused_with, outcome_with_heights}
use Rattle.refining.specs.Seasons.{SeasonCall, log_of, SeasonUndone, FunctionSeason}

module _ (by : By) (p : Plan) (cs fs : List ℕ) (hs : List ℤ) (marks cl fl : List ℕ) where
  abbrev pub without : Outcome
  without = outcome refine by p cs fs marks cl fl

  abbrev pub result : WithHeights
  result = outcome_with_heights by p cs fs hs marks cl fl

  abbrev pub number : ℕ
  number = result.outcome.answer.number

  pub record Shaped : Type 0 where
    -- "Every point that Req 03 accepts has the same height after as before", as floats; every other gets the same refusal
    pub kept : number ≡ 0 → (x y : ℕ) → answer p result.outcome.cells result.outcome.functions result.heights x y ≡ answer p cs fs hs x y
    -- number, lengths, tables and lists of an accepted call are those of the call without heights
    pub same : number ≡ 0 → result.outcome ≡ without
    -- what the call without heights refuses is refused, with its number unless the heights are refused first
    pub refusals : tables_refusal p cs fs hs ≡ 0 → without.answer.number ≢ 0 → result.outcome ≡ without
    -- a refusal keeps everything
    pub nothing : number ≢ 0 → result ≡ refused_with number cs fs hs cl fl

pub record Demands : Type 0 where
  pub shaped : (by : By) (p : Plan) (cs fs : List ℕ) (hs : List ℤ) (marks cl fl : List ℕ) → Shaped by p cs fs hs marks cl fl
  -- the mission's demand 3, of seasons: for every wall that check passes and every run of calls, with heights or without, refused ones
  -- included, "after the whole run its own cell lists walk it back"
  pub undone_by_cells : (p : Plan) (t : Tables) (season : List SeasonCall) (rooms : List LentLists) → check p t.cells t.functions ≡ 0
      → LongEnough (backwards (log_of p t season)) rooms → SeasonUndone cells p t season rooms
  -- "And in class 0, for every run of splits by functions, .. its own function lists"
  pub undone_by_functions : (p : Plan) → p.class ≡ 0 → (t : Tables) (season : List SeasonCall) (rooms : List LentLists)
      → check p t.cells t.functions ≡ 0 → T (covered p t.cells t.functions) → FunctionSeason season
      → LongEnough (backwards (log_of p t season)) rooms → SeasonUndone functions p t season rooms
