-- A season is undone as a run is: a refinement with heights is refused, or leaves what the call without them leaves. Assumes nothing.
use mathlib.Core.Bool.{true}
use mathlib.Core.List.{List, [], ◌∷◌}
use mathlib.Core.Path.{◌≡◌, sym, ap, subst}
use Prim.Native.Nat.{ℕ}
use lib.Dec.{T, eqb, eqb→eq}
use lib.IntN.{ℤ}
use Rattle.facts.proofs.Tests.{cases, differ}
use Rattle.grid.specs.declared.Plan.{Plan}
use Rattle.mesh.specs.Mesh.{check}
use Rattle.outcomes.specs.Calls.{refine, By, cells, functions, Outcome, refused}
use Rattle.outcomes.specs.Runs.{Tables, LentLists, Call, leaving, result, after, backwards, LongEnough, covered}
use Rattle.outcomes.proofs.Runs.{Undoes, spoken, Each, done, next, every_call, run_undone}
use Rattle.outcomes.proofs.Undo.{Turn, turn_refused, turn_back, turn_checked}
use Rattle.outcomes.proofs.UndoByCells.{by_cells}
use Rattle.outcomes.proofs.UndoByFunctions as runs
use Rattle.refining.specs.Refining.{WithHeights, refused_with, outcome_with_heights}
use Rattle.refining.specs.Seasons.{SeasonCall, plain, carrying, direction_of, result_of, after_it, entry_of, log_of, SeasonUndone, FunctionSeason, over, refines, refines_carrying}
use Rattle.refining.specs.Demands.{Shaped}
use Rattle.refining.proofs.Shape.{shaped}

-- ---- one call

-- a refinement without heights
abbrev bare : By → List ℕ → LentLists → Call
bare by marks room = record { direction = refine; by = by; marks = marks; room = room }

module _ (p : Plan) (t : Tables) where
  -- it leaves what one of the four calls leaves, or is refused
  pub data Leaves (by : By) (marks : List ℕ) (room : LentLists) (o : Outcome) : Type 0 where
    as_without : o ≡ result p t (bare by marks room) → Leaves by marks room o
    refusing : (n : ℕ) → o ≡ refused n t.cells t.functions room.cells room.functions → Leaves by marks room o

  leaves : (by : By) (hs : List ℤ) (marks : List ℕ) (room : LentLists) → Leaves by marks room (result_of p t (carrying by hs marks room))
  unfolding result_of result refused_with
  leaves by hs marks room =
      let w : WithHeights = outcome_with_heights by p t.cells t.functions hs marks room.cells room.functions in
      let s : Shaped by p t.cells t.functions hs marks room.cells room.functions = shaped by p t.cells t.functions hs marks room.cells room.functions in
      cases (eqb w.outcome.answer.number 0)
      (λ y. as_without (s.same (eqb→eq w.outcome.answer.number 0 y)))
      (λ y. refusing w.outcome.answer.number (ap (λ (v : WithHeights). v.outcome) (s.nothing (differ w.outcome.answer.number 0 y))))

  -- and can be taken back
  module _ (k : check p t.cells t.functions ≡ 0) (kind : By) where
    left_turn : {by : By} {marks : List ℕ} {room : LentLists} {o : Outcome} → Leaves by marks room o
        → Turn kind p t refine (result p t (bare by marks room)) → Turn kind p t refine o
    left_turn (as_without e) K = subst (Turn kind p t refine) (sym e) K
    left_turn (refusing n e) K = turn_refused p refine kind t k n _ _ e

  pub season_turn : check p t.cells t.functions ≡ 0 → (a : SeasonCall) → Turn cells p t (direction_of a) (result_of p t a)
  unfolding direction_of
  season_turn k (plain a) = unfold result_of in by_cells p t a k
  season_turn k (carrying by hs marks room) =
      left_turn k cells (leaves by hs marks room) (by_cells p t (bare by marks room) k)

  module _ (kind : By) (a : SeasonCall) (K : Turn kind p t (direction_of a) (result_of p t a)) where
    pub season_undoes : Undoes kind p t (after_it p t a) (entry_of p t a ∷ [])
    unfolding after_it entry_of
    season_undoes = spoken (turn_back kind p t (direction_of a) (result_of p t a) K)

    pub season_checked : check p (after_it p t a).cells (after_it p t a).functions ≡ 0
    unfolding after_it
    season_checked = turn_checked kind p t (direction_of a) (result_of p t a) K

-- ---- the whole season

module _ (p : Plan) where
  pub undone_by_cells_lem : (t : Tables) (season : List SeasonCall) (rooms : List LentLists) → check p t.cells t.functions ≡ 0
      → LongEnough (backwards (log_of p t season)) rooms → SeasonUndone cells p t season rooms
  undone_by_cells_lem t season rooms k l =
      run_undone (λ t. t) (after_it p) (λ t a. entry_of p t a ∷ []) cells p (λ t. check p t.cells t.functions ≡ 0) (λ _. T true)
      (λ t a k _. season_checked p t cells a (season_turn p t k a)) (λ t a k _. season_undoes p t cells a (season_turn p t k a))
      season t rooms k (every_call season) l

-- ---- by functions

-- each call refines by functions, with heights or without
pub data Refines : SeasonCall → Type 0 where
  without : {marks : List ℕ} {room : LentLists} → Refines (plain (record { direction = refine; by = functions; marks = marks; room = room }))
  with_heights : {hs : List ℤ} {marks : List ℕ} {room : LentLists} → Refines (carrying functions hs marks room)

each : {season : List SeasonCall} → FunctionSeason season → Each Refines season
each over = done
each (refines r) = next without (each r)
each (refines_carrying r) = next with_heights (each r)

module _ (p : Plan) (z : p.class ≡ 0) where
  abbrev Found : Tables → Type 0
  Found = runs.Found p z

  pub function_turn : (t : Tables) (a : SeasonCall) → Found t → Refines a → Turn functions p t (direction_of a) (result_of p t a)
  unfolding direction_of result_of
  function_turn t a F without = runs.by_functions p z t _ F runs.refines
  function_turn t a F (with_heights {hs = hs} {marks = marks} {room = room}) =
      left_turn p t F.passes functions (leaves p t functions hs marks room) (runs.by_functions p z t _ F runs.refines)

  pub stays : (t : Tables) (a : SeasonCall) → Found t → Refines a → Found (after_it p t a)
  unfolding after_it result_of after refused
  stays t a F without = runs.stays_found p z t _ F runs.refines
  stays t a F (with_heights {hs = hs} {marks = marks} {room = room}) = go (leaves p t functions hs marks room)
    where
      go : {o : Outcome} → Leaves p t functions marks room o → Found (leaving o)
      go (as_without e) = subst (λ o. Found (leaving o)) (sym e) (runs.stays_found p z t (bare functions marks room) F runs.refines)
      go (refusing n e) = subst (λ o. Found (leaving o)) (sym e) F

pub undone_by_functions_lem : (p : Plan) → p.class ≡ 0 → (t : Tables) (season : List SeasonCall) (rooms : List LentLists) → check p t.cells t.functions ≡ 0
    → T (covered p t.cells t.functions) → FunctionSeason season → LongEnough (backwards (log_of p t season)) rooms → SeasonUndone functions p t season rooms
undone_by_functions_lem p z t season rooms k v f l =
    run_undone (λ t. t) (after_it p) (λ t a. entry_of p t a ∷ []) functions p (runs.Found p z) Refines (stays p z) (λ t a F r. season_undoes p t functions a (function_turn p z t a F r))
    season t rooms (record { passes = k; covers = v }) (each f) l
