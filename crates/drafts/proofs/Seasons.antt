-- The walk back of a season with drafts, by cells and by functions. Assumes nothing.
use mathlib.Core.Path.{◌≡◌, refl, sym, ap, ◌∙◌, subst}
use mathlib.Core.Bool.{Bool, true, false}
use mathlib.Core.List.{List}
use Prim.Native.Nat.{ℕ}
use native.Mathlib.Omega.{arith}
use lib.Dec.{T}
use Rattle.grid.specs.declared.Plan.{Plan}
use Rattle.outcomes.specs.Calls.{refine, cells, functions, refused}
use Rattle.outcomes.specs.Runs.{LentLists, leaving, result, backwards, LongEnough, covered}
use Rattle.outcomes.proofs.Runs.{Undoes, silent, spoken, Each, done, next, every_call, run_undone}
use Rattle.outcomes.proofs.Undo.{Turn, turn_refused, turn_back, turn_checked}
use Rattle.outcomes.proofs.UndoByCells.{by_cells}
use Rattle.outcomes.proofs.UndoByFunctions as runs
use Rattle.refining.specs.Refining.{WithHeights, refused_with}
use Rattle.refining.specs.Seasons.{SeasonCall, plain, carrying, direction_of, result_of, after_it}
use Rattle.refining.proofs.Seasons.{season_turn}
use Rattle.refining.proofs.Seasons as seasons
use Rattle.drafts.specs.declared.Draft.{Draft}
use Rattle.drafts.specs.Drafts.{is_open, marks_of, Closed, close_draft}
use Rattle.drafts.specs.Seasons.{State, DraftCall, changing, opening, adding, closing, dropping, writing, changed, closed, leave, keep, state_log, DraftSeasonUndone, FunctionDraftSeason, over, refines, refines_carrying, opens, adds, drops, writes}
use Rattle.drafts.specs.Demands.{Passes}
use Rattle.drafts.proofs.Refusals.{open_19, none_19, change_not_open, change_open, carry_not_open, carry_open, close_refused, close_taken}

-- ---- by cells

module _ (p : Plan) (s : State) (k : Passes p s) where
  -- while a draft is open, whatever is asked
  pub changed_open : is_open s.draft s.list ≡ true → (a : SeasonCall) → (cl fl : List ℕ) × (changed p s a ≡ refused 18 s.tables.cells s.tables.functions cl fl)
  unfolding changed refused_with
  changed_open o (plain a) = (a.room.cells, a.room.functions, change_open a.direction a.by p _ _ s.draft s.list a.marks _ _ k o)
  changed_open o (carrying by hs marks room) = (room.cells, room.functions, ap (λ (w : WithHeights). w.outcome) (carry_open by p _ _ hs s.draft s.list marks _ _ k o))

  changed_not : is_open s.draft s.list ≡ false → (a : SeasonCall) → changed p s a ≡ result_of p s.tables a
  unfolding changed result_of result
  changed_not o (plain a) = change_not_open a.direction a.by p _ _ s.draft s.list a.marks _ _ o
  changed_not o (carrying by hs marks room) = ap (λ (w : WithHeights). w.outcome) (carry_not_open by p _ _ hs s.draft s.list marks _ _ o)

  change_turn : (a : SeasonCall) → Turn cells p s.tables (direction_of a) (changed p s a)
  change_turn a = go (is_open s.draft s.list) refl
    where
      go : (b : Bool) → is_open s.draft s.list ≡ b → Turn cells p s.tables (direction_of a) (changed p s a)
      go true o = let (cl, fl, e) = changed_open o a in turn_refused p (direction_of a) cells s.tables k 18 cl fl e
      go false o = subst (Turn cells p s.tables (direction_of a)) (sym (changed_not o a)) (season_turn p s.tables k a)

  -- a closed draft is one split by cells
  close_turn : (room : LentLists) → Turn cells p s.tables refine (closed p s room).outcome
  unfolding closed result
  close_turn room = go (is_open s.draft s.list) refl
    where
      go : (b : Bool) → is_open s.draft s.list ≡ b → Turn cells p s.tables refine (close_draft p s.tables.cells s.tables.functions s.draft s.list room.cells room.functions).outcome
      go true o = subst (λ (c : Closed). Turn cells p s.tables refine c.outcome) (sym (close_taken p _ _ s.draft s.list _ _ (open_19 p _ _ s.draft s.list k o)))
          (by_cells p s.tables (record { direction = refine; by = cells; marks = marks_of s.draft s.list; room = room }) k)
      go false o =
          let n = none_19 p s.tables.cells s.tables.functions s.draft s.list k o in
          turn_refused p refine cells s.tables k _ room.cells room.functions
          (ap (λ (c : Closed). c.outcome) (close_refused p s.tables.cells s.tables.functions s.draft s.list room.cells room.functions (λ w. let z : 19 ≡ 0 = sym n ∙ w in absurd (omega arith))))

  call_undoes : (a : DraftCall) → Undoes cells p s.tables (leave p s a).tables (keep p s a)
  unfolding leave keep
  call_undoes (changing a) = spoken (turn_back cells p s.tables (direction_of a) (changed p s a) (change_turn a))
  call_undoes (closing room) = spoken (turn_back cells p s.tables refine (closed p s room).outcome (close_turn room))
  call_undoes opening = silent refl
  call_undoes (adding marks) = silent refl
  call_undoes dropping = silent refl
  call_undoes (writing d dl) = silent refl

  call_passes : (a : DraftCall) → Passes p (leave p s a)
  unfolding leave
  call_passes (changing a) = turn_checked cells p s.tables (direction_of a) (changed p s a) (change_turn a)
  call_passes (closing room) = turn_checked cells p s.tables refine (closed p s room).outcome (close_turn room)
  call_passes opening = k
  call_passes (adding marks) = k
  call_passes dropping = k
  call_passes (writing d dl) = k

pub undone_by_cells_lem : (p : Plan) (s : State) (calls : List DraftCall) (rooms : List LentLists) → Passes p s
    → LongEnough (backwards (state_log p s calls)) rooms → DraftSeasonUndone cells p s calls rooms
undone_by_cells_lem p s calls rooms k l =
    run_undone (λ (s : State). s.tables) (leave p) (keep p) cells p (Passes p) (λ _. T true) (λ s a k _. call_passes p s k a) (λ s a k _. call_undoes p s k a) calls s rooms k (every_call calls) l

-- ---- by functions

-- each call refines by functions, or only touches the draft
data Refines : DraftCall → Type 0 where
  refining : {a : SeasonCall} → seasons.Refines a → Refines (changing a)
  to_open : Refines opening
  to_add : {marks : List ℕ} → Refines (adding marks)
  to_drop : Refines dropping
  to_write : {d : Draft} {dl : List ℕ} → Refines (writing d dl)

each : {calls : List DraftCall} → FunctionDraftSeason calls → Each Refines calls
each over = done
each (refines r) = next (refining seasons.without) (each r)
each (refines_carrying r) = next (refining seasons.with_heights) (each r)
each (opens r) = next to_open (each r)
each (adds r) = next to_add (each r)
each (drops r) = next to_drop (each r)
each (writes r) = next to_write (each r)

module _ (p : Plan) (z : p.class ≡ 0) where
  abbrev Found : State → Type 0
  Found s = runs.Found p z s.tables

  by_functions : (s : State) (a : SeasonCall) → Found s → seasons.Refines a → Turn functions p s.tables (direction_of a) (changed p s a)
  by_functions s a F r = go (is_open s.draft s.list) refl
    where
      go : (b : Bool) → is_open s.draft s.list ≡ b → Turn functions p s.tables (direction_of a) (changed p s a)
      go true o = let (cl, fl, e) = changed_open p s F.passes o a in turn_refused p (direction_of a) functions s.tables F.passes 18 cl fl e
      go false o = subst (Turn functions p s.tables (direction_of a)) (sym (changed_not p s F.passes o a)) (seasons.function_turn p z s.tables a F r)

  undoes : (s : State) (a : DraftCall) → Found s → Refines a → Undoes functions p s.tables (leave p s a).tables (keep p s a)
  unfolding leave keep
  undoes s a F (refining {a = b} r) = spoken (turn_back functions p s.tables (direction_of b) (changed p s b) (by_functions s b F r))
  undoes s a F to_open = silent refl
  undoes s a F to_add = silent refl
  undoes s a F to_drop = silent refl
  undoes s a F to_write = silent refl

  stays : (s : State) (a : DraftCall) → Found s → Refines a → Found (leave p s a)
  unfolding leave after_it refused
  stays s a F (refining {a = b} r) = go (is_open s.draft s.list) refl
    where
      go : (t : Bool) → is_open s.draft s.list ≡ t → runs.Found p z (leaving (changed p s b))
      go true o = let (cl, fl, e) = changed_open p s F.passes o b in subst (λ o. runs.Found p z (leaving o)) (sym e) F
      go false o = subst (λ o. runs.Found p z (leaving o)) (sym (changed_not p s F.passes o b)) (seasons.stays p z s.tables b F r)
  stays s a F to_open = F
  stays s a F to_add = F
  stays s a F to_drop = F
  stays s a F to_write = F

  pub undone_by_functions_lem : (s : State) (calls : List DraftCall) (rooms : List LentLists) → Passes p s → T (covered p s.tables.cells s.tables.functions) → FunctionDraftSeason calls
      → LongEnough (backwards (state_log p s calls)) rooms → DraftSeasonUndone functions p s calls rooms
  undone_by_functions_lem s calls rooms k v f l =
      run_undone (λ (s : State). s.tables) (leave p) (keep p) functions p Found Refines stays undoes calls s rooms (record { passes = k; covers = v }) (each f) l
