-- A run on planes is a run on the bytes that they hold, and so is undone by its lists. Assumes nothing.
use mathlib.Core.Path.{◌≡◌, refl, sym, ap, ap₂, subst, ◌∙◌}
use mathlib.Core.List.{List, [], ◌∷◌}
use lib.Dec.{T, eqb, eqb→eq}
use Rattle.facts.proofs.Tests.{cases, differ}
use Rattle.grid.specs.declared.Plan.{Plan}
use Rattle.grid.specs.Plan.{cell_total}
use Rattle.mesh.specs.Mesh.{check}
use Rattle.mesh.proofs.Bridge.{check_good}
use Rattle.outcomes.specs.Calls.{By}
use Rattle.outcomes.specs.Calls as calls
use Rattle.outcomes.specs.Runs.{Tables, LentLists, Call, Entry, final_of, log_of, result, after, entry, final, log, backwards, undo, LongEnough, Undone, covered, RefinesByFunctions}
use Rattle.outcomes.proofs.Results.{call_accepted, call_refused}
use Rattle.outcomes.proofs.UndoByCells.{undone_by_cells_lem}
use Rattle.outcomes.proofs.UndoByFunctions.{undone_by_functions_lem}
use Rattle.planes.specs.Bits.{Words, present_of, refined_of, Holding}
use Rattle.planes.specs.Planes.{cells_of, check_planes, held, PlanesOutcome}
use Rattle.planes.specs.Runs.{PlaneTables, result_on_planes, after_on_planes, entry_on_planes, final_on_planes, log_on_planes, UndoneOnPlanes}
use Rattle.planes.proofs.Laws.{present_back_lem, refined_back_lem}
use Rattle.planes.proofs.Refusals.{held_of, holding_of, check_of}
use Rattle.planes.proofs.Same.{good_cells, same_change}

-- the planes of byte tables
abbrev pub planes_of : Tables → PlaneTables
planes_of u = record { present = present_of u.cells; refined = refined_of u.cells; functions = u.functions }

module _ (p : Plan) where
  abbrev Passes : Tables → Type 0
  Passes u = check p u.cells u.functions ≡ 0

  -- a call keeps what check asks
  pub passes_after : (u : Tables) (a : Call) → Passes u → Passes (after p u a)
  unfolding after result
  passes_after u a k = cases (eqb (result p u a).answer.number 0)
      (λ t. (call_accepted a.direction a.by p u.cells u.functions a.marks a.room.cells a.room.functions (eqb→eq (result p u a).answer.number 0 t)).checked)
      (λ t.
      let r = call_refused a.direction a.by p u.cells u.functions a.marks a.room.cells a.room.functions (differ (result p u a).answer.number 0 t) in
      ap₂ (check p) r.cells r.functions ∙ k)

  pub passes_final : (run : List Call) (u : Tables) → Passes u → Passes (final p u run)
  unfolding final_of
  passes_final [] u k = k
  passes_final (a ∷ rest) u k = passes_final rest (after p u a) (passes_after u a k)

  module _ (u : Tables) (k : Passes u) where
    pub result_on : (a : Call) → result_on_planes p (planes_of u) a ≡ held (result p u a)
    unfolding result_on_planes result
    result_on a = same_change p u.cells u.functions (good_cells p u.cells (check_good p u.cells u.functions k).0) a.direction a.by a.marks a.room.cells a.room.functions

    pub after_on : (a : Call) → after_on_planes p (planes_of u) a ≡ planes_of (after p u a)
    unfolding after_on_planes after held
    after_on a = ap (λ (o : PlanesOutcome). record { present = o.present; refined = o.refined; functions = o.functions }) (result_on a)

    pub entry_on : (a : Call) → entry_on_planes p (planes_of u) a ≡ entry p u a
    unfolding entry_on_planes entry held
    entry_on a = rw (result_on a)

  pub final_on : (run : List Call) (u : Tables) → Passes u → final_on_planes p (planes_of u) run ≡ planes_of (final p u run)
  unfolding final_of
  final_on [] u k = refl
  final_on (a ∷ rest) u k = ap (λ (t : PlaneTables). final_on_planes p t rest) (after_on u k a) ∙ final_on rest (after p u a) (passes_after u a k)

  pub log_on : (run : List Call) (u : Tables) → Passes u → log_on_planes p (planes_of u) run ≡ log p u run
  unfolding log_of
  log_on [] u k = refl
  log_on (a ∷ rest) u k =
      ap₂ (λ (e : Entry) (es : List Entry). e ∷ es) (entry_on u k a) (ap (λ (t : PlaneTables). log_on_planes p t rest) (after_on u k a) ∙ log_on rest (after p u a) (passes_after u a k))

  -- whatever undoes a run on bytes undoes it on planes
  pub undone_on : (by : By) (u : Tables) (k : Passes u) (run : List Call) (rooms : List LentLists) → Undone by p u run rooms → UndoneOnPlanes by p (planes_of u) run rooms
  undone_on by u k run rooms U = record {
    named = rw (log_on run u k, final_on run u k, log_on (undo by (backwards (log p u run)) rooms) (final p u run) (passes_final run u k)) U.named;
    restored = rw (log_on run u k, final_on run u k, final_on (undo by (backwards (log p u run)) rooms) (final p u run) (passes_final run u k)) (ap planes_of U.restored);
  }

  -- planes that pass check are those of the cells that they hold
  module _ (t : PlaneTables) (sP : Words t.present) (sR : Words t.refined) (k : check_planes p t.present t.refined t.functions ≡ 0) where
    abbrev bytes : Tables
    bytes = record { cells = cells_of p t.present t.refined; functions = t.functions }

    h : Holding (cell_total p) t.present t.refined
    h = holding_of p t.present t.refined t.functions (held_of p t.present t.refined t.functions (check_of p t.present t.refined t.functions k).0) sP sR

    bytes_pass : Passes bytes
    bytes_pass = (check_of p t.present t.refined t.functions k).1

    same_tables_lem : planes_of bytes ≡ t
    same_tables_lem = rw (present_back_lem (cell_total p) t.present t.refined h, refined_back_lem (cell_total p) t.present t.refined h)

    rooms_enough : (run : List Call) (rooms : List LentLists) → LongEnough (backwards (log_on_planes p t run)) rooms → LongEnough (backwards (log p bytes run)) rooms
    rooms_enough run rooms l = subst (λ (es : List Entry). LongEnough (backwards es) rooms) (ap (λ (s : PlaneTables). log_on_planes p s run) (sym same_tables_lem) ∙ log_on run bytes bytes_pass) l

    -- document 01's third demand on planes: by cells, and in class 0 by functions
    pub planes_undone_by_cells : (run : List Call) (rooms : List LentLists) → LongEnough (backwards (log_on_planes p t run)) rooms → UndoneOnPlanes calls.cells p t run rooms
    planes_undone_by_cells run rooms l = subst (λ (s : PlaneTables). UndoneOnPlanes calls.cells p s run rooms) same_tables_lem
        (undone_on calls.cells bytes bytes_pass run rooms (undone_by_cells_lem p bytes run rooms bytes_pass (rooms_enough run rooms l)))

    pub planes_undone_by_functions : p.class ≡ 0 → T (covered p (cells_of p t.present t.refined) t.functions) → (run : List Call) (rooms : List LentLists)
        → RefinesByFunctions run → LongEnough (backwards (log_on_planes p t run)) rooms → UndoneOnPlanes calls.functions p t run rooms
    planes_undone_by_functions z v run rooms r l = subst (λ (s : PlaneTables). UndoneOnPlanes calls.functions p s run rooms) same_tables_lem
        (undone_on calls.functions bytes bytes_pass run rooms (undone_by_functions_lem p z bytes run rooms bytes_pass v r (rooms_enough run rooms l)))
