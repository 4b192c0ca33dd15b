-- Demand 3 by cells: every run, of any calls in any class, is undone by its own cell lists. Assumes nothing.
use mathlib.Core.Path.{◌≡◌, sym, ap, ap₂, ◌∙◌, subst}
use mathlib.Core.Bool.{true, not, ◌&&◌, ◌||◌, beq}
use mathlib.Core.List.{List, [], ◌∷◌}
use Prim.Native.Nat.{ℕ, ◌+◌, ◌<◌}
use native.Mathlib.Omega.{arith}
use lib.Dec.{T, eqb→eq}
use Rattle.facts.specs.Numbers.{elem}
use Rattle.facts.proofs.Numbers.{listed→}
use Rattle.hierarchy.specs.Hierarchy.{Cells, closure}
use Rattle.grid.specs.declared.Plan.{Plan}
use Rattle.grid.specs.Plan.{cell_total, cell_level, last_level, hierarchy}
use Rattle.grid.proofs.Laws.{lawful}
use Rattle.mesh.specs.Mesh.{refined, labels, check}
use Rattle.mesh.proofs.Bridge.{Good, active_is, reactivable_is}
use Rattle.outcomes.specs.Calls.{Direction, refine, coarsen, By, cells, eligible, is_too_deep, selected, changed, new_cells}
use Rattle.outcomes.specs.Runs.{Tables, LentLists, Call, result, after, entry, log, backwards, opposite, LongEnough, Undone}
use Rattle.outcomes.proofs.Sets.{put, difference, May, changed_may, put_back}
use Rattle.outcomes.proofs.Marks.{Fits, closure_same_below}
use Rattle.outcomes.proofs.Results.{may, new_good, new_refined, new_difference}
use Rattle.outcomes.proofs.Runs.{every_call, run_undone}
use Rattle.outcomes.proofs.Undo.{elem_changed, Undoable, Turn, turn, call_undoes, call_checked}

-- ---- marks by cells that may be selected fit

may_fits : (d : Direction) (p : Plan) (cs fs : List ℕ) → Good p cs → (x : ℕ) → x < cell_total p → May d (hierarchy p) (refined cs) x → Fits d cells p cs fs x
unfolding eligible is_too_deep last_level
may_fits refine p cs fs G x i (a, l) = record {
  inside = i;
  kind = subst T (sym (active_is p cs G x i)) a;
  shallow = λ t. absurd (omega (arith, eqb→eq (cell_level p x + 1) p.levels t));
}
may_fits coarsen p cs fs G x i a = record { inside = i; kind = subst T (sym (reactivable_is p cs G x i)) a; shallow = λ t. t }

-- ---- what a call of either kind turns can be taken back by cells

module _ (d : Direction) (by : By) (p : Plan) (cs fs marks : List ℕ) (G : Good p cs) (fit : (x : ℕ) → T (elem x marks) → Fits d by p cs fs x) where
  abbrev M : Cells
  M = selected d by p cs fs marks

  abbrev R : Cells
  R = closure (hierarchy p) (put d (refined cs) M)

  abbrev new : List ℕ
  new = new_cells d by p cs fs marks

  put_same : (o : Direction) (x : ℕ) → elem x (changed (cell_total p) cs new) ≡ difference d (refined cs) R x → refined new ≡ R
      → put o (refined new) (λ x. elem x (changed (cell_total p) cs new)) x ≡ put o R (difference d (refined cs) R) x
  put_same refine x e r = ap₂ (λ X b. X x || b) r e
  put_same coarsen x e r = ap₂ (λ X b. X x && not b) r e

  pub cells_undoable : Undoable cells d p cs new G (new_good d by p cs fs marks G fit)
  unfolding selected
  cells_undoable =
      let H = hierarchy p in
      let L = lawful p G.range in
      let m = may d by p cs fs marks G fit in
      let r : refined new ≡ R = new_refined d by p cs fs marks G fit in
      let e = new_difference d by p cs fs marks G fit in
      record {
        fit = λ x t.
            let (i, u) = listed→ (cell_total p) (λ x. not (beq (refined cs x) (refined new x))) x (unfold changed in t) in
            may_fits (opposite d) p new (labels p new) (new_good d by p cs fs marks G fit) x i
            (subst (λ X. May (opposite d) H X x) (sym r) (changed_may H L (refined cs) M G.admissible G.mesh d m x i (subst T (e x i) u)));
        back = λ c i.
            ap (λ X. X c) (closure_same_below p _ (put (opposite d) R (difference d (refined cs) R)) (λ x j. put_same (opposite d) x (elem_changed (cell_total p) cs new x j ∙ e x j) r))
            ∙ put_back H L (refined cs) M G.admissible G.mesh d m c i;
      }

-- ---- one call

pub by_cells : (p : Plan) (t : Tables) (a : Call) → check p t.cells t.functions ≡ 0 → Turn cells p t a.direction (result p t a)
by_cells p t a = turn p t a cells (λ G fit _. cells_undoable a.direction a.by p t.cells t.functions a.marks G fit)

-- For every mesh that check passes, in any class, and every run of calls on it, by cells or by functions, refused ones included,
-- whatever their marks and lists: the copied cell lists, last first, each to the opposite call by cells, with lists long enough,
-- are accepted, name the same cells and functions, and restore both tables
pub undone_by_cells_lem : (p : Plan) (t : Tables) (run : List Call) (rooms : List LentLists) → check p t.cells t.functions ≡ 0
    → LongEnough (backwards (log p t run)) rooms → Undone cells p t run rooms
undone_by_cells_lem p t run rooms k l =
    run_undone (λ t. t) (after p) (λ t a. entry p t a ∷ []) cells p (λ t. check p t.cells t.functions ≡ 0) (λ _. T true)
    (λ t a k _. call_checked cells p t a (by_cells p t a k)) (λ t a k _. call_undoes cells p t a (by_cells p t a k))
    run t rooms k (every_call run) l
