-- The passes give the smallest admissible mesh around the base set that a call settles. Assumes nothing.
use mathlib.Core.Path.{◌≡◌, sym, ap, subst, ◌∙◌}
use mathlib.Core.Bool.{Bool, not, ◌&&◌, ◌||◌}
use mathlib.Core.Logic.{◌≢◌}
use mathlib.Core.List.{List}
use Prim.Native.Nat.{ℕ, ◌+◌, ◌<◌}
use native.Mathlib.Omega.{arith}
use lib.Dec.{T, eqb, eqb→eq}
use lib.ListN.{length}
use Rattle.facts.proofs.Numbers.{get_d_some}
use Rattle.facts.proofs.Tests.{and_i, and_l, and_r, not_i, not_e, eqb_of}
use Rattle.hierarchy.specs.Hierarchy.{Cells}
use Rattle.grid.specs.declared.Plan.{Plan}
use Rattle.grid.specs.Plan.{cell_total, cell_level, last_level, hierarchy}
use Rattle.grid.specs.Range.{InRange}
use Rattle.grid.proofs.Laws.{cell_inside}
use Rattle.mesh.specs.Mesh.{active, refined, table_of}
use Rattle.mesh.proofs.Bridge.{Good, mesh_fits, fit_is, fit_mesh, admissible_of, active_is, reactivable_is, is_mesh_lem, is_admissible_lem}
use Rattle.outcomes.specs.Calls.{Direction, refine, coarsen, By, selected, base, smallest, new_cells}
use Rattle.outcomes.proofs.Sets.{May}
use Rattle.outcomes.proofs.Marks.{closure_same_below, smallest_is}
use Rattle.closure.specs.declared.Pass.TheVariants.{Refine, Activate, Close}
use Rattle.closure.specs.Walk.{flagged, pass}
use Rattle.closure.specs.Ready.{may_turn, Ready}
use Rattle.closure.proofs.Passes.{refine_pass, active_pass, close_pass}

module _ (p : Plan) (cs flags : List ℕ) where
  pub ready_good : (d : Direction) → Ready d p cs flags → Good p cs
  ready_good d r =
      let fit = mesh_fits p cs r.mesh in
      record {
        range = r.range;
        small = r.small;
        sized = r.size;
        mesh = fit_mesh p r.range cs fit;
        admissible = admissible_of p r.range cs r.admissible;
        is = fit_is p r.range cs fit r.size;
      }

  -- what may be turned, by the bytes and of the set
  module _ (G : Good p cs) (c : ℕ) (i : c < cell_total p) where
    pub may_fact : (d : Direction) → T (may_turn d p cs c) → May d (hierarchy p) (refined cs) c
    unfolding may_turn last_level
    may_fact refine t = (
      subst T (active_is p cs G c i) (and_l (active cs c) _ t),
      let n : cell_level p c + 1 ≢ p.levels = λ e. not_e (eqb (cell_level p c + 1) p.levels) (and_r (active cs c) _ t) (eqb_of _ _ e) in
          omega (arith, (cell_inside p G.range c i).level<),
    )
    may_fact coarsen t = subst T (reactivable_is p cs G c i) t

    may_test : (d : Direction) → May d (hierarchy p) (refined cs) c → T (may_turn d p cs c)
    unfolding may_turn last_level
    may_test refine t = and_i (active cs c) _ (subst T (sym (active_is p cs G c i)) t.0)
        (not_i (eqb (cell_level p c + 1) p.levels) (λ e. omega (arith, t.1, eqb→eq (cell_level p c + 1) p.levels e)))
    may_test coarsen t = subst T (sym (reactivable_is p cs G c i)) t

  -- "the smallest wall of class m whose split cells include the old and the marked"
  pub refined_smallest : Ready refine p cs flags → pass Refine p flags cs ≡ smallest p (base refine cs (flagged flags))
  unfolding base
  refined_smallest r =
      let G = ready_good refine r in
      ap (pass Refine p flags) G.is
      ∙ refine_pass p r.range flags (refined cs) G.admissible G.mesh (λ c i t. may_fact G c i refine (r.may c t))
      ∙ sym (smallest_is p r.range (base refine cs (flagged flags)))

  -- "the smallest wall of class m whose split cells include all old ones not marked"
  pub coarsened_smallest : Ready coarsen p cs flags → pass Close p flags (pass Activate p flags cs) ≡ smallest p (base coarsen cs (flagged flags))
  unfolding base
  coarsened_smallest r =
      let G = ready_good coarsen r in
      let may : (c : ℕ) → c < cell_total p → T (flagged flags c) → May coarsen (hierarchy p) (refined cs) c = λ c i t. may_fact G c i coarsen (r.may c t) in
      ap (λ (t : List ℕ). pass Close p flags (pass Activate p flags t)) G.is
      ∙ ap (pass Close p flags) (active_pass p r.range flags (refined cs) G.admissible G.mesh may)
      ∙ close_pass p r.range flags (refined cs) G.admissible G.mesh may
      ∙ sym (smallest_is p r.range (base coarsen cs (flagged flags)))

-- ---- for callers

-- a table that check takes is ready, with flags at cells that may be turned
pub good_ready : (d : Direction) (p : Plan) (cs flags : List ℕ) → Good p cs → length flags ≡ cell_total p
    → ((c : ℕ) → c < cell_total p → T (flagged flags c) → May d (hierarchy p) (refined cs) c) → Ready d p cs flags
unfolding flagged
good_ready d p cs flags G s may = record {
  range = G.range;
  small = G.small;
  size = G.sized;
  flags_size = s;
  mesh = is_mesh_lem p cs G;
  admissible = is_admissible_lem p cs G;
  may = λ c t. let i : c < cell_total p = omega (arith, get_d_some flags c (λ e. absurd (rw e at t))) in may_test p cs flags G c i d (may c i t);
}

base_same : (d : Direction) (cs : List ℕ) (X Y : Cells) (c : ℕ) → X c ≡ Y c → base d cs X c ≡ base d cs Y c
unfolding base
base_same refine cs X Y c e = ap (λ (b : Bool). refined cs c || b) e
base_same coarsen cs X Y c e = ap (λ (b : Bool). refined cs c && not b) e

-- where the flags are at the cells that the marks mean, the result is the new cell table of the call
pub flags_mean : (d : Direction) (by : By) (p : Plan) (cs fs marks flags : List ℕ) → InRange p
    → ((c : ℕ) → c < cell_total p → flagged flags c ≡ selected d by p cs fs marks c) → smallest p (base d cs (flagged flags)) ≡ new_cells d by p cs fs marks
unfolding new_cells
flags_mean d by p cs fs marks flags range h =
    let X : Cells = base d cs (flagged flags) in
    let Y : Cells = base d cs (selected d by p cs fs marks) in
    smallest_is p range X
    ∙ ap (table_of p) (closure_same_below p X Y (λ c i. base_same d cs (flagged flags) (selected d by p cs fs marks) c (h c i)))
    ∙ sym (smallest_is p range Y)
