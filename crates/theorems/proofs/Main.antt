-- The final theorems, each by the theorem that proves it. Assumes nothing.
use mathlib.Core.Path.{◌≡◌, ap, subst, ◌∙◌}
use mathlib.Core.Bool.{false}
use mathlib.Core.List.{List, [], ◌∷◌}
use Prim.Native.Nat.{ℕ, ◌-◌, ◌*◌, ◌^◌, ◌<◌, ◌≤◌}
use native.Mathlib.Omega.{arith}
use lib.Dec.{T, eqb, eqb→eq}
use lib.ListN.{get_or}
use Rattle.facts.specs.Numbers.{elem}
use Rattle.facts.proofs.Tests.{cases, or_l, not_e, eqb_of, T_true, T_false}
use Rattle.grid.specs.declared.Plan.{Plan}
use Rattle.grid.specs.Plan.{across_at, up_at, function_total, cell_level}
use Rattle.grid.proofs.Laws.{in_range_lem}
use Rattle.grid.proofs.Results.{plan_by_knots, smooth, range_inner}
use Rattle.mesh.specs.Mesh.{check, count}
use Rattle.mesh.proofs.Area.{area_4}
use Rattle.mesh.proofs.Bridge.{check_good, is_mesh_lem}
use Rattle.mesh.proofs.Fresh.{opened_checked}
use Rattle.outcomes.specs.Calls.{Direction, refine, By, cells, selected, Outcome, outcome}
use Rattle.outcomes.proofs.Results.{call_accepted, call_refused}
use Rattle.outcomes.proofs.Steps.{call_in_steps, call_relabelled}
use Rattle.outcomes.proofs.Printed.{call_as_printed}
use Rattle.outcomes.proofs.UndoByCells.{undone_by_cells_lem}
use Rattle.outcomes.proofs.UndoByFunctions.{undone_by_functions_lem}
use Rattle.cost.specs.Reach.{most_refined}
use Rattle.cost.specs.Cost.{most_of}
use Rattle.cost.proofs.Cost.{call_cost}
use Rattle.basis.specs.Basis.{Published}
use Rattle.basis.proofs.Published.{checked_published}
use Rattle.mesh.proofs.HAdmissible.{still_checked}
use Rattle.basis.proofs.Presence.{present}
use Rattle.theorems.specs.Main.{once, Main}
use Rattle.theorems.proofs.Repeats.{call_repeats, call_reordered}

-- an accepted call leaves tables that check passes, and of those the published basis tells
pub call_published : (d : Direction) (by : By) (p : Plan) (cs fs marks cl fl : List ℕ)
    → (outcome d by p cs fs marks cl fl).answer.number ≡ 0 → (f : ℕ) → f < function_total p
    → Published p (outcome d by p cs fs marks cl fl).cells f (get_or (outcome d by p cs fs marks cl fl).functions f 0)
call_published d by p cs fs marks cl fl e = checked_published p _ _ (call_accepted d by p cs fs marks cl fl e).checked

-- count is not refused where check is not, and then its area is that of a mesh
count_area : (p : Plan) (cs fs : List ℕ) → (count p cs fs).number ≡ 0 → (count p cs fs).area ≡ p.columns * p.rows * 4 ^ (p.levels - 1)
unfolding count
count_area p cs fs e = cases (eqb (check p cs fs) 0)
    (λ z. let G = (check_good p cs fs (eqb→eq (check p cs fs) 0 z)).0 in
    rw (T_true (eqb (check p cs fs) 0) z) (area_4 p G.range cs (is_mesh_lem p cs G)))
    (λ z. absurd (not_e (eqb (check p cs fs) 0) z (eqb_of (check p cs fs) 0 (rw (T_false (eqb (check p cs fs) 0) (not_e (eqb (check p cs fs) 0) z)) at e))))

-- marks that are all c stand for c alone, and so cost at most what c can
one_mark_lem : (p : Plan) (cs fs marks cl fl : List ℕ) (c : ℕ) → ((x : ℕ) → T (elem x marks) → x ≡ c)
    → (outcome refine cells p cs fs marks cl fl).answer.number ≡ 0 → (outcome refine cells p cs fs marks cl fl).answer.cells ≤ most_refined p (cell_level p c)
unfolding most_of selected elem
one_mark_lem p cs fs marks cl fl c h z =
    omega (arith, (call_cost cells p cs fs marks cl fl z).most (c ∷ []) (λ x _ m. or_l (eqb x c) false (eqb_of x c (h x m))))

-- marks stand for the cells that they are, each of which is there once where repeats are left out
several_marks_lem : (p : Plan) (cs fs marks cl fl : List ℕ) → (outcome refine cells p cs fs marks cl fl).answer.number ≡ 0
    → (outcome refine cells p cs fs marks cl fl).answer.cells ≤ most_of p (once marks)
unfolding selected
several_marks_lem p cs fs marks cl fl z =
    let e = call_repeats refine cells p cs fs marks cl fl in
    subst (λ (o : Outcome). o.answer.cells ≤ most_of p (once marks)) e
    ((call_cost cells p cs fs (once marks) cl fl (ap (λ (o : Outcome). o.answer.number) e ∙ z)).most (once marks) (λ x _ m. m))

pub main : Main
main = record {
  refused_call = call_refused;
  accepted_call = call_accepted;
  published_call = call_published;
  undone_by_cells = undone_by_cells_lem;
  undone_by_functions = undone_by_functions_lem;
  in_two_steps = call_in_steps;
  relabelled_call = call_relabelled;
  printed_call = call_as_printed;
  area = count_area;
  opened = opened_checked;
  present_levels = λ p cs fs checked classed. present p cs fs checked (omega (arith, classed));
  old_pass = still_checked;
  by_knots = λ p t. plan_by_knots p (in_range_lem p t);
  smooth_plan = λ p k. (smooth (across_at p k), smooth (up_at p k));
  inner_corners = range_inner;
  repeats = call_repeats;
  reordered = call_reordered;
  one_mark = λ p cs fs marks cl fl c _ h z. omega (arith, one_mark_lem p cs fs marks cl fl c h z);
  one_mark_truncated = λ p cs fs marks cl fl c _ h z. omega (arith, one_mark_lem p cs fs marks cl fl c h z);
  several_marks = several_marks_lem;
  marks_cost = call_cost;
}
