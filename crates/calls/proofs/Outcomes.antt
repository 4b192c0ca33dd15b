-- The outcome of a call by the number of its refusal, and of what the flags settle. Assumes nothing.
use mathlib.Core.Path.{◌≡◌, sym, ap, ◌∙◌, subst}
use mathlib.Core.Logic.{◌≢◌}
use mathlib.Core.List.{List}
use Prim.Native.Nat.{ℕ, ◌≤◌}
use lib.Dec.{T}
use lib.ListN.{length}
use Rattle.facts.specs.Numbers.{elem, first}
use Rattle.facts.proofs.Tests.{T_true}
use Rattle.facts.proofs.Numbers.{first_zero}
use Rattle.grid.specs.declared.Plan.{Plan}
use Rattle.grid.specs.Plan.{function_total}
use Rattle.mesh.specs.Mesh.{is_mesh, labels, check}
use Rattle.mesh.proofs.Bridge.{Good, check_good, is_mesh_lem}
use Rattle.outcomes.specs.declared.Answer.{Answer}
use Rattle.outcomes.specs.Calls.{Direction, By, mark_refusal, changed, refused, new_cells, outcome}
use Rattle.outcomes.specs.Steps.{Settled, Relabelled, settle_cells, relabel, in_steps}
use Rattle.outcomes.specs.Meets.{outcome_of}
use Rattle.outcomes.proofs.Marks.{Fits, fits_e, refusal_mark, selected_may}
use Rattle.outcomes.proofs.Results.{outcome_check, outcome_mark, new_good}
use Rattle.outcomes.proofs.Steps.{settled_cells, stopped, finished, call_in_steps}
use Rattle.nesting.specs.Table.{MeshTable}
use Rattle.closure.specs.Ready.{Ready}
use Rattle.closure.proofs.Marked.{good_ready, flags_mean}
use Rattle.calls.specs.Parts.{Flags, renewed, Applicable}

-- ---- refused

module _ (d : Direction) (by : By) (p : Plan) (cs fs marks cl fl : List ℕ) where
  abbrev judged : ℕ
  judged = first (mark_refusal d by p cs fs) marks

  -- a refusal's answer, with the tables and lists as they were, is the call's outcome
  module _ (r : Answer) (n : ℕ) (e : r ≡ record { number = n; cells = 0; functions = 0 }) (stopped : n ≢ 0) where
    refused_made : outcome_of r cs fs cl fl ≡ refused n cs fs cl fl
    unfolding refused
    refused_made = ap (λ a. outcome_of a cs fs cl fl) e

    pub check_refused : n ≡ check p cs fs → outcome_of r cs fs cl fl ≡ outcome d by p cs fs marks cl fl
    check_refused q = refused_made ∙ ap (λ m. refused m cs fs cl fl) q ∙ sym (outcome_check d by p cs fs marks cl fl (λ z. stopped (q ∙ z)))

    pub mark_refused_lem : check p cs fs ≡ 0 → n ≡ judged → outcome_of r cs fs cl fl ≡ outcome d by p cs fs marks cl fl
    mark_refused_lem k q = refused_made ∙ ap (λ m. refused m cs fs cl fl) q ∙ sym (outcome_mark d by p cs fs marks cl fl k (λ z. stopped (q ∙ z)))

-- ---- settled: the flags say what the marks mean

module _ (d : Direction) (by : By) (p : Plan) (cs fs marks flags : List ℕ) (k : check p cs fs ≡ 0) {n : ℕ} (F : Flags d by p cs fs marks n flags) (z : n ≡ 0) where
  good : Good p cs
  good = (check_good p cs fs k).0

  fine : first (mark_refusal d by p cs fs) marks ≡ 0
  fine = sym F.number ∙ z

  fit : (x : ℕ) → T (elem x marks) → Fits d by p cs fs x
  fit x m = fits_e d by p cs fs x (first_zero (mark_refusal d by p cs fs) marks fine x m)

  new_is : renewed d p cs flags ≡ new_cells d by p cs fs marks
  new_is = flags_mean d by p cs fs marks flags good.range (F.says z)

  new_mesh : MeshTable p (renewed d p cs flags)
  new_mesh =
      let N = new_good d by p cs fs marks good fit in
      rw new_is (record { sized = record { range = N.range; size = N.sized }; mesh = T_true (is_mesh p (new_cells d by p cs fs marks)) (is_mesh_lem p (new_cells d by p cs fs marks) N) })

  pub applicable : (room : List ℕ) → length fs ≡ function_total p → length room ≡ function_total p → Applicable d p cs fs flags room
  applicable room l r = record {
    ready = good_ready d p cs flags good F.sized (λ c i t. selected_may p cs fs marks good d by fit c i (subst T (F.says z c i) t));
    mesh = new_mesh;
    functions_are = l;
    room_is = r;
  }

  -- the two steps make the call's outcome
  pub steps_are : (cl fl : List ℕ) → in_steps p cs fs cl fl (renewed d p cs flags) ≡ outcome d by p cs fs marks cl fl
  steps_are cl fl = ap (in_steps p cs fs cl fl) new_is ∙ sym (call_in_steps d by p cs fs marks cl fl (refusal_mark d by p cs fs marks k ∙ fine))

-- ---- the two steps, where s is what the first leaves

module _ {d : Direction} {p : Plan} {cs fs flags room : List ℕ} (A : Applicable d p cs fs flags room) (cl fl : List ℕ)
    {s : Settled} (e : s ≡ settle_cells p cs fs cl (length fl) (renewed d p cs flags)) where
  pub stops : s.answer.number ≢ 0 → outcome_of s.answer s.cells fs s.cell_list fl ≡ in_steps p cs fs cl fl (renewed d p cs flags)
  stops n = ap (λ (u : Settled). outcome_of u.answer u.cells fs u.cell_list fl) e
      ∙ stopped p cs fs cl fl (renewed d p cs flags) (λ z. n (ap (λ (u : Settled). u.answer.number) e ∙ z))

  module _ (none : s.answer.number ≡ 0) where
    done : (settle_cells p cs fs cl (length fl) (renewed d p cs flags)).answer.number ≡ 0
    done = ap (λ (u : Settled). u.answer.number) (sym e) ∙ none

    cells_are : s.cells ≡ renewed d p cs flags
    cells_are = ap (λ (u : Settled). u.cells) e ∙ (settled_cells p cs fs cl (length fl) (renewed d p cs flags) done).0

    -- what the second step asks
    pub relabellable : MeshTable p s.cells × (length (changed (function_total p) fs (labels p s.cells)) ≤ length fl)
    relabellable = rw cells_are (A.mesh, (settled_cells p cs fs cl (length fl) (renewed d p cs flags) done).1)

    pub ends : {r : Relabelled} → r ≡ relabel p s.cells fs fl
        → outcome_of (record { number = 0; cells = s.answer.cells; functions = r.count }) s.cells r.functions s.cell_list r.function_list ≡ in_steps p cs fs cl fl (renewed d p cs flags)
    ends {r} f =
        ap (λ (u : Settled). outcome_of (record { number = 0; cells = u.answer.cells; functions = r.count }) u.cells r.functions u.cell_list r.function_list) e
        ∙ finished p cs fs cl fl (renewed d p cs flags) done (f ∙ ap (λ (u : Settled). relabel p u.cells fs fl) e)

pub ready_are : {d : Direction} {p : Plan} {cs table flags : List ℕ} → table ≡ cs → Ready d p cs flags → Ready d p table flags
ready_are a R = rw a R

pub mesh_are : {p : Plan} {cs table : List ℕ} → table ≡ cs → MeshTable p cs → MeshTable p table
mesh_are a M = rw a M
