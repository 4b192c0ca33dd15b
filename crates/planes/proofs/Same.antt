-- A call on the planes of a cell table is the call on the table. Assumes nothing.
use mathlib.Core.Path.{◌≡◌, refl, sym, ap, subst, ◌∙◌}
use mathlib.Core.Logic.{◌≢◌}
use mathlib.Core.Bool.{true, cond}
use mathlib.Core.List.{List}
use Prim.Native.Nat.{ℕ, ◌≤◌, ◌<◌}
use lib.Dec.{T, eqb, eqb→eq, le→leb}
use lib.ListN.{length, get_or}
use borrow.Author.Tests.{eq-eqb, ne_eqb}
use Rattle.facts.proofs.Tests.{cases, differ, T_true}
use Rattle.facts.proofs.Bounded.{every_i}
use Rattle.grid.specs.declared.Plan.{Plan}
use Rattle.grid.specs.Plan.{cell_total}
use Rattle.mesh.specs.Mesh as mesh
use Rattle.mesh.specs.Mesh.{check, count, open_mesh}
use Rattle.mesh.proofs.Bridge.{Good, byte_at_most}
use Rattle.outcomes.specs.Calls as calls
use Rattle.outcomes.specs.Calls.{Direction, By, outcome}
use Rattle.outcomes.proofs.Results.{outcome_check}
use Rattle.planes.specs.Bits.{words_for, bytes_of, present_of, refined_of, small_at, are_small, in_order}
use Rattle.planes.specs.Planes.{cells_of, sized, size_refusal, refusal3, order_refusal, refusal4, open_planes, check_planes, count_planes, held, refused_planes, on_planes}
use Rattle.planes.specs.Demands.{Cells}
use Rattle.planes.proofs.Laws.{length_bytes, bytes_small, length_present, length_refined, planes_in_order, bytes_back_lem}
use Rattle.planes.proofs.Refusals.{both_sized}

-- ---- tables of cells

pub small_cells : (cs : List ℕ) → ((c : ℕ) → c < length cs → get_or cs c 0 ≤ 2) → T (are_small cs)
unfolding are_small small_at
small_cells cs h = every_i (length cs) (small_at cs) (λ c l. le→leb (get_or cs c 0) 2 (h c l))

pub good_cells : (p : Plan) (cs : List ℕ) → Good p cs → Cells p cs
good_cells p cs g = record { size = g.sized; small = small_cells cs (λ c l. byte_at_most p cs g c (rw g.sized at l)) }

pub held_cells : (p : Plan) (P R : List ℕ) → Cells p (cells_of p P R)
held_cells p P R = record { size = length_bytes (cell_total p) P R; small = small_cells (cells_of p P R) (λ c l. bytes_small (cell_total p) P R c) }

-- ---- refusals

past : (n : ℕ) → cond (eqb n 0) 0 n ≡ n
past n = cases (eqb n 0) (λ t. rw (eqb→eq n 0 t) refl) (λ t. rw (ne_eqb n 0 (differ n 0 t)) refl)

-- a plan and lengths that check refuses
early : (p : Plan) (cs fs : List ℕ) → mesh.refusal3 p cs fs ≢ 0 → check p cs fs ≡ mesh.refusal3 p cs fs
unfolding check
early p cs fs n = rw (ne_eqb (mesh.refusal3 p cs fs) 0 n)

module _ (p : Plan) (cs fs : List ℕ) (k : Cells p cs) where
  abbrev P : List ℕ
  P = present_of cs

  abbrev R : List ℕ
  R = refined_of cs

  -- the planes hold the cells
  pub holds : cells_of p (present_of cs) (refined_of cs) ≡ cs
  holds = ap (λ (n : ℕ). bytes_of n P R) (sym k.size) ∙ bytes_back_lem cs k.small

  pub right_sizes : sized p (present_of cs) (refined_of cs) ≡ true
  right_sizes = both_sized p P R (length_present cs ∙ ap words_for k.size) (length_refined cs ∙ ap words_for k.size)

  pub right_order : in_order (cell_total p) (present_of cs) (refined_of cs) ≡ true
  right_order = T_true _ (subst (λ (n : ℕ). T (in_order n P R)) k.size (planes_in_order cs))

  pub same_3 : refusal3 p (present_of cs) (refined_of cs) fs ≡ mesh.refusal3 p cs fs
  unfolding refusal3 size_refusal mesh.refusal3
  same_3 = rw (right_sizes, eq-eqb (length cs) (cell_total p) k.size) refl

  pub same_4 : refusal4 p (present_of cs) (refined_of cs) fs ≡ mesh.refusal3 p cs fs
  unfolding refusal4 order_refusal
  same_4 = rw (right_order, same_3) (past (mesh.refusal3 p cs fs))

  -- ---- the calls

  pub same_open : open_planes p (present_of cs) (refined_of cs) fs
      ≡ record { number = (open_mesh p cs fs).number; present = present_of (open_mesh p cs fs).cells; refined = refined_of (open_mesh p cs fs).cells; functions = (open_mesh p cs fs).functions }
  unfolding open_planes
  same_open = cases (eqb (mesh.refusal3 p cs fs) 0)
      (λ t. rw (same_3, eqb→eq (mesh.refusal3 p cs fs) 0 t, holds) refl)
      (λ t.
      let n = differ (mesh.refusal3 p cs fs) 0 t in
      rw (same_3, ne_eqb (mesh.refusal3 p cs fs) 0 n, unopened n) refl)
    where
      unopened : mesh.refusal3 p cs fs ≢ 0 → open_mesh p cs fs ≡ record { number = mesh.refusal3 p cs fs; cells = cs; functions = fs }
      unopened n = unfold open_mesh in rw (ne_eqb (mesh.refusal3 p cs fs) 0 n) refl

  pub same_check : check_planes p (present_of cs) (refined_of cs) fs ≡ check p cs fs
  unfolding check_planes
  same_check = cases (eqb (mesh.refusal3 p cs fs) 0)
      (λ t. rw (same_4, eqb→eq (mesh.refusal3 p cs fs) 0 t, holds) refl)
      (λ t.
      let n = differ (mesh.refusal3 p cs fs) 0 t in
      rw (same_4, ne_eqb (mesh.refusal3 p cs fs) 0 n) (sym (early p cs fs n)))

  pub same_count : count_planes p (present_of cs) (refined_of cs) fs ≡ count p cs fs
  unfolding count_planes
  same_count = cases (eqb (mesh.refusal3 p cs fs) 0)
      (λ t. rw (same_4, eqb→eq (mesh.refusal3 p cs fs) 0 t, holds) refl)
      (λ t.
      let n = differ (mesh.refusal3 p cs fs) 0 t in
      rw (same_4, ne_eqb (mesh.refusal3 p cs fs) 0 n) (sym (uncounted n)))
    where
      uncounted : mesh.refusal3 p cs fs ≢ 0 → count p cs fs ≡ record { number = mesh.refusal3 p cs fs; active = 0; refined = 0; functions = 0; area = 0 }
      uncounted n = unfold count in rw (early p cs fs n, ne_eqb (mesh.refusal3 p cs fs) 0 n) refl

  pub same_change : (d : Direction) (by : By) (marks cl fl : List ℕ) → on_planes (outcome d by) p (present_of cs) (refined_of cs) fs marks cl fl ≡ held (outcome d by p cs fs marks cl fl)
  unfolding on_planes refused_planes
  same_change d by marks cl fl = cases (eqb (mesh.refusal3 p cs fs) 0)
      (λ t. rw (same_4, eqb→eq (mesh.refusal3 p cs fs) 0 t, holds) refl)
      (λ t.
      let n = differ (mesh.refusal3 p cs fs) 0 t in
      let e = early p cs fs n in
      rw (same_4, ne_eqb (mesh.refusal3 p cs fs) 0 n) (sym (ap held (outcome_check d by p cs fs marks cl fl (λ q. n (sym e ∙ q)) ∙ ap (λ (m : ℕ). calls.refused m cs fs cl fl) e) ∙ refused_held (mesh.refusal3 p cs fs) cl fl)))
    where
      refused_held : (n : ℕ) (cl fl : List ℕ) → held (calls.refused n cs fs cl fl) ≡ refused_planes n P R fs cl fl
      refused_held n cl fl = unfold held calls.refused refused_planes in refl
