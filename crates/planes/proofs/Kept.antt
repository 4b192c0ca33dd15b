-- What a call leaves on planes that hold cells, accepted or refused; what open leaves; what count counts. Assumes nothing.
use mathlib.Core.Path.{◌≡◌, refl, sym, ap, ap₂, subst, ◌∙◌}
use mathlib.Core.Logic.{◌≢◌}
use mathlib.Core.List.{List}
use mathlib.Core.Bool.{true}
use Prim.Native.Nat.{ℕ, ◌≤◌}
use native.Mathlib.Omega.{arith}
use lib.Dec.{eqb, eqb→eq}
use lib.ListN.{length}
use borrow.Author.Tests.{ne_eqb}
use Rattle.facts.specs.Bounded.{sum}
use Rattle.facts.proofs.Tests.{cases, differ}
use Rattle.grid.specs.declared.Plan.{Plan}
use Rattle.grid.specs.Plan.{plan_refusal, cell_total}
use Rattle.mesh.specs.Mesh.{check, count, open_mesh}
use Rattle.mesh.proofs.Bridge.{check_good}
use Rattle.mesh.proofs.Fresh.{opened_checked}
use Rattle.outcomes.specs.declared.Answer.{Answer}
use Rattle.outcomes.specs.Calls.{Direction, By, Outcome, outcome}
use Rattle.outcomes.proofs.Results.{call_accepted, call_refused}
use Rattle.planes.specs.Bits.{words_for, Words, present_of, refined_of, Holding, active_ones, ones_at}
use Rattle.planes.specs.Planes.{cells_of, planes_length, most_plane_words, refusal3, refusal4, open_planes, check_planes, count_planes, held, refused_planes, on_planes}
use Rattle.planes.specs.Demands.{Cells, Left}
use Rattle.planes.proofs.Laws.{present_back_lem, refined_back_lem, planes_hold}
use Rattle.planes.proofs.Counts.{active_tally, refined_tally}
use Rattle.planes.proofs.Refusals.{size_0, right_of, held_of, holding_of, check_of}
use Rattle.planes.proofs.Same.{good_cells, held_cells, holds, same_check, same_change}

-- a table of the plan's cells is held by its planes
pub cells_hold : (p : Plan) (cs : List ℕ) → Cells p cs → Holding (cell_total p) (present_of cs) (refined_of cs)
cells_hold p cs k = subst (λ (n : ℕ). Holding n (present_of cs) (refined_of cs)) k.size (planes_hold cs)

module _ (d : Direction) (by : By) (p : Plan) (P R fs marks cl fl : List ℕ) where
  abbrev made : Outcome
  made = outcome d by p (cells_of p P R) fs marks cl fl

  -- the cells that the byte call leaves
  pub made_cells : Cells p (outcome d by p (cells_of p P R) fs marks cl fl).cells
  made_cells = cases (eqb made.answer.number 0)
      (λ t. good_cells p made.cells (check_good p made.cells made.functions (call_accepted d by p (cells_of p P R) fs marks cl fl (eqb→eq made.answer.number 0 t)).checked).0)
      (λ t. subst (Cells p) (sym (call_refused d by p (cells_of p P R) fs marks cl fl (differ made.answer.number 0 t)).cells) (held_cells p P R))

  module _ (h : Holding (cell_total p) P R) where
    -- planes that hold cells are those of their bytes
    pub held_made : on_planes (outcome d by) p P R fs marks cl fl ≡ held (outcome d by p (cells_of p P R) fs marks cl fl)
    held_made = ap₂ (λ (X Y : List ℕ). on_planes (outcome d by) p X Y fs marks cl fl) (sym (present_back_lem (cell_total p) P R h)) (sym (refined_back_lem (cell_total p) P R h))
        ∙ same_change p (cells_of p P R) fs (held_cells p P R) d by marks cl fl

    pub left : Left d by p P R fs marks cl fl
    unfolding held
    left = record {
      cells = rw held_made (holds p made.cells fs made_cells);
      holding = rw held_made (cells_hold p made.cells made_cells);
    }

    -- a refusal of the byte call
    pub held_refused : (outcome d by p (cells_of p P R) fs marks cl fl).answer.number ≢ 0
        → held (outcome d by p (cells_of p P R) fs marks cl fl) ≡ refused_planes (outcome d by p (cells_of p P R) fs marks cl fl).answer.number P R fs cl fl
    unfolding held refused_planes
    held_refused n =
        let r = call_refused d by p (cells_of p P R) fs marks cl fl n in
        parts r.no_cells r.no_functions (ap present_of r.cells ∙ present_back_lem (cell_total p) P R h) (ap refined_of r.cells ∙ refined_back_lem (cell_total p) P R h) r.functions r.cell_list r.function_list
      where
        parts : {a : Answer} {P' R' fs' cl' fl' : List ℕ} → a.cells ≡ 0 → a.functions ≡ 0 → P' ≡ P → R' ≡ R → fs' ≡ fs → cl' ≡ cl → fl' ≡ fl
            → record { answer = a; present = P'; refined = R'; functions = fs'; cell_list = cl'; function_list = fl' } ≡ refused_planes a.number P R fs cl fl
        parts x y e f g k l = unfold refused_planes in rw (e, f, g, k, l) (ap (λ (a : Answer). record { answer = a; present = P; refined = R; functions = fs; cell_list = cl; function_list = fl }) (answers x y))
          where
            answers : {a : Answer} → a.cells ≡ 0 → a.functions ≡ 0 → a ≡ record { number = a.number; cells = 0; functions = 0 }
            answers {a} x y = ap₂ (λ (n m : ℕ). record { number = a.number; cells = n; functions = m }) x y

  pub refused_planes_lem : Words P → Words R → (on_planes (outcome d by) p P R fs marks cl fl).answer.number ≢ 0
      → on_planes (outcome d by) p P R fs marks cl fl ≡ refused_planes (on_planes (outcome d by) p P R fs marks cl fl).answer.number P R fs cl fl
  refused_planes_lem u v n = cases (eqb (refusal4 p P R fs) 0)
      (λ t.
      let h = holding_of p P R fs (held_of p P R fs (eqb→eq (refusal4 p P R fs) 0 t)) u v in
      by_held (held_made h) (held_refused h))
      (λ t. by_planes (differ (refusal4 p P R fs) 0 t))
    where
      by_held : on_planes (outcome d by) p P R fs marks cl fl ≡ held made → (made.answer.number ≢ 0 → held made ≡ refused_planes made.answer.number P R fs cl fl)
          → on_planes (outcome d by) p P R fs marks cl fl ≡ refused_planes (on_planes (outcome d by) p P R fs marks cl fl).answer.number P R fs cl fl
      by_held e f = rw e (unfold held in f (rw e at n))

      by_planes : refusal4 p P R fs ≢ 0 → on_planes (outcome d by) p P R fs marks cl fl ≡ refused_planes (on_planes (outcome d by) p P R fs marks cl fl).answer.number P R fs cl fl
      by_planes z = unfold on_planes refused_planes in rw (ne_eqb (refusal4 p P R fs) 0 z) refl

-- ---- the words of a plane

pub most_words : (p : Plan) → planes_length p ≤ most_plane_words
unfolding planes_length words_for
most_words p = cases (eqb (plan_refusal p) 0)
    (λ t. let e = eqb→eq (plan_refusal p) 0 t in rw e (omega (arith, (right_of p true (sym (size_0 p true e refl))).small)))
    (λ t. rw (ne_eqb (plan_refusal p) 0 (differ (plan_refusal p) 0 t)) (omega arith))

-- ---- open

pub opened_passes_lem : (p : Plan) (P R fs : List ℕ) → (open_planes p P R fs).number ≡ 0
    → check_planes p (open_planes p P R fs).present (open_planes p P R fs).refined (open_planes p P R fs).functions ≡ 0
unfolding open_planes
opened_passes_lem p P R fs e = cases (eqb (refusal3 p P R fs) 0)
    (λ t. rw (eqb→eq (refusal3 p P R fs) 0 t) (fresh (rw (eqb→eq (refusal3 p P R fs) 0 t) at e)))
    (λ t. let n = differ (refusal3 p P R fs) 0 t in absurd (n (rw (ne_eqb (refusal3 p P R fs) 0 n) at e)))
  where
    fresh : (open_mesh p (cells_of p P R) fs).number ≡ 0 → check_planes p (present_of (open_mesh p (cells_of p P R) fs).cells) (refined_of (open_mesh p (cells_of p P R) fs).cells) (open_mesh p (cells_of p P R) fs).functions ≡ 0
    fresh z =
        let o = open_mesh p (cells_of p P R) fs in
        let k = opened_checked p (cells_of p P R) fs z in
        same_check p o.cells o.functions (good_cells p o.cells (check_good p o.cells o.functions k).0) ∙ k

-- ---- count

module _ (p : Plan) (P R fs : List ℕ) (u : Words P) (v : Words R) (e : check_planes p P R fs ≡ 0) where
  passing : (refusal4 p P R fs ≡ 0) × (check p (cells_of p P R) fs ≡ 0)
  passing = check_of p P R fs e

  hold : Holding (cell_total p) P R
  hold = holding_of p P R fs (held_of p P R fs passing.0) u v

  pub active_by_ones_lem : (count_planes p P R fs).active ≡ sum (length P) (active_ones P R)
  unfolding count_planes count
  active_by_ones_lem = rw (passing.0, passing.1) (sym (active_tally (cell_total p) P R hold))

  pub refined_by_ones_lem : (count_planes p P R fs).refined ≡ sum (length R) (ones_at R)
  unfolding count_planes count
  refined_by_ones_lem = rw (passing.0, passing.1) (sym (refined_tally (cell_total p) P R hold))
