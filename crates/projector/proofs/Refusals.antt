-- The refusals in their order, and what they leave. Assumes nothing.
use mathlib.Core.Path.{◌≡◌, refl, sym, ◌∙◌}
use mathlib.Core.Logic.{◌≢◌}
use mathlib.Core.Bool.{Bool, true, false, not, cond}
use mathlib.Core.List.{List}
use Prim.Native.Nat.{ℕ, zero, suc, ◌≤◌, ◌<◌}
use native.Mathlib.Omega.{arith}
use lib.Dec.{ltb, eqb-suc-zero, nltb→le}
use lib.IntN.{ℤ}
use lib.ListN.{length}
use borrow.Author.Tests.{ne_eqb, lt-ltb, le-ltb}
use Rattle.facts.proofs.Tests.{T_true}
use Rattle.grid.specs.declared.Plan.{Plan}
use Rattle.grid.specs.Plan.{in_range, too_large, cell_total, function_total, plan_refusal as grid_refusal}
use Rattle.grid.specs.Range.{InRange}
use Rattle.grid.proofs.Laws.{taken, refused as plan_refused}
use Rattle.mesh.specs.Mesh.{check}
use Rattle.mesh.proofs.Bridge.{chain, check_passed}
use Rattle.heights.specs.Heights.{on_mesh, heights_refusal}
use Rattle.heights.proofs.Refusals.{on_surface}
use Rattle.projector.specs.declared.CornersAnswer.{CornersAnswer}
use Rattle.projector.specs.Projector.{most_projected, corners, plan_refusal, mesh_refusal, refusal, CornersOutcome, refused, filled, project}
use Rattle.projector.specs.Steps.{Ready}

-- refusals 1 to 3, by what they judge
abbrev pub three : Bool → Bool → Bool → ℕ
three a b c = cond (not a) 1 (cond b 2 (cond (not c) 3 0))

-- ---- 16

pub small : (p : Plan) → plan_refusal p ≡ 0 → cell_total p ≤ most_projected
unfolding plan_refusal
small p e = go (in_range p) (too_large p) (ltb most_projected (cell_total p)) refl e
  where
    go : (a b d : Bool) → ltb most_projected (cell_total p) ≡ d → ◌≡◌ {A = ℕ} (cond (not a) 1 (cond b 2 (cond d 16 0))) 0 → cell_total p ≤ most_projected
    go true false false q e = nltb→le most_projected (cell_total p) (rw q tt)
    go true false true q e = absurd (omega arith)
    go true true d q e = absurd (omega arith)
    go false b d q e = absurd (omega arith)

pub plan_16 : (p : Plan) → in_range p ≡ true → too_large p ≡ false → most_projected < cell_total p → plan_refusal p ≡ 16
unfolding plan_refusal
plan_16 p a b l = rw (a, b, lt-ltb most_projected (cell_total p) l) refl

-- ---- the order

module _ (p : Plan) (cells functions : List ℕ) where
  -- 1 and 2
  pub refuse_plan : grid_refusal p ≢ 0 → grid_refusal p ≡ mesh_refusal p cells functions
  unfolding mesh_refusal plan_refusal
  refuse_plan e = sym (rw (plan_refused p _ e, ne_eqb (grid_refusal p) 0 e) refl)

  pub refuse_16 : grid_refusal p ≡ 0 → most_projected < cell_total p → 16 ≡ mesh_refusal p cells functions
  unfolding mesh_refusal plan_refusal
  refuse_16 e l = sym (rw (taken p (cond (ltb most_projected (cell_total p)) 16 0) e, lt-ltb most_projected (cell_total p) l) refl)

  pub refuse_later : grid_refusal p ≡ 0 → cell_total p ≤ most_projected → check p cells functions ≡ mesh_refusal p cells functions
  unfolding mesh_refusal plan_refusal
  refuse_later e l = sym (rw (taken p (cond (ltb most_projected (cell_total p)) 16 0) e, le-ltb most_projected (cell_total p) l) refl)

  -- ---- what they leave

  pub record Passed : Type 0 where
    pub checked : check p cells functions ≡ 0
    pub range : InRange p
    pub of_cells : length cells ≡ cell_total p
    pub of_functions : length functions ≡ function_total p
    pub small≤ : cell_total p ≤ most_projected

  pub passed : mesh_refusal p cells functions ≡ 0 → Passed
  unfolding mesh_refusal
  passed e =
      let (a, c) = chain (plan_refusal p) (check p cells functions) e in
      let k = check_passed p cells functions c in
      record { checked = c; range = k.range; of_cells = k.cells; of_functions = k.functions; small≤ = small p a }

  module _ (heights : List ℤ) (out : List ℕ) where
    pub ready : mesh_refusal p cells functions ≡ 0 → heights_refusal p functions heights ≡ 0 → Ready p functions heights
    ready e h =
        let k = passed e in
        record { range = k.range; small = k.small≤; surface = λ x y t. on_surface p cells functions heights x y k.checked h (T_true (on_mesh p x y) t) }

    -- ---- the outcome

    refusal_mesh : mesh_refusal p cells functions ≢ 0 → refusal p cells functions heights ≡ mesh_refusal p cells functions
    unfolding refusal
    refusal_mesh h = rw (ne_eqb _ _ h) refl

    refusal_heights : mesh_refusal p cells functions ≡ 0 → refusal p cells functions heights ≡ heights_refusal p functions heights
    unfolding refusal
    refusal_heights e = rw e refl

    refuse : (n : ℕ) {r : CornersAnswer} → n ≡ refusal p cells functions heights → n ≢ 0 → r ≡ record { number = n; corners = 0 }
        → ◌≡◌ {A = CornersOutcome} (record { answer = r; out = out }) (project p cells functions heights out)
    unfolding project refused
    refuse zero e h q = absurd (h refl)
    refuse (suc n) e h q = rw (← e, eqb-suc-zero n, q)

    pub refused_mesh : {n : ℕ} {r : CornersAnswer} → n ≡ mesh_refusal p cells functions → n ≢ 0 → r ≡ record { number = n; corners = 0 }
        → ◌≡◌ {A = CornersOutcome} (record { answer = r; out = out }) (project p cells functions heights out)
    refused_mesh e h q = refuse _ (e ∙ sym (refusal_mesh (λ z. h (e ∙ z)))) h q

    pub refused_heights : {n : ℕ} {r : CornersAnswer} → mesh_refusal p cells functions ≡ 0 → n ≡ heights_refusal p functions heights → n ≢ 0
        → r ≡ record { number = n; corners = 0 } → ◌≡◌ {A = CornersOutcome} (record { answer = r; out = out }) (project p cells functions heights out)
    refused_heights z e h q = refuse _ (e ∙ sym (refusal_heights z)) h q

    pub accepted : {o : CornersOutcome} → mesh_refusal p cells functions ≡ 0 → heights_refusal p functions heights ≡ 0
        → o ≡ filled (corners p functions heights cells) out → o ≡ project p cells functions heights out
    unfolding project
    accepted z e q = q ∙ rw (refusal_heights z ∙ e)
