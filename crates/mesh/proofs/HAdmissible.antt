-- Document 02, Req 12: "Old graded walls pass". Assumes nothing.
use mathlib.Core.List.{List}
use mathlib.Core.Path.{◌≡◌}
use Prim.Native.Nat.{ℕ}
use lib.Dec.{T}
use Rattle.facts.specs.Bounded.{implies, every}
use Rattle.facts.proofs.Tests.{implies_i, implies_e}
use Rattle.facts.proofs.Bounded.{every_i, every_e}
use Rattle.grid.specs.declared.Plan.{Plan}
use Rattle.grid.specs.Plan.{cell_total, near}
use Rattle.grid.specs.HNear.{h_near}
use Rattle.grid.specs.Range.{InRange}
use Rattle.grid.proofs.HNear.{h_near_lem}
use Rattle.mesh.specs.Mesh.{refined, is_mesh, is_admissible, is_labelled, refusal3, check}
use Rattle.mesh.specs.HAdmissible.{is_h_admissible, h_check}
use Rattle.mesh.proofs.Bridge.{chain, pass, passed, unchecked}

-- a mesh that is admissible by the rule before is admissible
pub still_admissible : (p : Plan) → InRange p → (cells : List ℕ) → T (is_h_admissible p cells) → T (is_admissible p cells)
unfolding is_h_admissible is_admissible
still_admissible p range cells t = every_i (cell_total p) _ (λ q i. implies_i (refined cells q) _ (λ r. every_i (cell_total p) _ (λ c j. implies_i (near p q c) (refined cells c) (λ n.
    implies_e (h_near p q c) (refined cells c)
    (every_e (cell_total p) (λ c. implies (h_near p q c) (refined cells c))
    (implies_e (refined cells q) _ (every_e (cell_total p) (λ q. implies (refined cells q) (every (cell_total p) (λ c. implies (h_near p q c) (refined cells c)))) t q i) r)
    c j) (h_near_lem p range q c i n)))))

-- and what check passed by that rule it passes
pub still_checked : (p : Plan) (cells functions : List ℕ) → h_check p cells functions ≡ 0 → check p cells functions ≡ 0
unfolding h_check
still_checked p cells functions e =
    let (r3, r6) = chain (refusal3 p cells functions) _ e in
    let (t4, e4) = pass (is_mesh p cells) 3 _ r6 in
    let (t5, e5) = pass (is_h_admissible p cells) 4 _ e4 in
    let (t6, e6) = pass (is_labelled p cells functions) 5 0 e5 in
    let s = passed p cells functions r3 in
    unchecked p cells functions (record { passed = s; mesh = t4; admissible = still_admissible p s.range cells t5; labelled = t6 })
