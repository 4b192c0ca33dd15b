-- A refinement with heights keeps the shape, and tables, lists and refusals are those of the call without heights. Assumes nothing.
use mathlib.Core.Path.{◌≡◌, refl, sym, ap, ◌∙◌}
use mathlib.Core.Bool.{true}
use mathlib.Core.Logic.{◌≢◌}
use mathlib.Core.List.{List}
use Prim.Native.Nat.{ℕ, suc}
use native.Mathlib.Omega.{arith}
use lib.Dec.{T, eqb, eqb→eq}
use lib.IntN.{ℤ}
use lib.ListN.{length}
use Rattle.facts.proofs.Tests.{cases, differ, not_e, or_l, T_true, T_false}
use Rattle.exact.specs.Dyadic.{dyadic}
use Rattle.grid.specs.declared.Plan.{Plan}
use Rattle.grid.specs.Plan.{function_total}
use Rattle.mesh.specs.Mesh.{refined, labels, check}
use Rattle.mesh.proofs.Bridge.{check_good, is_mesh_lem}
use Rattle.outcomes.specs.Calls.{By, refine, selected, base, Outcome, refused}
use Rattle.outcomes.specs.Demands.{Accepted}
use Rattle.outcomes.proofs.Results.{accepted, Made, refusal_of, accepted_as, made, call_accepted}
use Rattle.heights.specs.Heights.{on_mesh, height_sum, places, all_low, heights_refusal, answer}
use Rattle.heights.proofs.Refusals.{fine, answered, refused_point}
use Rattle.carry.specs.Carry.{carry}
use Rattle.carry.specs.Steps.{Grows}
use Rattle.carry.proofs.Scales.{scales}
use Rattle.carry.proofs.Kept.{kept, carry_length}
use Rattle.refining.specs.Refining.{WithHeights, tables_refusal, refused_with}
use Rattle.refining.specs.Demands.{without, result, number, Shaped}
use Rattle.carry.proofs.NewHeights.{allowed}
use Rattle.refining.proofs.Outcomes.{tables_none, whole_tables, whole_refused, whole_carried, carry_high, carry_low}

-- ---- two surfaces of one shape

-- heights of as many functions are refused alike where both are low
alike : (p : Plan) (fs fs' : List ℕ) (hs hs' : List ℤ) → length hs' ≡ length hs → all_low p fs' hs' ≡ all_low p fs hs → heights_refusal p fs' hs' ≡ heights_refusal p fs hs
unfolding heights_refusal
alike p fs fs' hs hs' l e = rw (l, e) refl

-- neither is refused, and both sums are the same
module _ (p : Plan) (cs fs cs' fs' : List ℕ) (hs hs' : List ℤ) (c : check p cs fs ≡ 0) (c' : check p cs' fs' ≡ 0)
    (h : heights_refusal p fs hs ≡ 0) (h' : heights_refusal p fs' hs' ≡ 0) (x y : ℕ) where
  same_answer : (T (on_mesh p x y) → height_sum p fs' hs' x y ≡ height_sum p fs hs x y) → answer p cs' fs' hs' x y ≡ answer p cs fs hs x y
  same_answer e = cases (on_mesh p x y)
      (λ t. let m = T_true (on_mesh p x y) t in
      sym (answered p cs' fs' hs' x y c' h' m refl) ∙ answered p cs fs hs x y c h m (ap (dyadic (places p.levels)) (e t)))
      (λ t. let m = T_false (on_mesh p x y) (not_e (on_mesh p x y) t) in
      sym (refused_point p cs' fs' hs' x y c' h' m) ∙ refused_point p cs fs hs x y c h m)

-- ---- a call

module _ (by : By) (p : Plan) (cs fs : List ℕ) (hs : List ℤ) (marks cl fl : List ℕ) where
  abbrev n : ℕ
  n = tables_refusal p cs fs hs

  abbrev o : Outcome
  o = without by p cs fs hs marks cl fl

  abbrev whole : WithHeights
  whole = result by p cs fs hs marks cl fl

  abbrev hs' : List ℤ
  hs' = carry p fs o.functions hs

  -- refused by the tables and heights, as without heights, by 17, or accepted
  data Way : Type 0 where
    by_tables : n ≢ 0 → whole ≡ refused_with n cs fs hs cl fl → Way
    by_call : o.answer.number ≢ 0 → whole ≡ record { outcome = o; heights = hs } → Way
    by_height : whole ≡ refused_with 17 cs fs hs cl fl → Way
    carries : n ≡ 0 → o.answer.number ≡ 0 → all_low p o.functions hs' ≡ true → whole ≡ record { outcome = o; heights = hs' } → Way

  way : Way
  way = cases (eqb n 0)
      (λ a. let e : n ≡ 0 = eqb→eq _ _ a in
      cases (eqb o.answer.number 0)
      (λ b. let z : o.answer.number ≡ 0 = eqb→eq _ _ b in
      let w = whole_carried by p cs fs hs marks cl fl e z in
      let low = all_low p o.functions hs' in
      cases low
      (λ t. carries e z (T_true low t) (w ∙ carry_low p cs fs hs cl fl o (T_true low t)))
      (λ t. by_height (w ∙ carry_high p cs fs hs cl fl o (T_false low (not_e low t)))))
      (λ b. by_call (differ _ _ b) (whole_refused by p cs fs hs marks cl fl e (differ _ _ b))))
      (λ a. by_tables (differ _ _ a) (whole_tables by p cs fs hs marks cl fl (differ _ _ a)))

  numbered : {w : WithHeights} → whole ≡ w → number by p cs fs hs marks cl fl ≡ w.outcome.answer.number
  numbered e = ap (λ (w : WithHeights). w.outcome.answer.number) e

  refused_number : (m : ℕ) → (refused_with m cs fs hs cl fl).outcome.answer.number ≡ m
  unfolding refused_with refused
  refused_number m = refl

  is_number : {m : ℕ} → whole ≡ refused_with m cs fs hs cl fl → number by p cs fs hs marks cl fl ≡ m
  is_number {m} e = numbered e ∙ refused_number m

  same_outcome : Way → number by p cs fs hs marks cl fl ≡ 0 → whole.outcome ≡ o
  same_outcome (by_tables k e) z = absurd (k (sym (is_number e) ∙ z))
  same_outcome (by_call k e) z = ap (λ (w : WithHeights). w.outcome) e
  same_outcome (by_height e) z = absurd (omega (arith, is_number e, z))
  same_outcome (carries _ _ _ e) z = ap (λ (w : WithHeights). w.outcome) e

  -- a refusal keeps everything
  kept_all : (m : ℕ) → whole ≡ refused_with m cs fs hs cl fl → whole ≡ refused_with (number by p cs fs hs marks cl fl) cs fs hs cl fl
  kept_all m e = e ∙ ap (λ m. refused_with m cs fs hs cl fl) (sym (is_number e))

  refused_is : Made refine by p cs fs marks cl fl o → o.answer.number ≢ 0 → whole ≡ record { outcome = o; heights = hs }
      → whole ≡ refused_with (number by p cs fs hs marks cl fl) cs fs hs cl fl
  unfolding accepted refused_with
  refused_is (refusal_of m e) k w = kept_all (suc m) (w ∙ ap (λ (u : Outcome). record { outcome = u; heights = hs }) e)
  refused_is (accepted_as cs' fs' ec ef r a b e) k w = absurd (k (ap (λ (u : Outcome). u.answer.number) e))

  kept_by : Way → number by p cs fs hs marks cl fl ≢ 0 → whole ≡ refused_with (number by p cs fs hs marks cl fl) cs fs hs cl fl
  kept_by (by_tables k e) z = kept_all n e
  kept_by (by_call k e) z = refused_is (made refine by p cs fs marks cl fl) k e
  kept_by (by_height e) z = kept_all 17 e
  kept_by (carries _ k _ e) z = absurd (z (numbered e ∙ k))

  -- ---- the shape

  module _ (e : n ≡ 0) (k : o.answer.number ≡ 0) (l : all_low p o.functions hs' ≡ true) where
    after : Accepted refine by p cs fs marks cl fl o
    after = call_accepted refine by p cs fs marks cl fl k

    c : check p cs fs ≡ 0
    c = (tables_none p cs fs hs e).0

    h : heights_refusal p fs hs ≡ 0
    h = (tables_none p cs fs hs e).1

    grows : Grows p cs o.cells
    unfolding base
    grows = record {
      before = is_mesh_lem p cs (check_good p cs fs c).0;
      after = after.smallest.one.mesh;
      stays = λ c i r. after.smallest.one.has c i (or_l (refined cs c) (selected refine by p cs fs marks c) r);
    }

    h' : heights_refusal p o.functions hs' ≡ 0
    h' = alike p fs o.functions hs hs' (carry_length p fs o.functions hs sized ∙ sym sized) (l ∙ sym (T_true _ (fine p fs hs h).low)) ∙ h
      where
        sized : length hs ≡ function_total p
        sized = (fine p fs hs h).sized

    keeps : (fs₀ fs₁ : List ℕ) → fs₀ ≡ labels p cs → fs₁ ≡ labels p o.cells → (x y : ℕ) → T (on_mesh p x y)
        → height_sum p fs₁ (carry p fs₀ fs₁ hs) x y ≡ height_sum p fs₀ hs x y
    keeps fs₀ fs₁ a b x y t =
        let g = allowed p fs hs (check_good p cs fs c).0.range h in
        rw (a, b) (kept p g (scales p g) cs o.cells grows hs (fine p fs hs h).sized x y t)

    shape : (x y : ℕ) → answer p o.cells o.functions hs' x y ≡ answer p cs fs hs x y
    shape x y = same_answer p cs fs o.cells o.functions hs hs' c after.checked h h' x y
        (keeps fs o.functions (check_good p cs fs c).1 (check_good p o.cells o.functions after.checked).1 x y)

  shape_by : Way → number by p cs fs hs marks cl fl ≡ 0 → (x y : ℕ) → answer p whole.outcome.cells whole.outcome.functions whole.heights x y ≡ answer p cs fs hs x y
  shape_by (by_tables k e) z x y = absurd (k (sym (is_number e) ∙ z))
  shape_by (by_call k e) z x y = absurd (k (sym (numbered e) ∙ z))
  shape_by (by_height e) z x y = absurd (omega (arith, is_number e, z))
  shape_by (carries a k l e) z x y = ap (λ (w : WithHeights). answer p w.outcome.cells w.outcome.functions w.heights x y) e ∙ shape a k l x y

  pub shaped : Shaped by p cs fs hs marks cl fl
  shaped = record {
    kept = shape_by way;
    same = same_outcome way;
    refusals = λ e k. ap (λ (w : WithHeights). w.outcome) (whole_refused by p cs fs hs marks cl fl e k);
    nothing = kept_by way;
  }
