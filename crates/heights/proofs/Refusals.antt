-- The refusals in their order, and the answer. Assumes nothing.
use mathlib.Core.Path.{◌≡◌, refl, sym, ◌∙◌}
use mathlib.Core.Bool.{Bool, true, false, ◌||◌}
use mathlib.Core.List.{List}
use Prim.Native.Nat.{ℕ, ◌≤◌}
use lib.Dec.{T, eqb, eqb→eq, ltb}
use lib.IntN.{ℤ}
use lib.Ieee.{Float}
use lib.ListN.{length}
use borrow.Author.Tests.{eq-eqb, ne_eqb, ltb-false}
use Rattle.facts.proofs.Tests.{true_T, T_false}
use Rattle.exact.specs.Dyadic.{dyadic}
use Rattle.grid.specs.declared.Plan.{Plan}
use Rattle.grid.specs.Plan.{function_total}
use Rattle.grid.specs.Range.{InRange}
use Rattle.mesh.specs.Mesh.{check}
use Rattle.mesh.proofs.Bridge.{check_passed, pass, stop}
use Rattle.heights.specs.Height.{At, Refused}
use Rattle.heights.specs.Heights.{on_mesh, height_sum, places, inexact, all_low, heights_refusal, refusal, answer}
use Rattle.heights.specs.Steps.{Point, OnSurface}

or_no : (a b : Bool) → (a || b) ≡ false → (a ≡ false) × (b ≡ false)
or_no true b e = absurd (true_T false (sym e))
or_no false b e = (refl, e)

pub record Few (p : Plan) : Type 0 where
  pub across≤ : p.degree_across ≤ 2
  pub up≤ : p.degree_up ≤ 2
  pub levels≤ : p.levels ≤ 4

pub few : (p : Plan) → inexact p ≡ false → Few p
unfolding inexact
few p e =
    let a = or_no (ltb 2 p.degree_across) _ e in
    let b = or_no (ltb 2 p.degree_up) (ltb 4 p.levels) a.1 in
    record { across≤ = ltb-false _ _ a.0; up≤ = ltb-false _ _ b.0; levels≤ = ltb-false _ _ b.1 }

pub point : (p : Plan) → InRange p → Few p → (x y : ℕ) → T (on_mesh p x y) → Point p x y
point p r f x y t = record { range = r; across≤ = f.across≤; up≤ = f.up≤; levels≤ = f.levels≤; inside = t }

module _ (p : Plan) (functions : List ℕ) (heights : List ℤ) where
  pub refuse_3 : (length heights ≡ function_total p → ⊥) → 3 ≡ heights_refusal p functions heights
  unfolding heights_refusal
  refuse_3 e = rw (ne_eqb _ _ e)

  pub refuse_14 : length heights ≡ function_total p → inexact p ≡ true → 14 ≡ heights_refusal p functions heights
  unfolding heights_refusal
  refuse_14 e f = rw (eq-eqb _ _ e, f)

  pub refuse_15 : length heights ≡ function_total p → inexact p ≡ false → all_low p functions heights ≡ false → 15 ≡ heights_refusal p functions heights
  unfolding heights_refusal
  refuse_15 e f g = rw (eq-eqb _ _ e, f, g)

  pub refuse_none : length heights ≡ function_total p → inexact p ≡ false → all_low p functions heights ≡ true → 0 ≡ heights_refusal p functions heights
  unfolding heights_refusal
  refuse_none e f g = rw (eq-eqb _ _ e, f, g)

  -- what is left where nothing is refused
  pub record Fine : Type 0 where
    pub sized : length heights ≡ function_total p
    pub exact : Few p
    pub low : T (all_low p functions heights)

  pub fine : heights_refusal p functions heights ≡ 0 → Fine
  unfolding heights_refusal
  fine e =
      let (t1, e1) = pass (eqb (length heights) (function_total p)) 2 _ e in
      let (t2, e2) = stop (inexact p) 13 _ e1 in
      let (t3, e3) = pass (all_low p functions heights) 14 _ e2 in
      record { sized = eqb→eq (length heights) (function_total p) t1; exact = few p (T_false (inexact p) t2); low = t3 }

module _ (p : Plan) (cells functions : List ℕ) (heights : List ℤ) (x y : ℕ) where
  pub refused_check : {n : ℕ} → n ≡ check p cells functions → (n ≡ 0 → ⊥) → Refused n ≡ answer p cells functions heights x y
  unfolding answer refusal
  refused_check e z = let q = ne_eqb (check p cells functions) 0 (λ w. z (e ∙ w)) in rw (q, q, e)

  pub refused_heights : {n : ℕ} → check p cells functions ≡ 0 → n ≡ heights_refusal p functions heights → (n ≡ 0 → ⊥) → Refused n ≡ answer p cells functions heights x y
  unfolding answer refusal
  refused_heights c e z = let q = ne_eqb (heights_refusal p functions heights) 0 (λ w. z (e ∙ w)) in rw (c, q, q, e)

  pub refused_point : check p cells functions ≡ 0 → heights_refusal p functions heights ≡ 0 → on_mesh p x y ≡ false → Refused 15 ≡ answer p cells functions heights x y
  unfolding answer refusal
  refused_point c e f = rw (c, e, f)

  pub answered : {h : Float} → check p cells functions ≡ 0 → heights_refusal p functions heights ≡ 0 → on_mesh p x y ≡ true
      → h ≡ dyadic (places p.levels) (height_sum p functions heights x y) → At h ≡ answer p cells functions heights x y
  unfolding answer refusal
  answered c e f g = rw (c, e, f, g)

  pub on_surface : check p cells functions ≡ 0 → heights_refusal p functions heights ≡ 0 → on_mesh p x y ≡ true → OnSurface p functions heights x y
  on_surface c e f =
      let k = check_passed p cells functions c in
      let g = fine p functions heights e in
      record {
        point = point p k.range g.exact x y (true_T _ f);
        of_functions = k.functions;
        of_heights = g.sized;
        low = g.low;
      }
