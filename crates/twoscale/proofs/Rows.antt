-- What is in one function of the next level: three numbers of quarters side by side, which make 1. Assumes nothing.
use mathlib.Core.Path.{◌≡◌, refl, sym, ap, ◌∙◌}
use Prim.Native.Nat.{ℕ, ◌+◌, ◌*◌, ◌<◌}
use native.Mathlib.Omega.{arith}
use lib.Dec.{eqb, eqb→eq}
use Rattle.facts.proofs.Tests.{cases, differ}
use Rattle.grid.specs.declared.Side.{Side}
use Rattle.grid.specs.Knots.{functions}
use Rattle.splines.specs.Values.{scale}
use Rattle.splines.proofs.Three.{three, three_shift}
use Rattle.twoscale.specs.TwoScale.{coefficient}
use Rattle.twoscale.specs.Claims.{Halved}

-- in function j of the next level are a quarters of function f, b of the one behind it and d of the one behind that, and none of others
pub record Row (s s' : Side) (f j a b d : ℕ) : Type 0 where
  pub all : a + b + d ≡ 4
  pub last : s.degree ≡ 1 → d ≡ 0
  pub are : (i : ℕ) → i < functions s → coefficient s s' i j * 4 ≡ three f a b d i * scale 2 s.degree

-- counted from the next function on, or from the one before
pub row_on : (s s' : Side) (f g j b d : ℕ) → g ≡ f + 1 → Row s s' f j 0 b d → Row s s' g j b d 0
row_on s s' f g j b d e r = record {
  all = omega (arith, r.all);
  last = λ z. refl;
  are = λ i l. r.are i l ∙ ap (λ k. k * scale 2 s.degree) (three_shift f b d i ∙ ap (λ k. three k b d 0 i) (sym e));
}

pub row_back : (s s' : Side) (f g j a b : ℕ) → g ≡ f + 1 → (s.degree ≡ 1 → b ≡ 0) → Row s s' g j a b 0 → Row s s' f j 0 a b
row_back s s' f g j a b e h r = record {
  all = omega (arith, r.all);
  last = h;
  are = λ i l. r.are i l ∙ ap (λ k. k * scale 2 s.degree) (ap (λ k. three k a b 0 i) e ∙ sym (three_shift f a b i));
}

-- degree 1, or 2
pub by_degree : {C : Type 0} (s s' : Side) → Halved s s' → (s.degree ≡ 1 → C) → (s.degree ≡ 2 → C) → C
by_degree s s' half a b =
    cases (eqb s.degree 1)
    (λ y. a (eqb→eq s.degree 1 y)) (λ y. b (omega (arith, differ s.degree 1 y, half.sized.degree≥, half.degree≤)))
