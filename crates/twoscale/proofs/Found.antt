-- What is in a function of the next level that covers a cell's half, at degrees 1 and 2. Assumes nothing.
use mathlib.Core.Path.{◌≡◌, ap, subst, ◌∙◌}
use Prim.Native.Nat.{ℕ, suc, ◌+◌, ◌*◌, ◌/◌, ◌%◌, ◌≤◌, ◌<◌}
use native.Mathlib.Nat.{le_refl, mul-div_cancel}
use native.Mathlib.Omega.{arith}
use lib.Dec.{T, eqb, eqb→eq}
use Rattle.facts.proofs.Tests.{cases, differ}
use Rattle.grid.specs.declared.Side.{Side}
use Rattle.grid.specs.Knots.{functions, covers, first_over}
use Rattle.grid.specs.Side.{support_span}
use Rattle.grid.proofs.Knots.{knots_to, covers_fact}
use Rattle.grid.proofs.SideLaws.{in_test, support_is, support_span_in}
use Rattle.splines.specs.Values.{scale}
use Rattle.splines.proofs.Three.{three, places}
use Rattle.splines.proofs.Values.{degrees}
use Rattle.twoscale.specs.TwoScale.{quarters}
use Rattle.twoscale.specs.Claims.{Halved}
use Rattle.twoscale.proofs.Finer.{sized'}
use Rattle.twoscale.proofs.Lines.{knots_even, knots_odd}
use Rattle.twoscale.proofs.Rows.{Row, by_degree}
use Rattle.twoscale.proofs.Rows1 as degree1
use Rattle.twoscale.proofs.Rows2 as degree2

-- its three numbers, from the first function over cell c on
pub record Found (s s' : Side) (c j : ℕ) : Type 0 where
  pub inside : c < s.cells
  pub low : ℕ
  pub middle : ℕ
  pub high : ℕ
  pub row : Row s s' (first_over s c) j low middle high

by_row : {s s' : Side} {c j a b d : ℕ} → c < s.cells → Row s s' (first_over s c) j a b d → Found s s' c j
by_row {a = a} {b} {d} l r = record { inside = l; low = a; middle = b; high = d; row = r }

module _ (s s' : Side) (half : Halved s s') where
  -- the first function over each half
  pub first_before : (c : ℕ) → c < s.cells → first_over s' (2 * c) ≡ first_over s c + c
  first_before c l = omega (arith, half.degree, half.cells, knots_to s half.sized c l, knots_to s' (sized' s s' half) (2 * c) (omega (arith, half.cells)), knots_even s s' half c (omega arith))

  pub first_behind : (c : ℕ) → c < s.cells → first_over s' (suc (2 * c)) ≡ first_over s c + c + 1
  first_behind c l = omega (arith, half.degree, half.cells, knots_to s half.sized c l, knots_to s' (sized' s s' half) (suc (2 * c)) (omega (arith, half.cells)), knots_odd s s' half c l)

  found : (c j : ℕ) → c < s.cells → first_over s c + c ≤ j → j ≤ first_over s c + c + s.degree + 1 → Found s s' c j
  found c j l a b =
      by_degree s s' half
      (λ e. places (first_over s c + c) j
      (λ z. by_row l (degree1.row_0 s s' half e c l j z))
      (λ z. by_row l (degree1.row_1 s s' half e c l j z))
      (λ z. by_row l (degree1.row_2 s s' half e c l j z))
      (λ z w k. absurd (omega arith)))
      (λ e. places (first_over s c + c) j
      (λ z. by_row l (degree2.row_0 s s' half e c l j z))
      (λ z. by_row l (degree2.row_1 s s' half e c l j z))
      (λ z. by_row l (degree2.row_2 s s' half e c l j z))
      (λ z w k. by_row l (degree2.row_3 s s' half e c l j (omega arith))))

  pub found_over : (j c : ℕ) → T (covers s' j c) → Found s s' (c / 2) j
  found_over j c t =
      let (l, a, b) = covers_fact s' (sized' s s' half) j c t in
      let k : c / 2 < s.cells = omega (arith, half.cells) in
      cases (eqb (c % 2) 0)
      (λ y. let e : c ≡ 2 * (c / 2) = omega (arith, eqb→eq (c % 2) 0 y) in
      let g = ap (first_over s') e ∙ first_before (c / 2) k in
      found (c / 2) j k (omega arith) (omega (arith, half.degree)))
      (λ y. let e : c ≡ suc (2 * (c / 2)) = omega (arith, differ (c % 2) 0 y) in
      let g = ap (first_over s') e ∙ first_behind (c / 2) k in
      found (c / 2) j k (omega arith) (omega (arith, half.degree)))

  -- each covers some cell
  pub over_some : (j : ℕ) → j < functions s' → (c : ℕ) × Found s s' c j
  over_some j l =
      let c = (support_span s' j).first in
      let t = in_test (support_span s' j) c (record { from = le_refl c; to = (support_span_in s' (sized' s s' half) j l).some }) in
      (c / 2, found_over j c (subst T (support_is s' (sized' s s' half) j c) t))

  scale≥ : 1 ≤ scale 2 s.degree
  unfolding scale
  scale≥ = degrees (λ p. 1 ≤ scale 2 p) (omega arith) (omega arith) s.degree half.sized.degree≥ half.degree≤

  -- nothing is lost in quarters
  pub quarters_row : (f i j a b d : ℕ) → Row s s' f j a b d → i < functions s → quarters s s' i j ≡ three f a b d i
  unfolding quarters
  quarters_row f i j a b d r l = rw (r.are i l) (mul-div_cancel (three f a b d i) {n = scale 2 s.degree} scale≥)
