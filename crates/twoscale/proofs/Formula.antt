-- Document 000, formula 2, in one direction. Its coefficients are whole quarters, those in one function of the next level make 1, and that
-- function lies within the support of each that it is in. Assumes nothing.
use mathlib.Core.Path.{◌≡◌, sym, ap, subst, ◌∙◌}
use mathlib.Core.Logic.{◌≢◌}
use Prim.Native.Nat.{ℕ, suc, ◌-◌, ◌*◌, ◌/◌, ◌%◌, ◌≤◌, ◌<◌}
use native.Mathlib.Omega.{arith}
use lib.Dec.{T, eqb, eqb→eq}
use Rattle.facts.specs.Bounded.{sum}
use Rattle.facts.proofs.Sums.{sum_same}
use Rattle.facts.proofs.Tests.{cases, differ}
use Rattle.grid.specs.declared.Side.{Side}
use Rattle.grid.specs.Knots.{functions, covers, first_over}
use Rattle.grid.proofs.Knots.{some_cells, first_lt, covers_test}
use Rattle.splines.specs.Values.{scale, cell_of, value_on}
use Rattle.splines.proofs.Three.{three, three_2, three_off, places, three_sum}
use Rattle.splines.proofs.Local.{Point}
use Rattle.splines.proofs.Cells.{cell_inside, cell_point}
use Rattle.twoscale.specs.TwoScale.{coefficient, quarters}
use Rattle.twoscale.specs.Claims.{Halved}
use Rattle.twoscale.proofs.Finer.{sized'}
use Rattle.twoscale.proofs.Found.{found_over, over_some, quarters_row}
use Rattle.twoscale.proofs.Points.{cell_over_lem}
use Rattle.twoscale.proofs.HalfCells.{before_half, behind_half}

module _ (s s' : Side) (half : Halved s s') where
  pub whole : (i j : ℕ) → i < functions s → j < functions s' → quarters s s' i j * scale 2 s.degree ≡ coefficient s s' i j * 4
  whole i j a b =
      let (c, f) = over_some s s' half j b in
      rw (quarters_row s s' half (first_over s c) i j _ _ _ f.row a) (sym (f.row.are i a))

  pub one : (j : ℕ) → j < functions s' → sum (functions s) (λ i. quarters s s' i j) ≡ 4
  one j b =
      let (c, f) = over_some s s' half j b in
      let last = first_lt s half.sized c f.inside in
      sum_same (functions s) _ (three (first_over s c) f.low f.middle f.high) (λ i a. quarters_row s s' half (first_over s c) i j _ _ _ f.row a)
      ∙ three_sum (functions s) (first_over s c) _ _ _ (omega (arith, half.sized.degree≥)) (λ e. f.row.last (omega (arith, half.sized.degree≥)))
      ∙ f.row.all

  pub within : (i j c : ℕ) → i < functions s → j < functions s' → quarters s s' i j ≢ 0 → T (covers s' j c) → T (covers s i (c / 2))
  within i j c a b q t =
      let f = found_over s s' half j c t in
      let e = quarters_row s s' half (first_over s (c / 2)) i j _ _ _ f.row a in
      let d = half.sized.degree≥ in
      places (first_over s (c / 2)) i
      (λ z. covers_test s half.sized i (c / 2) f.inside (omega arith) (omega arith))
      (λ z. covers_test s half.sized i (c / 2) f.inside (omega arith) (omega arith))
      (λ z. cases (eqb s.degree 1)
      (λ y. absurd (q (e ∙ three_2 _ _ _ _ i z ∙ f.row.last (eqb→eq s.degree 1 y))))
      (λ y. covers_test s half.sized i (c / 2) f.inside (omega arith) (omega (arith, differ s.degree 1 y))))
      (λ z w k. absurd (q (e ∙ three_off _ _ _ _ i z w k)))

  -- formula 2
  pub formula : (h x i : ℕ) → 1 ≤ h → x ≤ s'.cells * h → i < functions s
      → value_on s (2 * h) i x ≡ sum (functions s') (λ j. quarters s s' i j * value_on s' h j x)
  formula h x i g b k =
      let c = cell_of h s'.cells x in
      let some = some_cells s' (sized' s s' half) in
      let p = cell_point h s'.cells x g some b in
      let l : c / 2 < s.cells = omega (arith, half.cells, cell_inside h s'.cells x some) in
      let over : cell_of (2 * h) s.cells x ≡ c / 2 = cell_over_lem h s.cells x ∙ ap (λ n. cell_of h n x / 2) (sym half.cells) in
      cases (eqb (c % 2) 0)
      (λ y. let e : c ≡ 2 * (c / 2) = omega (arith, eqb→eq (c % 2) 0 y) in
      before_half s s' half h x i k (c / 2) l g over (x - c * h) (suc c * h - x) e (subst (λ a. Point h a x (x - c * h) (suc c * h - x)) e p))
      (λ y. let e : c ≡ suc (2 * (c / 2)) = omega (arith, differ (c % 2) 0 y) in
      behind_half s s' half h x i k (c / 2) l g over (x - c * h) (suc c * h - x) e (subst (λ a. Point h a x (x - c * h) (suc c * h - x)) e p))
