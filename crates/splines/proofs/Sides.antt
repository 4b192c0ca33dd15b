-- The values at a point of a side: those of the functions over its cell are as code computes them, the others are 0; together they make
-- 1, and on a line both its cells give them. Assumes nothing.
use mathlib.Core.Path.{◌≡◌, ◌∙◌}
use mathlib.Core.Bool.{Bool, true, false, cond}
use Prim.Native.Nat.{ℕ, zero, suc, ◌+◌, ◌-◌, ◌*◌, ◌<◌, ◌≤◌}
use native.Mathlib.Omega.{arith}
use lib.Dec.{eqb, eqb→eq}
use Rattle.facts.specs.Bounded.{sum}
use Rattle.facts.proofs.Sums.{sum_same}
use Rattle.facts.proofs.Tests.{cases, not_e, T_true, T_false, eqb_of, differ}
use Rattle.grid.specs.declared.Side.{Side}
use Rattle.grid.specs.Knots.{times, knot_on, functions, first_over}
use Rattle.grid.proofs.Knots.{knot_next, some_cells, knots_to, knots_all, first_lt}
use Rattle.splines.specs.Values.{basis, scale, cell_of, from, value, value_on}
use Rattle.splines.specs.Local.{full, outer, local_of, piece_of}
use Rattle.splines.specs.Claims.{OnSide, WholeFactors}
use Rattle.splines.proofs.Recursion.{whole_factors}
use Rattle.splines.proofs.Three.{three, three_0, three_1, three_2, three_off, places, three_most, three_sum}
use Rattle.splines.proofs.Local.{Open}
use Rattle.splines.proofs.Cells.{cell_inside, cell_line, cell_point}
use Rattle.splines.proofs.Opened.{open_times}
use Rattle.splines.proofs.Values.{degrees, whole, second, third, makes, locally}
use Rattle.splines.proofs.Lines as lines

-- the functions over a cell, counted from the first
abbrev Pieces : ℕ → Type 0
Pieces p =
    (f low middle high j : ℕ) → j ≤ p →
    three f low (cond (eqb p 1) high middle) (cond (eqb p 1) 0 high) (f + j) ≡ cond (eqb j 0) low (cond (eqb j p) high middle)

pieces_1 : Pieces 1
pieces_1 f low middle high j k =
    cases (eqb j 0)
    (λ y. rw (T_true (eqb j 0) y) (three_0 f low high 0 (f + j) (omega (arith, eqb→eq j 0 y))))
    (λ y. let e : j ≡ 1 = omega (arith, differ j 0 y) in rw (T_false (eqb j 0) (not_e (eqb j 0) y), T_true (eqb j 1) (eqb_of j 1 e)) (three_1 f low high 0 (f + j) (omega arith)))

pieces_2 : Pieces 2
pieces_2 f low middle high j k =
    cases (eqb j 0)
    (λ y. rw (T_true (eqb j 0) y) (three_0 f low middle high (f + j) (omega (arith, eqb→eq j 0 y))))
    (λ y. cases (eqb j 2)
    (λ z. rw (T_false (eqb j 0) (not_e (eqb j 0) y), T_true (eqb j 2) z) (three_2 f low middle high (f + j) (omega (arith, eqb→eq j 2 z))))
    (λ z. rw (T_false (eqb j 0) (not_e (eqb j 0) y), T_false (eqb j 2) (not_e (eqb j 2) z)) (three_1 f low middle high (f + j) (omega (arith, differ j 0 y, differ j 2 z)))))

pieces : (p : ℕ) → 1 ≤ p → p ≤ 2 → Pieces p
pieces = degrees Pieces pieces_1 pieces_2

-- the last of the functions over a cell is the second or the third
high_le : (p : ℕ) (l r : Bool) (h u v : ℕ) → outer p r h u ≤ second p l r h u v + third p l r h u v
high_le p l r h u v = go (eqb p 1)
  where
    go : (b : Bool) → outer p r h u ≤ cond b (outer p r h u) (2 * h * h - outer p l h v - outer p r h u) + cond b 0 (outer p r h u)
    go true = let e : outer p r h u ≤ outer p r h u + 0 = omega arith in e
    go false = let e : outer p r h u ≤ 2 * h * h - outer p l h v - outer p r h u + outer p r h u = omega arith in e

module _ (s : Side) (h x : ℕ) (on : OnSide s h x) where
  abbrev p : ℕ
  p = s.degree

  abbrev c : ℕ
  c = cell_of h s.cells x

  abbrev l : Bool
  l = full (times s) c

  abbrev r : Bool
  r = full (times s) (suc c)

  abbrev u : ℕ
  u = x - c * h

  abbrev v : ℕ
  v = suc c * h - x

  cells≥ : 1 ≤ s.cells
  cells≥ = some_cells s on.sized

  pub opened : Open p s.cells (times s)
  opened = open_times s on.sized

  pub within : c < s.cells
  within = cell_inside h s.cells x cells≥

  -- the first function over the point's cell
  abbrev f : ℕ
  f = first_over s c

  over_first : (y : ℕ) → y < s.cells → sum (suc y) (times s) ≡ first_over s y + (p + 1)
  over_first y l = omega (arith, knots_to s on.sized y l)

  all : functions s + (p + 1) ≡ sum (suc s.cells) (times s)
  all = omega (arith, knots_all s on.sized)

  value_three : (i : ℕ) → i < functions s → value_on s h i x ≡ three f (outer p l h v) (second p l r h u v) (third p l r h u v) i
  unfolding value_on
  value_three i k =
      locally p on.sized.degree≥ on.degree≤ s.cells (times s) opened h x f on.parts≥ on.point≤ (over_first c within) i
      (omega (arith, all))

  make : outer p l h v + second p l r h u v + third p l r h u v ≡ 2 * h * h
  make = makes p on.sized.degree≥ on.degree≤ l r h u v (cell_point h s.cells x on.parts≥ cells≥ on.point≤).parts

  pub outers : outer p l h v + outer p r h u ≤ 2 * h * h
  outers = omega (arith, make, high_le p l r h u v)

  -- the last function over the cell is one of the side's
  pub over_last : f + p < functions s
  over_last = first_lt s on.sized c within

  third_0 : p ≡ 1 → third p l r h u v ≡ 0
  third_0 e = rw (T_true (eqb p 1) (eqb_of p 1 e))

  -- the functions over the cell
  pub value_over : (j : ℕ) → j ≤ p → value_on s h (f + j) x ≡ piece_of (local_of s h x) j
  unfolding piece_of local_of
  value_over j k = value_three (f + j) (omega (arith, over_last)) ∙ pieces p on.sized.degree≥ on.degree≤ f _ _ _ j k

  -- the others
  pub value_outside : (i : ℕ) → i < functions s → (f ≤ i → i ≤ f + p → ⊥) → value_on s h i x ≡ 0
  value_outside i k off =
      value_three i k
      ∙ places f i
      (λ e. absurd (off (omega arith) (omega arith)))
      (λ e. absurd (off (omega arith) (omega (arith, on.sized.degree≥))))
      (λ e. cases (eqb p 1)
      (λ y. three_2 f _ _ _ i e ∙ third_0 (eqb→eq p 1 y))
      (λ y. absurd (off (omega arith) (omega (arith, on.sized.degree≥, differ p 1 y)))))
      (λ a b d. three_off f _ _ _ i a b d)

  pub value_most : (i : ℕ) → i < functions s → value_on s h i x ≤ 2 * h * h
  value_most i k = omega (arith, value_three i k, make, three_most f (outer p l h v) (second p l r h u v) (third p l r h u v) i)

  pub value_one : sum (functions s) (λ i. value_on s h i x) ≡ 2 * h * h
  value_one =
      sum_same (functions s) _ _ value_three
      ∙ three_sum (functions s) f _ _ _ (omega (arith, over_last, on.sized.degree≥)) (λ e. third_0 (omega (arith, over_last, on.sized.degree≥)))
      ∙ make

  near_knots : (d i : ℕ) → i + d < functions s + (p + 1) → knot_on s (i + d) ≤ knot_on s i + d
  near_knots zero i b = let e : i + 0 ≡ i = omega arith in rw e (omega arith)
  near_knots (suc d) i b =
      let e : i + suc d ≡ suc (i + d) = omega arith in
      rw e (omega (arith, knot_next (times s) s.cells opened.least (i + d) (omega (arith, all)), near_knots d i (omega arith)))

  pub value_factors : (d i : ℕ) → 1 ≤ d → d ≤ p → i + d < functions s + (p + 1) → knot_on s i < knot_on s (i + d) → WholeFactors h d (knot_on s i) (knot_on s (i + d)) x
  value_factors d i g l b m = whole_factors h d (knot_on s i) (knot_on s (i + d)) x m (omega (arith, near_knots d i b)) (omega (arith, on.degree≤))

  pub value_whole : (i : ℕ) → value_on s h i x * scale h p ≡ value h s.cells p (knot_on s) i x * (2 * h * h)
  unfolding value_on
  value_whole i = whole p on.sized.degree≥ on.degree≤ h s.cells (knot_on s) i x on.parts≥

  pub value_continuous : (c i : ℕ) → suc c < s.cells → x ≡ suc c * h → i < functions s
      → basis h c (λ d. x) p (from (knot_on s) i) ≡ value h s.cells p (knot_on s) i x
  unfolding value
  value_continuous c i l e k =
      rw (e, cell_line h s.cells (suc c) on.parts≥ l)
      (lines.continuous p on.sized.degree≥ on.degree≤ s.cells (times s) opened h c (first_over s c) i l (over_first c (omega arith)) (omega (arith, all)))
