-- The knots of the next level: each knot of the side, and one on the middle of each cell. Assumes nothing.
use mathlib.Core.Path.{◌≡◌, refl, ap, ◌∙◌}
use Prim.Native.Nat.{ℕ, zero, suc, ◌+◌, ◌*◌, ◌≤◌, ◌<◌}
use native.Mathlib.Omega.{arith}
use Rattle.facts.specs.Bounded.{sum}
use Rattle.grid.specs.declared.Side.{Side}
use Rattle.grid.specs.Knots.{times, knot_on, functions}
use Rattle.grid.proofs.Knots.{line, knot_at, knot_le, above_of_gt, knots_all}
use Rattle.twoscale.specs.Claims.{Halved}
use Rattle.twoscale.proofs.Finer.{times_even, times_odd}

module _ (s s' : Side) (half : Halved s s') where
  -- how many knots there are before a line, and up to a line or to a cell's middle
  pub knots_before : (j : ℕ) → j ≤ s.cells → sum (2 * j) (times s') ≡ sum j (times s) + j
  unfolding sum
  knots_before zero h = refl
  knots_before (suc j) h =
      let twice : 2 * suc j ≡ suc (suc (2 * j)) = omega arith in
      ap (λ z. sum z (times s')) twice ∙ omega (arith, knots_before j (omega arith), times_even s s' half j (omega arith), times_odd s s' half j h)

  pub knots_even : (j : ℕ) → j ≤ s.cells → sum (suc (2 * j)) (times s') ≡ sum (suc j) (times s) + j
  unfolding sum
  knots_even j h = omega (arith, knots_before j h, times_even s s' half j h)

  pub knots_odd : (j : ℕ) → j < s.cells → sum (suc (suc (2 * j))) (times s') ≡ sum (suc j) (times s) + j + 1
  unfolding sum
  knots_odd j h = omega (arith, knots_even j (omega arith), times_odd s s' half j h)

  pub even_knot : (i : ℕ) → i < functions s + s.degree + 1 → knot_on s' (i + knot_on s i) ≡ 2 * knot_on s i
  even_knot i h =
      let l = line (times s) (suc s.cells) i (omega (arith, knots_all s half.sized)) in
      let j : ℕ = l.0 in
      let e = knot_at (times s) s.cells j i (omega (arith, l.1)) l.2 l.3 in
      rw e (knot_at (times s') s'.cells (2 * j) (i + j) (omega (arith, half.cells, l.1)) (omega (arith, knots_before j (omega (arith, l.1)), l.2)) (omega (arith, knots_even j (omega (arith, l.1)), l.3)))

  pub odd_knot : (i : ℕ) → i + 1 < functions s + s.degree + 1 → knot_on s (i + 1) ≡ suc (knot_on s i) → knot_on s' (i + knot_on s i + 1) ≡ suc (2 * knot_on s i)
  odd_knot i h n =
      let all = knots_all s half.sized in
      let l = line (times s) (suc s.cells) i (omega arith) in
      let j : ℕ = l.0 in
      let e = knot_at (times s) s.cells j i (omega (arith, l.1)) l.2 l.3 in
      let last = (above_of_gt (times s) s.cells (i + 1) j (omega arith)).1 in
      let inside : j < s.cells = omega (arith, knot_le (times s) s.cells (i + 1) s.cells (omega arith) (omega arith)) in
      rw e (knot_at (times s') s'.cells (suc (2 * j)) (i + j + 1) (omega (arith, half.cells)) (omega (arith, knots_even j (omega arith), l.3)) (omega (arith, knots_odd j inside, l.3)))
