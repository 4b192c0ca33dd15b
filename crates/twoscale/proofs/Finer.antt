-- The next level of a side: its lines are those of the side and the middles of its cells. Assumes nothing.
use mathlib.Core.Path.{◌≡◌, sym, ap, ◌∙◌}
use mathlib.Core.Bool.{false, ◌&&◌, cond}
use Prim.Native.Nat.{ℕ, suc, ◌+◌, ◌*◌, ◌/◌, ◌%◌, ◌≤◌, ◌<◌}
use native.Mathlib.Nat.{mul-div-mul_left}
use native.Mathlib.Omega.{arith}
use lib.Arith.{mod-mul}
use lib.Dec.{eqb, eqb→eq, lit<}
use Rattle.facts.proofs.Tests.{cases, same, and_l, differ, eqb_of, T_false}
use Rattle.grid.specs.declared.Side.{Side}
use Rattle.grid.specs.Knots.{is_set, is_corner, times, functions}
use Rattle.grid.specs.Side.{Sized}
use Rattle.grid.proofs.Knots.{times_start, times_end, times_inner}
use Rattle.twoscale.specs.Claims.{Halved}

module _ (s s' : Side) (half : Halved s s') where
  pub sized' : Sized s'
  sized' =
      record {
        base≥ = rw half.base half.sized.base≥;
        unit≥ = rw half.unit (omega (arith, half.sized.unit≥));
        degree≥ = rw half.degree half.sized.degree≥;
        whole = rw (half.cells, half.sized.whole, half.base, half.unit) (omega arith);
      }

  -- one function more for each cell
  pub functions_finer : functions s' ≡ functions s + s.cells
  unfolding functions
  functions_finer = rw (half.cells, half.degree, half.corners, half.base) (omega arith)

  -- ---- the same corners

  -- of the number x, whose last digit to base 2 is d
  rest : (x j d : ℕ) → x / 2 ≡ j → x % 2 ≡ d → x % s'.unit ≡ j % s.unit * 2 + d
  rest x j d e g =
      let two : s'.unit ≡ s.unit * 2 = omega (arith, half.unit) in
      rw (two, mod-mul x {m = s.unit} {c = 2} half.sized.unit≥ (lit< tt), e, g)

  corner_even : (j : ℕ) → is_corner s' (2 * j) ≡ is_corner s j
  unfolding is_corner
  corner_even j =
      let r = rest (2 * j) j 0 (omega arith) (omega arith) in
      let place : 2 * j / s'.unit ≡ j / s.unit = rw half.unit (mul-div-mul_left {m = 2} j s.unit (lit< tt)) in
      let on : eqb (2 * j % s'.unit) 0 ≡ eqb (j % s.unit) 0 = same (eqb (2 * j % s'.unit) 0) (eqb (j % s.unit) 0)
      (λ y. eqb_of (j % s.unit) 0 (omega (arith, eqb→eq (2 * j % s'.unit) 0 y)))
      (λ y. eqb_of (2 * j % s'.unit) 0 (omega (arith, eqb→eq (j % s.unit) 0 y))) in
      rw (on, place, half.corners)

  corner_odd : (j : ℕ) → is_corner s' (suc (2 * j)) ≡ false
  unfolding is_corner
  corner_odd j =
      T_false (eqb (suc (2 * j) % s'.unit) 0 && is_set s'.corners (suc (2 * j) / s'.unit))
      (λ y. absurd (omega (arith, eqb→eq (suc (2 * j) % s'.unit) 0 (and_l (eqb (suc (2 * j) % s'.unit) 0) _ y), rest (suc (2 * j)) j 1 (omega arith) (omega arith))))

  -- ---- how often a line is taken

  pub times_even : (j : ℕ) → j ≤ s.cells → times s' (2 * j) ≡ times s j
  times_even j l =
      cases (eqb j 0)
      (λ y. let e = eqb→eq j 0 y in rw e (times_start s' sized' ∙ ap (λ d. d + 1) half.degree ∙ sym (times_start s half.sized)))
      (λ y. cases (eqb j s.cells)
      (λ z. let e = eqb→eq j s.cells z in
      rw e (rw (← half.cells) (times_end s' sized') ∙ ap (λ d. d + 1) half.degree ∙ sym (times_end s half.sized)))
      (λ z. let a = differ j 0 y in
      let b = differ j s.cells z in
      times_inner s' sized' (2 * j) (omega arith) (omega (arith, half.cells))
      ∙ rw (corner_even j, half.degree) (sym (times_inner s half.sized j (omega arith) (omega arith)))))

  pub times_odd : (j : ℕ) → j < s.cells → times s' (suc (2 * j)) ≡ 1
  times_odd j l = times_inner s' sized' (suc (2 * j)) (omega arith) (omega (arith, half.cells)) ∙ ap (λ c. cond c s'.degree 1) (corner_odd j)
