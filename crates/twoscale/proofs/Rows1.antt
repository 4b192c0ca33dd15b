-- What is in the functions of the next level over a cell's halves, at degree 1. Assumes nothing.
use mathlib.Core.Path.{◌≡◌, refl, ap, subst, ◌∙◌}
use Prim.Native.Nat.{ℕ, suc, ◌+◌, ◌*◌, ◌<◌}
use native.Mathlib.Omega.{arith}
use lib.Dec.{ltb, ltb→lt, nltb→le}
use Rattle.facts.specs.Bounded.{sum}
use Rattle.facts.proofs.Tests.{cases}
use Rattle.grid.specs.declared.Side.{Side}
use Rattle.grid.specs.Knots.{times, knot_on, functions, first_over}
use Rattle.grid.proofs.Knots.{knots_to, knots_all}
use Rattle.splines.specs.Values.{basis, scale, cell_of, from}
use Rattle.splines.proofs.Three.{three, three_times}
use Rattle.splines.proofs.Local.{Open, Point, one_local, one_here, one_next}
use Rattle.splines.proofs.Opened.{open_times}
use Rattle.twoscale.specs.TwoScale.{coefficient}
use Rattle.twoscale.specs.Claims.{Halved}
use Rattle.twoscale.proofs.Finer.{sized'}
use Rattle.twoscale.proofs.Lines.{knots_even, knots_odd}
use Rattle.twoscale.proofs.Rows.{Row, row_back}

module _ (s s' : Side) (half : Halved s s') (degree : s.degree ≡ 1) where
  abbrev n : ℕ
  n = s.cells

  abbrev n' : ℕ
  n' = s'.cells

  o : Open 1 n (times s)
  o = subst (λ p. Open p n (times s)) degree (open_times s half.sized)

  o' : Open 1 n' (times s')
  o' = subst (λ p. Open p n' (times s')) (half.degree ∙ degree) (open_times s' (sized' s s' half))

  first : (c : ℕ) → c < n → sum (suc c) (times s) ≡ first_over s c + 2
  first c l = omega (arith, knots_to s half.sized c l)

  -- ---- by where the inner knot of function j lies, in cell c

  module _ (j c : ℕ) (inside : c < n) where
    abbrev f : ℕ
    f = first_over s c

    row_of : (y u v : ℕ) → knot_on s' (j + 1) ≡ y → Point 2 c y u v → cell_of 2 n y ≡ c → Row s s' f j (2 * v) (2 * u) 0
    unfolding coefficient scale
    row_of y u v e p k = record {
      all = omega (arith, p.parts);
      last = λ z. refl;
      are = λ i b. omega (arith, part i b, three_times f v u 0 2 i, ap (λ p. three f (2 * v) (2 * u) 0 i * scale 2 p) degree);
    }
      where
        part : (i : ℕ) → i < functions s → coefficient s s' i j ≡ three f v u 0 i
        part i b =
            ap (λ q. basis 2 (cell_of 2 n (knot_on s' (j + 1))) (λ d. knot_on s' (j + suc d)) q (from (knot_on s) i)) degree
            ∙ ap (λ z. basis 2 z (λ d. knot_on s' (j + suc d)) 1 (from (knot_on s) i)) (ap (cell_of 2 n) e ∙ k)
            ∙ one_local n (times s) o c f inside (first c inside) 2 (λ d. knot_on s' (j + suc d)) u v (rw e p) i (omega (arith, knots_all s half.sized))

    row_line : knot_on s' (j + 1) ≡ 2 * c → Row s s' f j 4 0 0
    unfolding cell_of
    row_line e = row_of (2 * c) 0 2 e (omega arith) (omega arith)

    row_middle : knot_on s' (j + 1) ≡ suc (2 * c) → Row s s' f j 2 2 0
    unfolding cell_of
    row_middle e = row_of (suc (2 * c)) 1 1 e (omega arith) (omega arith)

    row_end : suc c ≡ n → knot_on s' (j + 1) ≡ 2 * suc c → Row s s' f j 0 4 0
    unfolding cell_of
    row_end z e = row_of (2 * suc c) 2 0 e (omega arith) (omega arith)

  -- ---- by the cell: the functions over its first half, and over its second, where the first is the second of those

  abbrev Rowed : ℕ → ℕ → ℕ → ℕ → ℕ → Type 0
  Rowed c j a b d = Row s s' (first_over s c) j a b d

  module _ (c : ℕ) (inside : c < n) where
    before : 2 * c < n'
    before = omega (arith, half.cells)

    behind : suc (2 * c) < n'
    behind = omega (arith, half.cells)

    first_before : sum (suc (2 * c)) (times s') ≡ first_over s c + c + 2
    first_before = omega (arith, knots_even s s' half c (omega arith), first c inside)

    first_behind : sum (suc (suc (2 * c))) (times s') ≡ first_over s c + c + 1 + 2
    first_behind = omega (arith, knots_odd s s' half c inside, first c inside)

    pub row_0 : (j : ℕ) → j ≡ first_over s c + c → Rowed c j 4 0 0
    row_0 j e = row_line j c inside (one_here n' (times s') o' (2 * c) (first_over s c + c) before first_before (j + 1) (omega arith))

    pub row_1 : (j : ℕ) → j ≡ first_over s c + c + 1 → Rowed c j 2 2 0
    row_1 j e = row_middle j c inside (one_next n' (times s') o' (2 * c) (first_over s c + c) before first_before (j + 1) (omega arith))

    pub row_2 : (j : ℕ) → j ≡ first_over s c + c + 2 → Rowed c j 0 4 0
    unfolding sum
    row_2 j e =
        cases (ltb (suc c) n)
        (λ y. let k = ltb→lt (suc c) n y in
        let d : first_over s (suc c) ≡ first_over s c + 1 = omega (arith, first c inside, first (suc c) k, o.most (suc c) (omega arith) k, o.least (suc c) (omega arith)) in
        row_back s s' (first_over s c) (first_over s (suc c)) j 4 0 d (λ z. refl) (row_line j (suc c) k line))
        (λ y. row_end j c inside (omega (arith, nltb→le (suc c) n y)) line)
      where
        line : knot_on s' (j + 1) ≡ 2 * suc c
        line =
            let twice : suc (suc (2 * c)) ≡ 2 * suc c = omega arith in
            one_next n' (times s') o' (suc (2 * c)) (first_over s c + c + 1) behind first_behind (j + 1) (omega arith) ∙ twice
