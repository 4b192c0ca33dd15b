-- What is in the functions of the next level over a cell's halves, at degree 2. Assumes nothing.
use mathlib.Core.Path.{◌≡◌, refl, sym, ap, subst, ◌∙◌}
use mathlib.Core.Bool.{Bool, true, false, not, cond}
use Prim.Native.Nat.{ℕ, suc, pred, ◌+◌, ◌*◌, ◌≤◌, ◌<◌}
use native.Mathlib.Omega.{arith}
use lib.Dec.{T, ltb, ltb→lt, nltb→le}
use Rattle.facts.specs.Bounded.{sum}
use Rattle.facts.proofs.Tests.{cases}
use Rattle.grid.specs.declared.Side.{Side}
use Rattle.grid.specs.Knots.{times, knot_on, functions, first_over}
use Rattle.grid.proofs.Knots.{knots_to, knots_all}
use Rattle.splines.specs.Values.{basis, scale, cell_of, from}
use Rattle.splines.specs.Local.{full}
use Rattle.splines.proofs.Three.{three, three_times}
use Rattle.splines.proofs.Local.{Open, Point, last2, middle2, first2, right_line, two_local, here, next, left, right, not_first, not_last}
use Rattle.splines.proofs.Opened.{open_times}
use Rattle.twoscale.specs.TwoScale.{coefficient}
use Rattle.twoscale.specs.Claims.{Halved}
use Rattle.twoscale.proofs.Finer.{sized', times_even}
use Rattle.twoscale.proofs.Lines.{knots_even, knots_odd}
use Rattle.twoscale.proofs.Rows.{Row, row_on, row_back}

-- ---- by where the inner knots of function j lie: the two ends of a cell's half, a full line, the far edge

on_first : (l r : Bool) (f i : ℕ) → three f (last2 l 2 1) (middle2 l r 0 2 1 1) (first2 r 0 1) i ≡ three f (cond l 2 1) (cond l 2 3) 0 i * 2
on_first true true f i = sym (three_times f 2 2 0 2 i)
on_first true false f i = sym (three_times f 2 2 0 2 i)
on_first false true f i = sym (three_times f 1 3 0 2 i)
on_first false false f i = sym (three_times f 1 3 0 2 i)

on_second : (l r : Bool) (f i : ℕ) → three f (last2 l 1 0) (middle2 l r 1 1 2 0) (first2 r 1 2) i ≡ three f 0 (cond r 2 3) (cond r 2 1) i * 2
on_second true true f i = sym (three_times f 0 2 2 2 i)
on_second true false f i = sym (three_times f 0 3 1 2 i)
on_second false true f i = sym (three_times f 0 2 2 2 i)
on_second false false f i = sym (three_times f 0 3 1 2 i)

on_line : (r : Bool) (f i : ℕ) → three f (last2 true 2 2) (middle2 true r 0 2 0 2) (first2 r 0 0) i ≡ three f 4 0 0 i * 2
on_line true f i = sym (three_times f 4 0 0 2 i)
on_line false f i = sym (three_times f 4 0 0 2 i)

on_end : (l : Bool) (f i : ℕ) → three f (last2 l 0 0) (middle2 l true 2 0 2 0) (first2 true 2 2) i ≡ three f 0 0 4 i * 2
on_end true f i = sym (three_times f 0 0 4 2 i)
on_end false f i = sym (three_times f 0 0 4 2 i)

make : (l : Bool) (a b d e : ℕ) → a + d ≡ 4 → b + e ≡ 4 → cond l a b + cond l d e ≡ 4
make true a b d e p q = p
make false a b d e p q = q

module _ (s s' : Side) (half : Halved s s') (degree : s.degree ≡ 2) where
  abbrev n : ℕ
  n = s.cells

  abbrev n' : ℕ
  n' = s'.cells

  o : Open 2 n (times s)
  o = subst (λ p. Open p n (times s)) degree (open_times s half.sized)

  o' : Open 2 n' (times s')
  o' = subst (λ p. Open p n' (times s')) (half.degree ∙ degree) (open_times s' (sized' s s' half))

  first : (c : ℕ) → c < n → sum (suc c) (times s) ≡ first_over s c + 3
  first c l = omega (arith, knots_to s half.sized c l)

  -- inner knots on y and y', both in cell c
  module _ (j c y y' : ℕ) (inside : c < n) (e : knot_on s' (j + 1) ≡ y) (e' : knot_on s' (j + 2) ≡ y') where
    child : (u v u' v' : ℕ) → Point 2 c y u v → Point 2 c y' u' v' → cell_of 2 n y ≡ c → (i : ℕ) → i < functions s →
        coefficient s s' i j
        ≡ three (first_over s c) (last2 (full (times s) c) v v') (middle2 (full (times s) c) (full (times s) (suc c)) u v u' v') (first2 (full (times s) (suc c)) u u') i
    unfolding coefficient
    child u v u' v' p p' k i b =
        ap (λ q. basis 2 (cell_of 2 n (knot_on s' (j + 1))) (λ d. knot_on s' (j + suc d)) q (from (knot_on s) i)) degree
        ∙ ap (λ z. basis 2 z (λ d. knot_on s' (j + suc d)) 2 (from (knot_on s) i)) (ap (cell_of 2 n) e ∙ k)
        ∙ two_local n (times s) o c (first_over s c) inside (first c inside) 2 (λ d. knot_on s' (j + suc d)) u v u' v' (rw e p) (rw e' p') i (omega (arith, knots_all s half.sized))

  row_of : (f j a b d : ℕ) → a + b + d ≡ 4 → ((i : ℕ) → i < functions s → coefficient s s' i j ≡ three f a b d i * 2) → Row s s' f j a b d
  unfolding scale
  row_of f j a b d e g = record { all = e; last = λ z. absurd (omega arith); are = λ i l. omega (arith, g i l, ap (λ p. three f a b d i * scale 2 p) degree) }

  module _ (j c : ℕ) (inside : c < n) where
    abbrev f : ℕ
    f = first_over s c

    abbrev l : Bool
    l = full (times s) c

    abbrev r : Bool
    r = full (times s) (suc c)

    row_first : knot_on s' (j + 1) ≡ 2 * c → knot_on s' (j + 2) ≡ suc (2 * c) → Row s s' f j (cond l 2 1) (cond l 2 3) 0
    unfolding cell_of
    row_first e e' =
        row_of f j _ _ _ (omega (arith, make l 2 1 2 3 refl refl))
        (λ i b. child j c (2 * c) (suc (2 * c)) inside e e' 0 2 1 1 (omega arith) (omega arith) (omega arith) i b ∙ on_first l r f i)

    row_second : knot_on s' (j + 1) ≡ suc (2 * c) → knot_on s' (j + 2) ≡ 2 * suc c → Row s s' f j 0 (cond r 2 3) (cond r 2 1)
    unfolding cell_of
    row_second e e' =
        row_of f j _ _ _ (omega (arith, make r 2 3 2 1 refl refl))
        (λ i b. child j c (suc (2 * c)) (2 * suc c) inside e e' 1 1 2 0 (omega arith) (omega arith) (omega arith) i b ∙ on_second l r f i)

    row_line : l ≡ true → knot_on s' (j + 1) ≡ 2 * c → knot_on s' (j + 2) ≡ 2 * c → Row s s' f j 4 0 0
    unfolding cell_of
    row_line g e e' =
        row_of f j 4 0 0 refl
        (λ i b. child j c (2 * c) (2 * c) inside e e' 0 2 0 2 (omega arith) (omega arith) (omega arith) i b ∙ rw g (on_line r f i))

    row_end : r ≡ true → suc c ≡ n → knot_on s' (j + 1) ≡ 2 * suc c → knot_on s' (j + 2) ≡ 2 * suc c → Row s s' f j 0 0 4
    unfolding cell_of
    row_end g z e e' =
        row_of f j 0 0 4 refl
        (λ i b. child j c (2 * suc c) (2 * suc c) inside e e' 2 0 2 0 (omega arith) (omega arith) (omega arith) i b ∙ rw g (on_end l f i))

  -- ---- by the cell: the functions over its first half, and over its second, where the first is the second of those

  abbrev Rowed : ℕ → ℕ → ℕ → ℕ → ℕ → Type 0
  Rowed c j a b d = Row s s' (first_over s c) j a b d

  module _ (c : ℕ) (inside : c < n) where
    before : 2 * c < n'
    before = omega (arith, half.cells)

    behind : suc (2 * c) < n'
    behind = omega (arith, half.cells)

    first_before : sum (suc (2 * c)) (times s') ≡ first_over s c + c + 3
    first_before = omega (arith, knots_even s s' half c (omega arith), first c inside)

    first_behind : sum (suc (suc (2 * c))) (times s') ≡ first_over s c + c + 1 + 3
    first_behind = omega (arith, knots_odd s s' half c inside, first c inside)

    twice : suc (suc (2 * c)) ≡ 2 * suc c
    twice = omega arith

    pub row_1 : (j : ℕ) → j ≡ first_over s c + c + 1 → Rowed c j (cond (full (times s) c) 2 1) (cond (full (times s) c) 2 3) 0
    row_1 j e =
        row_first j c inside
        (here n' (times s') o' (2 * c) (first_over s c + c) before first_before (j + 1) (omega arith))
        (next n' (times s') o' (2 * c) (first_over s c + c) before first_before (j + 2) (omega arith))

    pub row_2 : (j : ℕ) → j ≡ first_over s c + c + 2 → Rowed c j 0 (cond (full (times s) (suc c)) 2 3) (cond (full (times s) (suc c)) 2 1)
    row_2 j e =
        row_second j c inside
        (here n' (times s') o' (suc (2 * c)) (first_over s c + c + 1) behind first_behind (j + 1) (omega arith))
        (next n' (times s') o' (suc (2 * c)) (first_over s c + c + 1) behind first_behind (j + 2) (omega arith) ∙ twice)

    pub row_0 : (j : ℕ) → j ≡ first_over s c + c → Rowed c j (cond (full (times s) c) 4 3) (cond (full (times s) c) 0 1) 0
    unfolding sum
    row_0 j e = go (full (times s) c) refl
      where
        left_full : full (times s') (2 * c) ≡ full (times s) c
        left_full = ap (λ z. ltb 1 z) (times_even s s' half c (omega arith))

        line : knot_on s' (j + 2) ≡ 2 * c
        line = here n' (times s') o' (2 * c) (first_over s c + c) before first_before (j + 2) (omega arith)

        go : (l : Bool) → full (times s) c ≡ l → Rowed c j (cond l 4 3) (cond l 0 1) 0
        go true g = row_line j c inside g (left n' (times s') o' (2 * c) (first_over s c + c) before first_before (j + 1) (omega arith) true (left_full ∙ g)) line
        go false g =
            let y : T (not (full (times s) c)) = rw g tt in
            let z : 1 ≤ c = not_first n (times s) o c (first_over s c) inside (first c inside) y in
            let d : c ≡ suc (pred c) = omega arith in
            let q : suc (2 * pred c) ≡ pred (2 * c) = omega arith in
            let w : sum c (times s) ≡ sum (suc (pred c)) (times s) = ap (λ k. sum k (times s)) d in
            let k : first_over s c ≡ first_over s (pred c) + 1 = omega (arith, first c inside, first (pred c) (omega arith), nltb→le 1 (times s c) y, o.least c (omega arith)) in
            row_on s s' (first_over s (pred c)) (first_over s c) j 3 1 k
            (subst (λ r. Rowed (pred c) j 0 (cond r 2 3) (cond r 2 1)) (ap (full (times s)) (sym d) ∙ g)
            (row_second j (pred c) (omega arith)
            (left n' (times s') o' (2 * c) (first_over s c + c) before first_before (j + 1) (omega arith) false (left_full ∙ g) ∙ sym q) (line ∙ ap (λ k. 2 * k) d)))

    pub row_3 : (j : ℕ) → j ≡ first_over s c + c + 3 → Rowed c j 0 (cond (full (times s) (suc c)) 0 1) (cond (full (times s) (suc c)) 4 3)
    unfolding sum
    row_3 j e = go (full (times s) (suc c)) refl
      where
        right_full : full (times s') (suc (suc (2 * c))) ≡ full (times s) (suc c)
        right_full = ap (full (times s')) twice ∙ ap (λ z. ltb 1 z) (times_even s s' half (suc c) inside)

        line : knot_on s' (j + 1) ≡ 2 * suc c
        line = next n' (times s') o' (suc (2 * c)) (first_over s c + c + 1) behind first_behind (j + 1) (omega arith) ∙ twice

        after : (r : Bool) → full (times s) (suc c) ≡ r → knot_on s' (j + 2) ≡ right_line r (suc (2 * c))
        after r g = right n' (times s') o' (suc (2 * c)) (first_over s c + c + 1) behind first_behind (j + 2) (omega arith) r (right_full ∙ g)

        go : (r : Bool) → full (times s) (suc c) ≡ r → Rowed c j 0 (cond r 0 1) (cond r 4 3)
        go true g =
            cases (ltb (suc c) n)
            (λ y. let k = ltb→lt (suc c) n y in
            let more : 1 < times s (suc c) = ltb→lt 1 (times s (suc c)) (rw g tt) in
            let d : first_over s (suc c) ≡ first_over s c + 1 + 1 = omega (arith, first c inside, first (suc c) k, o.most (suc c) (omega arith) k) in
            row_back s s' (first_over s c) (first_over s c + 1) j 0 4 refl (λ z. absurd (omega arith))
            (row_back s s' (first_over s c + 1) (first_over s (suc c)) j 4 0 d (λ z. refl) (row_line j (suc c) k g line (after true g ∙ twice))))
            (λ y. row_end j c inside g (omega (arith, nltb→le (suc c) n y)) line (after true g ∙ twice))
        go false g =
            let y : T (not (full (times s) (suc c))) = rw g tt in
            let k : suc c < n = not_last n (times s) o c (first_over s c) inside (first c inside) y in
            let q : suc (suc (suc (2 * c))) ≡ suc (2 * suc c) = omega arith in
            let d : first_over s (suc c) ≡ first_over s c + 1 = omega (arith, first c inside, first (suc c) k, nltb→le 1 (times s (suc c)) y, o.least (suc c) (omega arith)) in
            row_back s s' (first_over s c) (first_over s (suc c)) j 1 3 d (λ z. absurd (omega arith))
            (subst (λ l. Rowed (suc c) j (cond l 2 1) (cond l 2 3) 0) g (row_first j (suc c) k line (after false g ∙ q)))
