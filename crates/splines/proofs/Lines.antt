-- A point on a line between two cells: the functions have there the values that they have in the cell before it, and the same in the cell
-- behind it. Assumes nothing.
use mathlib.Core.Path.{◌≡◌, refl, sym, ◌∙◌}
use mathlib.Core.Bool.{Bool, true, false, not, cond}
use Prim.Native.Nat.{ℕ, suc, ◌+◌, ◌*◌, ◌≤◌, ◌<◌}
use native.Mathlib.Omega.{arith}
use lib.Dec.{T, ltb→lt, nltb→le}
use Rattle.facts.specs.Bounded.{sum}
use Rattle.grid.specs.Knots.{knot}
use Rattle.splines.specs.Values.{basis, from}
use Rattle.splines.specs.Local.{full}
use Rattle.splines.proofs.Three.{three, three_same, three_shift}
use Rattle.splines.proofs.Local.{Open, Point, last2, middle2, first2, one_local, two_local}
use Rattle.splines.proofs.Values.{degrees}

-- line suc c ends cell c and begins the next
ends : (h c : ℕ) → Point h c (suc c * h) h 0
ends h c = record { place = omega arith; parts = omega arith }

begins : (h c : ℕ) → Point h c (c * h) 0 h
begins h c = record { place = omega arith; parts = omega arith }

-- f is the first function over cell c
abbrev Continuous : ℕ → Type 0
Continuous p =
    (n : ℕ) (m : ℕ → ℕ) → Open p n m → (h c f i : ℕ) → suc c < n → sum (suc c) m ≡ f + (p + 1) → i + (p + 1) < sum (suc n) m →
    basis h c (λ d. suc c * h) p (from (knot m n) i) ≡ basis h (suc c) (λ d. suc c * h) p (from (knot m n) i)

continuous_1 : Continuous 1
unfolding sum
continuous_1 n m o h c f i inside first b =
    one_local n m o c f (omega arith) first h _ h 0 (ends h c) i b
    ∙ three_shift f h 0 i
    ∙ sym (one_local n m o (suc c) (f + 1) inside (omega (arith, o.most (suc c) (omega arith) inside, o.least (suc c) (omega arith))) h _ 0 h (begins h (suc c)) i b)

-- the pieces there of the two cells, by whether the line is full
on_line : (l r r' : Bool) (h f i : ℕ) →
    three f (last2 l 0 0) (middle2 l r h 0 h 0) (first2 r h h) i ≡ three (f + cond r 2 1) (last2 r h h) (middle2 r r' 0 h 0 h) (first2 r' 0 0) i
on_line l true r' h f i =
    let e : f + 1 + 1 ≡ f + 2 = omega arith in
    three_same f i {p' = 0} {q' = 0} (omega arith) (omega arith) refl
    ∙ three_shift f 0 (2 * h * h) i
    ∙ three_shift (f + 1) (2 * h * h) 0 i
    ∙ rw e (three_same (f + 2) i refl (omega arith) (omega arith))
on_line l false r' h f i =
    three_same f i {p' = 0} {q' = h * h} (omega arith) (omega arith) refl ∙ three_shift f (h * h) (h * h) i ∙ three_same (f + 1) i refl (omega arith) (omega arith)

-- how many knots a line has, at degree 2
two_times : (n : ℕ) (m : ℕ → ℕ) → Open 2 n m → (j : ℕ) → 0 < j → j < n → m j ≡ cond (full m j) 2 1
two_times n m o j a b = go (full m j) refl
  where
    go : (r : Bool) → full m j ≡ r → m j ≡ cond r 2 1
    go true e = omega (arith, ltb→lt 1 (m j) (rw e tt), o.most j a b)
    go false e = let y : T (not (full m j)) = rw e tt in omega (arith, nltb→le 1 (m j) y, o.least j (omega arith))

continuous_2 : Continuous 2
unfolding sum
continuous_2 n m o h c f i inside first b =
    two_local n m o c f (omega arith) first h _ _ _ _ _ (ends h c) (ends h c) i b
    ∙ on_line (full m c) (full m (suc c)) (full m (suc (suc c))) h f i
    ∙ sym (two_local n m o (suc c) (f + cond (full m (suc c)) 2 1) inside (omega (arith, two_times n m o (suc c) (omega arith) inside)) h _ _ _ _ _ (begins h (suc c)) (begins h (suc c)) i b)

pub continuous : (p : ℕ) → 1 ≤ p → p ≤ 2 → Continuous p
continuous = degrees Continuous continuous_1 continuous_2
