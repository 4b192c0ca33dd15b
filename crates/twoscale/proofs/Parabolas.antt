-- The children of a function of degree 2, by its knots. Assumes nothing.
use mathlib.Core.Path.{◌≡◌, refl}
use mathlib.Core.Logic.{◌≢◌}
use Prim.Native.Nat.{ℕ, min, ◌+◌, ◌-◌, ◌*◌, ◌/◌, ◌≤◌, ◌<◌}
use native.Mathlib.Omega.{arith}
use lib.Dec.{ltb, ltb→lt, nltb→le}
use Rattle.facts.proofs.Tests.{cases}
use Rattle.splines.specs.Values.{rise, fall, box, cell_of}
use Rattle.twoscale.specs.Passing.{quarters_of}
use Rattle.twoscale.proofs.Shifts.{parabola, parabola_on, children_by, children_on, rise_none, fall_none, hat_before, hat_behind, none_before, none_behind}
use Rattle.twoscale.proofs.Refined.{Refined, either}

-- on line k and behind it as on line 0 and behind it
moved : {j t0 t1 t2 t3 u w e : ℕ} (i k a b d x y c m : ℕ)
    → t0 ≡ k + 0 → t1 ≡ k + a → t2 ≡ k + b → t3 ≡ k + d → u ≡ 2 * k + x → w ≡ 2 * k + y → e ≡ k + c → j ≡ i + k + m
    → parabola 0 a b d x y c * 4 / 8 ≡ quarters_of (children_by 0 0 a b d) m
    → parabola t0 t1 t2 t3 u w e * 4 / 8 ≡ quarters_of (children_by i t0 t1 t2 t3) j
moved i k a b d x y c m e0 e1 e2 e3 f g o h z = rw (e0, e1, e2, e3, f, g, o, h, parabola_on k 0 a b d x y c, children_on k i a b d m) z

module _ (n count i : ℕ) (t v : ℕ → ℕ) (r : Refined 2 n count i t v) (j : ℕ) where
  abbrev cell : ℕ
  cell = cell_of 2 n (v (j + 1))

  abbrev given : ℕ
  given = parabola (t 0) (t 1) (t 2) (t 3) (v (j + 1)) (v (j + 2)) cell

  abbrev Goal : Type 0
  Goal = given * 4 / 8 ≡ quarters_of (children_by i (t 0) (t 1) (t 2) (t 3)) j

  -- seen from the first knot: the others, the two points and the cell, and the child
  record Seen (a b d x y c m : ℕ) : Type 0 where
    second : t 1 ≡ t 0 + a
    third : t 2 ≡ t 0 + b
    last : t 3 ≡ t 0 + d
    point : v (j + 1) ≡ 2 * t 0 + x
    next : v (j + 2) ≡ 2 * t 0 + y
    around : min ((2 * t 0 + x) / 2) (n - 1) ≡ t 0 + c
    child : j ≡ i + t 0 + m

  found : (a b d x y c m : ℕ) → Seen a b d x y c m → parabola 0 a b d x y c * 4 / 8 ≡ quarters_of (children_by 0 0 a b d) m → Goal
  unfolding cell_of
  found a b d x y c m s z =
      moved i (t 0) a b d x y c m (omega arith) s.second s.third s.last s.point s.next (rw s.point s.around) s.child z

  -- ---- the children, by which knots lie on one line

  first_three : t 1 ≡ t 0 + 0 → t 2 ≡ t 0 + 0 → t 3 ≡ t 0 + 1 → i + t 0 ≤ j → j ≤ i + t 3 → Goal
  unfolding rise fall box quarters_of
  first_three a b c l h =
      let w = r.within in
      either j (i + t 0)
      (λ g. found 0 0 1 0 0 0 0 (omega (arith, r.even 1 (j + 1) (omega arith), r.even 2 (j + 2) (omega arith))) refl)
      (λ g. found 0 0 1 0 1 0 1 (omega (arith, r.even 2 (j + 1) (omega arith), r.odd 2 (j + 2) (omega arith))) refl)

  first_two : t 1 ≡ t 0 + 0 → t 2 ≡ t 0 + 1 → t 3 ≡ t 0 + 2 → i + t 0 ≤ j → j ≤ i + t 3 → Goal
  unfolding rise fall box quarters_of
  first_two a b c l h =
      let w = r.within in
      either j (i + t 0)
      (λ g. found 0 1 2 0 1 0 0 (omega (arith, r.even 1 (j + 1) (omega arith), r.odd 1 (j + 2) (omega arith))) refl)
      (λ d. either j (i + t 0 + 1)
      (λ g. found 0 1 2 1 2 0 1 (omega (arith, r.odd 1 (j + 1) (omega arith), r.even 2 (j + 2) (omega arith))) refl)
      (λ g. found 0 1 2 2 3 1 2 (omega (arith, r.even 2 (j + 1) (omega arith), r.odd 2 (j + 2) (omega arith))) refl))

  middle_two : t 1 ≡ t 0 + 1 → t 2 ≡ t 0 + 1 → t 3 ≡ t 0 + 2 → i + t 0 ≤ j → j ≤ i + t 3 → Goal
  unfolding rise fall box quarters_of
  middle_two a b c l h =
      let w = r.within in
      either j (i + t 0)
      (λ g. found 1 1 2 1 2 0 0 (omega (arith, r.odd 0 (j + 1) (omega arith), r.even 1 (j + 2) (omega arith))) refl)
      (λ d. either j (i + t 0 + 1)
      (λ g. found 1 1 2 2 2 1 1 (omega (arith, r.even 1 (j + 1) (omega arith), r.even 2 (j + 2) (omega arith))) refl)
      (λ g. found 1 1 2 2 3 1 2 (omega (arith, r.even 2 (j + 1) (omega arith), r.odd 2 (j + 2) (omega arith))) refl))

  last_two : t 1 ≡ t 0 + 1 → t 2 ≡ t 0 + 2 → t 3 ≡ t 0 + 2 → i + t 0 ≤ j → j ≤ i + t 3 → Goal
  unfolding rise fall box quarters_of
  last_two a b c l h =
      let w = r.within in
      either j (i + t 0)
      (λ g. found 1 2 2 1 2 0 0 (omega (arith, r.odd 0 (j + 1) (omega arith), r.even 1 (j + 2) (omega arith))) refl)
      (λ d. either j (i + t 0 + 1)
      (λ g. found 1 2 2 2 3 1 1 (omega (arith, r.even 1 (j + 1) (omega arith), r.odd 1 (j + 2) (omega arith))) refl)
      (λ g. found 1 2 2 3 4 1 2 (omega (arith, r.odd 1 (j + 1) (omega arith), r.even 2 (j + 2) (omega arith))) refl))

  two_two : t 1 ≡ t 0 + 0 → t 2 ≡ t 0 + 1 → t 3 ≡ t 0 + 1 → i + t 0 ≤ j → j ≤ i + t 3 → Goal
  unfolding rise fall box quarters_of
  two_two a b c l h =
      let w = r.within in
      either j (i + t 0)
      (λ g. found 0 1 1 0 1 0 0 (omega (arith, r.even 1 (j + 1) (omega arith), r.odd 1 (j + 2) (omega arith))) refl)
      (λ g. found 0 1 1 1 2 0 1 (omega (arith, r.odd 1 (j + 1) (omega arith), r.even 2 (j + 2) (omega arith))) refl)

  last_three : t 1 ≡ t 0 + 1 → t 2 ≡ t 0 + 1 → t 3 ≡ t 0 + 1 → i + t 0 ≤ j → j ≤ i + t 3 → Goal
  unfolding rise fall box quarters_of
  last_three a b c l h =
      let w = r.end (omega arith) in
      either j (i + t 0)
      (λ g. found 1 1 1 1 2 0 0 (omega (arith, r.odd 0 (j + 1) (omega arith), r.even 1 (j + 2) (omega arith))) refl)
      (λ g. found 1 1 1 2 2 0 1 (omega (arith, r.even 1 (j + 1) (omega arith), r.even 2 (j + 2) (omega arith))) refl)

  four : t 1 ≡ t 0 + 1 → t 2 ≡ t 0 + 2 → t 3 ≡ t 0 + 3 → i + t 0 ≤ j → j ≤ i + t 3 → Goal
  unfolding rise fall box quarters_of
  four a b c l h =
      let w = r.within in
      either j (i + t 0)
      (λ g. found 1 2 3 1 2 0 0 (omega (arith, r.odd 0 (j + 1) (omega arith), r.even 1 (j + 2) (omega arith))) refl)
      (λ d. either j (i + t 0 + 1)
      (λ g. found 1 2 3 2 3 1 1 (omega (arith, r.even 1 (j + 1) (omega arith), r.odd 1 (j + 2) (omega arith))) refl)
      (λ d1. either j (i + t 0 + 2)
      (λ g. found 1 2 3 3 4 1 2 (omega (arith, r.odd 1 (j + 1) (omega arith), r.even 2 (j + 2) (omega arith))) refl)
      (λ g. found 1 2 3 4 5 2 3 (omega (arith, r.even 2 (j + 1) (omega arith), r.odd 2 (j + 2) (omega arith))) refl)))

  among : i + t 0 ≤ j → j ≤ i + t 3 → Goal
  among l h =
      let a = r.one 0 (omega arith) in
      let b = r.one 1 (omega arith) in
      let c = r.one 2 (omega arith) in
      let d = r.up 0 (omega arith) in
      let e = r.up 1 (omega arith) in
      let f = r.up 2 (omega arith) in
      let g = r.some in
      either (t 1) (t 0)
      (λ x. either (t 2) (t 1)
      (λ y. first_three (omega arith) (omega arith) (omega arith) l h)
      (λ y. either (t 3) (t 2)
      (λ z. two_two (omega arith) (omega arith) (omega arith) l h)
      (λ z. first_two (omega arith) (omega arith) (omega arith) l h)))
      (λ x. either (t 2) (t 1)
      (λ y. either (t 3) (t 2)
      (λ z. last_three (omega arith) (omega arith) (omega arith) l h)
      (λ z. middle_two (omega arith) (omega arith) (omega arith) l h))
      (λ y. either (t 3) (t 2)
      (λ z. last_two (omega arith) (omega arith) (omega arith) l h)
      (λ z. four (omega arith) (omega arith) (omega arith) l h)))

  -- ---- no others

  before : j < i + t 0 → given ≡ 0
  unfolding cell_of
  before l =
      let d : t 0 ≢ t 2 = λ e. absurd (omega (arith, r.start e)) in
      let f = r.up 0 (omega arith) in
      let g = r.up 1 (omega arith) in
      let w : t 0 ≤ n = omega (arith, r.up 2 (omega arith), r.within) in
      let x : v (j + 1) ≤ 2 * t 0 = omega (arith, r.even 0 (i + t 0) (omega arith), r.rising (j + 1) (i + t 0) (omega arith) (omega (arith, r.number))) in
      either (t 0) (t 1)
      (λ e. let y : v (j + 2) ≤ 2 * t 0 = omega (arith, r.even 1 (i + t 0 + 1) (omega arith), r.rising (j + 2) (i + t 0 + 1) (omega arith) (omega (arith, r.number))) in
      rw (rise_none 2 (t 0) (t 2) (v (j + 2)) y, hat_before (t 1) (t 2) (t 3) (v (j + 1)) cell (omega arith) (omega arith)) (omega arith))
      (λ e. rw (hat_before (t 0) (t 1) (t 2) (v (j + 1)) cell x (omega arith), hat_before (t 1) (t 2) (t 3) (v (j + 1)) cell (omega arith) (omega arith)) (omega arith))

  behind : j < count + n → i + t 3 < j → given ≡ 0
  unfolding cell_of
  behind u l =
      let d : t 1 ≢ t 3 = λ e. absurd (omega (arith, r.end e)) in
      let f = r.up 1 (omega arith) in
      let g = r.up 2 (omega arith) in
      let x : 2 * t 2 ≤ v (j + 1) = omega (arith, r.even 2 (i + 2 + t 2) (omega arith), r.rising (i + 2 + t 2) (j + 1) (omega arith) (omega arith)) in
      let y : 2 * t 3 ≤ v (j + 2) = omega (arith, r.even 3 (i + 3 + t 3) (omega arith), r.rising (i + 3 + t 3) (j + 2) (omega arith) (omega arith)) in
      rw (fall_none 2 (t 1) (t 3) (v (j + 2)) y, hat_behind (t 0) (t 1) (t 2) (v (j + 1)) cell x (omega (arith, r.within))) (omega arith)

  pub parabola_children : j < count + n → Goal
  parabola_children u =
      let z : 0 * 4 / 8 ≡ 0 = refl in
      let a = children_by i (t 0) (t 1) (t 2) (t 3) in
      cases (ltb j (i + t 0))
      (λ y. let l = ltb→lt j (i + t 0) y in rw (before l, none_before a j l) z)
      (λ y. cases (ltb (i + t 3) j)
      (λ w. let l = ltb→lt (i + t 3) j w in rw (behind u l, none_behind a j l) z)
      (λ w. among (nltb→le j (i + t 0) y) (nltb→le (i + t 3) j w)))
