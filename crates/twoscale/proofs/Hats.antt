-- The children of a function of degree 1, by its knots. Assumes nothing.
use mathlib.Core.Path.{◌≡◌, refl}
use mathlib.Core.Logic.{◌≢◌}
use Prim.Native.Nat.{ℕ, min, ◌+◌, ◌-◌, ◌*◌, ◌/◌, ◌≤◌, ◌<◌}
use native.Mathlib.Omega.{arith}
use lib.Dec.{ltb, ltb→lt, nltb→le}
use Rattle.facts.proofs.Tests.{cases}
use Rattle.splines.specs.Values.{rise, fall, box, cell_of}
use Rattle.twoscale.specs.Passing.{quarters_of}
use Rattle.twoscale.proofs.Shifts.{hat, hat_on, children_by, children_on, none_before, none_behind, hat_before, hat_behind}
use Rattle.twoscale.proofs.Refined.{Refined, either}

-- on line k and behind it as on line 0 and behind it
moved : {j t0 t1 t2 y d : ℕ} (i k a b x c m : ℕ) → t0 ≡ k + 0 → t1 ≡ k + a → t2 ≡ k + b → y ≡ 2 * k + x → d ≡ k + c → j ≡ i + k + m
    → hat 0 a b x c * 4 / 2 ≡ quarters_of (children_by 0 0 a a b) m
    → hat t0 t1 t2 y d * 4 / 2 ≡ quarters_of (children_by i t0 t1 t1 t2) j
moved i k a b x c m e0 e1 e2 f g h z = rw (e0, e1, e2, f, g, h, hat_on k 0 a b x c, children_on k i a a b m) z

module _ (n count i : ℕ) (t v : ℕ → ℕ) (r : Refined 1 n count i t v) (j : ℕ) where
  abbrev cell : ℕ
  cell = cell_of 2 n (v (j + 1))

  abbrev given : ℕ
  given = hat (t 0) (t 1) (t 2) (v (j + 1)) cell

  abbrev Goal : Type 0
  Goal = given * 4 / 2 ≡ quarters_of (children_by i (t 0) (t 1) (t 1) (t 2)) j

  -- seen from the first knot: the others, the point and its cell, and the child
  record Seen (a b x c m : ℕ) : Type 0 where
    second : t 1 ≡ t 0 + a
    third : t 2 ≡ t 0 + b
    point : v (j + 1) ≡ 2 * t 0 + x
    around : min ((2 * t 0 + x) / 2) (n - 1) ≡ t 0 + c
    child : j ≡ i + t 0 + m

  found : (a b x c m : ℕ) → Seen a b x c m → hat 0 a b x c * 4 / 2 ≡ quarters_of (children_by 0 0 a a b) m → Goal
  unfolding cell_of
  found a b x c m s z = moved i (t 0) a b x c m (omega arith) s.second s.third s.point (rw s.point s.around) s.child z

  -- ---- the children, by which knots lie on one line

  first_two : t 1 ≡ t 0 → i + t 0 ≤ j → j ≤ i + t 2 → Goal
  unfolding rise fall box quarters_of
  first_two e l h =
      let w = r.within in
      let f : t 2 ≡ t 0 + 1 = omega (arith, r.one 1 (omega arith), r.some) in
      either j (i + t 0)
      (λ g. found 0 1 0 0 0 (omega (arith, r.even 1 (j + 1) (omega arith))) refl)
      (λ g. found 0 1 1 0 1 (omega (arith, r.odd 1 (j + 1) (omega arith))) refl)

  last_two : t 1 ≡ t 0 + 1 → t 2 ≡ t 1 → i + t 0 ≤ j → j ≤ i + t 2 → Goal
  unfolding rise fall box quarters_of
  last_two e f l h =
      let w = r.end (omega arith) in
      either j (i + t 0)
      (λ g. found 1 1 1 0 0 (omega (arith, r.odd 0 (j + 1) (omega arith))) refl)
      (λ g. found 1 1 2 0 1 (omega (arith, r.even 1 (j + 1) (omega arith))) refl)

  three : t 1 ≡ t 0 + 1 → t 2 ≡ t 0 + 2 → i + t 0 ≤ j → j ≤ i + t 2 → Goal
  unfolding rise fall box quarters_of
  three e f l h =
      let w = r.within in
      either j (i + t 0)
      (λ g. found 1 2 1 0 0 (omega (arith, r.odd 0 (j + 1) (omega arith))) refl)
      (λ d. either j (i + t 0 + 1)
      (λ g. found 1 2 2 1 1 (omega (arith, r.even 1 (j + 1) (omega arith))) refl)
      (λ g. found 1 2 3 1 2 (omega (arith, r.odd 1 (j + 1) (omega arith))) refl))

  among : i + t 0 ≤ j → j ≤ i + t 2 → Goal
  among l h =
      let a = r.one 0 (omega arith) in
      let b = r.one 1 (omega arith) in
      let c = r.up 0 (omega arith) in
      let d = r.up 1 (omega arith) in
      either (t 1) (t 0) (λ e. first_two e l h)
      (λ e. either (t 2) (t 1) (λ f. last_two (omega arith) f l h) (λ f. three (omega arith) (omega arith) l h))

  -- ---- no others

  before : j < i + t 0 → given ≡ 0
  unfolding cell_of
  before l =
      let d : t 0 ≢ t 1 = λ e. absurd (omega (arith, r.start e)) in
      let w : i + t 0 ≤ count + n + 1 = omega (arith, r.up 0 (omega arith), r.up 1 (omega arith), r.within, r.number) in
      let x : v (j + 1) ≤ 2 * t 0 = omega (arith, r.even 0 (i + t 0) (omega arith), r.rising (j + 1) (i + t 0) (omega arith) w) in
      hat_before (t 0) (t 1) (t 2) (v (j + 1)) cell x (omega (arith, r.up 0 (omega arith)))

  behind : j < count + n → i + t 2 < j → given ≡ 0
  unfolding cell_of
  behind u l =
      let d : t 1 ≢ t 2 = λ e. absurd (omega (arith, r.end e)) in
      let x : 2 * t 2 ≤ v (j + 1) = omega (arith, r.even 2 (i + 2 + t 2) (omega arith), r.rising (i + 2 + t 2) (j + 1) (omega arith) (omega arith)) in
      hat_behind (t 0) (t 1) (t 2) (v (j + 1)) cell x (omega (arith, r.up 1 (omega arith), r.within))

  pub hat_children : j < count + n → Goal
  hat_children u =
      let z : 0 * 4 / 2 ≡ 0 = refl in
      let a = children_by i (t 0) (t 1) (t 1) (t 2) in
      cases (ltb j (i + t 0))
      (λ y. let l = ltb→lt j (i + t 0) y in rw (before l, none_before a j l) z)
      (λ y. cases (ltb (i + t 2) j)
      (λ w. let l = ltb→lt (i + t 2) j w in rw (behind u l, none_behind a j l) z)
      (λ w. among (nltb→le j (i + t 0) y) (nltb→le (i + t 2) j w)))
