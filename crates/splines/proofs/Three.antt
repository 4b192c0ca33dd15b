-- Three numbers side by side, and 0 elsewhere: what the functions over a cell have there. Assumes nothing.
use mathlib.Core.Path.{◌≡◌, refl, sym, ap, ◌∙◌}
use mathlib.Core.Logic.{◌≢◌}
use mathlib.Core.Bool.{cond}
use Prim.Native.Nat.{ℕ, ◌+◌, ◌-◌, ◌*◌, ◌≤◌, ◌<◌}
use native.Mathlib.Omega.{arith}
use lib.Dec.{eqb, eqb→eq}
use Rattle.facts.specs.Bounded.{sum}
use Rattle.facts.proofs.Sums.{sum_split, sum_zero}
use Rattle.facts.proofs.Tests.{cases, T_true, T_false, differ, eqb_of}

-- p at f, q behind it, r behind that
unfoldable pub three : ℕ → ℕ → ℕ → ℕ → ℕ → ℕ
three f p q r i = cond (eqb i f) p (cond (eqb i (f + 1)) q (cond (eqb i (f + 2)) r 0))

pub three_0 : (f p q r i : ℕ) → i ≡ f → three f p q r i ≡ p
unfolding three
three_0 f p q r i e = rw (T_true (eqb i f) (eqb_of i f e))

pub three_1 : (f p q r i : ℕ) → i ≡ f + 1 → three f p q r i ≡ q
unfolding three
three_1 f p q r i e =
    rw (T_false (eqb i f) (λ y. let g = eqb→eq i f y in absurd (omega arith)), T_true (eqb i (f + 1)) (eqb_of i (f + 1) e))

pub three_2 : (f p q r i : ℕ) → i ≡ f + 2 → three f p q r i ≡ r
unfolding three
three_2 f p q r i e =
    rw (
      T_false (eqb i f) (λ y. let g = eqb→eq i f y in absurd (omega arith)),
      T_false (eqb i (f + 1)) (λ y. let g = eqb→eq i (f + 1) y in absurd (omega arith)),
      T_true (eqb i (f + 2)) (eqb_of i (f + 2) e),
    )

pub three_off : (f p q r i : ℕ) → i ≢ f → i ≢ f + 1 → i ≢ f + 2 → three f p q r i ≡ 0
unfolding three
three_off f p q r i a b d =
    rw (
      T_false (eqb i f) (λ y. a (eqb→eq i f y)),
      T_false (eqb i (f + 1)) (λ y. b (eqb→eq i (f + 1) y)),
      T_false (eqb i (f + 2)) (λ y. d (eqb→eq i (f + 2) y)),
    )

-- the four places of i
pub places : {C : Type 0} (f i : ℕ) → (i ≡ f → C) → (i ≡ f + 1 → C) → (i ≡ f + 2 → C) → (i ≢ f → i ≢ f + 1 → i ≢ f + 2 → C) → C
places f i a b d e =
    cases (eqb i f) (λ y. a (eqb→eq i f y)) (λ y. cases (eqb i (f + 1)) (λ z. b (eqb→eq i (f + 1) z))
    (λ z. cases (eqb i (f + 2)) (λ w. d (eqb→eq i (f + 2) w)) (λ w. e (differ i f y) (differ i (f + 1) z) (differ i (f + 2) w))))

pub three_same : (f i : ℕ) {p q r p' q' r' : ℕ} → p ≡ p' → q ≡ q' → r ≡ r' → three f p q r i ≡ three f p' q' r' i
three_same f i a b d = rw (a, b, d)

-- a 0 in front goes behind
pub three_shift : (f q r i : ℕ) → three f 0 q r i ≡ three (f + 1) q r 0 i
three_shift f q r i =
    places f i
    (λ e. rw (three_0 f 0 q r i e, three_off (f + 1) q r 0 i (omega arith) (omega arith) (omega arith)))
    (λ e. rw (three_1 f 0 q r i e, three_0 (f + 1) q r 0 i e))
    (λ e. rw (three_2 f 0 q r i e, three_1 (f + 1) q r 0 i (omega arith)))
    (λ x y z. rw (three_off f 0 q r i x y z) (sym (cases (eqb i (f + 3)) (λ w. three_2 (f + 1) q r 0 i (omega (arith, eqb→eq i (f + 3) w)))
    (λ w. three_off (f + 1) q r 0 i y (omega arith) (omega (arith, differ i (f + 3) w))))))

pub three_times : (f p q r k i : ℕ) → three f p q r i * k ≡ three f (k * p) (k * q) (k * r) i
three_times f p q r k i =
    places f i
    (λ e. rw (three_0 f p q r i e, three_0 f (k * p) (k * q) (k * r) i e) (omega arith))
    (λ e. rw (three_1 f p q r i e, three_1 f (k * p) (k * q) (k * r) i e) (omega arith))
    (λ e. rw (three_2 f p q r i e, three_2 f (k * p) (k * q) (k * r) i e) (omega arith))
    (λ x y z. rw (three_off f p q r i x y z, three_off f (k * p) (k * q) (k * r) i x y z) (omega arith))

pub three_most : (f p q r i : ℕ) → three f p q r i ≤ p + q + r
three_most f p q r i =
    places f i
    (λ e. rw (three_0 f p q r i e) (omega arith))
    (λ e. rw (three_1 f p q r i e) (omega arith))
    (λ e. rw (three_2 f p q r i e) (omega arith))
    (λ x y z. rw (three_off f p q r i x y z) (omega arith))

-- a sum of what is 0 except at w numbers from f on
pub sum_window : (N f w : ℕ) (g : ℕ → ℕ) → f + w ≤ N → ((i : ℕ) → i < f → g i ≡ 0) → ((i : ℕ) → f + w ≤ i → i < N → g i ≡ 0) → sum N g ≡ sum w (λ k. g (f + k))
sum_window N f w g h a b =
    ap (λ z. sum z g) parts
    ∙ sum_split (f + w) (N - (f + w)) g
    ∙ omega (arith, sum_split f w g, sum_zero f g a, sum_zero (N - (f + w)) (λ k. g (f + w + k)) (λ k l. b (f + w + k) (omega arith) (omega arith)))
  where
    parts : N ≡ f + w + (N - (f + w))
    parts = omega arith

-- their sum, where they all stand below n, or the first two do and the third is 0
pub three_sum : (n f p q r : ℕ) → f + 2 ≤ n → (n ≡ f + 2 → r ≡ 0) → sum n (three f p q r) ≡ p + q + r
unfolding sum
three_sum n f p q r h z =
    cases (eqb n (f + 2))
    (λ y. let e = eqb→eq n (f + 2) y in
    sum_window n f 2 (three f p q r) h (λ i l. three_off f p q r i (omega arith) (omega arith) (omega arith)) (λ i l m. absurd (omega arith))
    ∙ omega (arith, three_0 f p q r (f + 0) (omega arith), three_1 f p q r (f + 1) refl, z e))
    (λ y. let e = differ n (f + 2) y in
    sum_window n f 3 (three f p q r) (omega arith) (λ i l. three_off f p q r i (omega arith) (omega arith) (omega arith)) (λ i l m. three_off f p q r i (omega arith) (omega arith) (omega arith))
    ∙ omega (arith, three_0 f p q r (f + 0) (omega arith), three_1 f p q r (f + 1) refl, three_2 f p q r (f + 2) refl))
