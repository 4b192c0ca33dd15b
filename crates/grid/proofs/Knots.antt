-- The knots of a side, by how many stand on the lines before a line; the functions over a column, by its first. Of any corners and any
-- degree. Assumes nothing.
use mathlib.Core.Path.{◌≡◌, refl, sym, ap, ◌∙◌}
use mathlib.Core.Logic.{⊎_elim}
use mathlib.Core.Bool.{Bool, true, false, ◌&&◌, ◌||◌, cond}
use Prim.Native.Nat.{ℕ, zero, suc, min, ◌+◌, ◌-◌, ◌*◌, ◌/◌, ◌%◌, ◌^◌, ◌<◌, ◌≤◌}
use native.Mathlib.Nat.{eq-or-lt_of_le, le_of_suc-le-suc, le_refl, sub-zero, mul-pos, mod-lt, zero-div, div-add-mod'}
use native.Mathlib.Omega.{arith}
use lib.Arith.{digits_div, digits_mod}
use lib.Dec.{T, eqb, leb, ltb, eqb→eq, eqb_refl, leb→le, le→leb, nleb→lt, ltb→lt, lt→ltb, nltb→le}
use borrow.Author.Tests.{lt-ltb, le-ltb, eq-eqb, ne_eqb}
use Rattle.facts.specs.Bounded.{sum}
use Rattle.facts.proofs.Tests.{cases, same, not_e, and_i, and_l, and_r, or_r, T_true, T_false}
use Rattle.grid.specs.declared.Side.{Side}
use Rattle.grid.specs.Knots.{is_set, is_corner, corners_to, times, knot_from, knot, knot_on, beyond, functions, covers, first_over}
use Rattle.grid.specs.Side.{Sized}

-- ---- knots, by how often each line is taken

pub sum_mono : (m : ℕ → ℕ) (i j : ℕ) → i ≤ j → sum i m ≤ sum j m
unfolding sum
sum_mono m i zero h = let e : i ≡ 0 = omega arith in rw e (omega arith)
sum_mono m i (suc j) h =
    ⊎_elim (λ e. rw e (omega arith)) (λ l. omega (arith, sum_mono m i j (le_of_suc-le-suc l))) (eq-or-lt_of_le h)

module _ (m : ℕ → ℕ) where
  -- the knots on line j are those from number `sum j m` on
  from_at : (n k j i : ℕ) → k ≤ j → j < k + n → sum j m ≤ i → i < sum (suc j) m → knot_from m n k (i - sum k m) ≡ j
  unfolding knot_from sum
  from_at zero k j i a b l h = absurd (omega arith)
  from_at (suc n) k j i a b l h =
      ⊎_elim
      (λ e. let g : i - sum k m < m k = omega (arith, ap (λ z. sum (suc z) m) e, ap (λ z. sum z m) e) in rw (lt-ltb (i - sum k m) (m k) g) e)
      (λ z. let g : m k ≤ i - sum k m = omega (arith, sum_mono m (suc k) j z) in
      let f : i - sum k m - m k ≡ i - sum (suc k) m = omega arith in
      let w : j < suc k + n = omega arith in
      rw (le-ltb (i - sum k m) (m k) g, f) (from_at n (suc k) j i z w l h))
      (eq-or-lt_of_le a)

  -- behind the last knot
  from_none : (n k e i : ℕ) → e ≡ k + n → sum e m ≤ i → knot_from m n k (i - sum k m) ≡ 0
  unfolding knot_from sum
  from_none zero k e i g h = refl
  from_none (suc n) k e i g h =
      let l : m k ≤ i - sum k m = omega (arith, sum_mono m (suc k) e (omega arith)) in
      let f : i - sum k m - m k ≡ i - sum (suc k) m = omega arith in
      let w : e ≡ suc k + n = omega arith in
      rw (le-ltb (i - sum k m) (m k) l, f) (from_none n (suc k) e i w h)

  -- each knot lies on some line
  abbrev pub Line : ℕ → ℕ → Type 0
  Line n i = (j : ℕ) × (j < n) × (sum j m ≤ i) × (i < sum (suc j) m)

  pub line : (n i : ℕ) → i < sum n m → Line n i
  unfolding sum
  line zero i h = absurd (omega arith)
  line (suc n) i h =
      cases (ltb i (sum n m))
      (λ y. let l = line n i (ltb→lt i (sum n m) y) in (l.0, omega arith, l.2, l.3))
      (λ y. (n, le_refl (suc n), nltb→le i (sum n m) y, h))

  module _ (n : ℕ) where
    pub knot_at : (j i : ℕ) → j ≤ n → sum j m ≤ i → i < sum (suc j) m → knot m n i ≡ j
    unfolding knot sum
    knot_at j i h a b = rw sub-zero at (from_at (suc n) 0 j i (omega arith) (omega arith) a b)

    pub knot_none : (i : ℕ) → sum (suc n) m ≤ i → knot m n i ≡ 0
    unfolding knot sum
    knot_none i h = rw sub-zero at (from_none (suc n) 0 (suc n) i (omega arith) h)

    -- a knot lies on line c or before it just where its number is below that of the first knot behind line c
    pub knot_le : (i c : ℕ) → i < sum (suc c) m → i < sum (suc n) m → knot m n i ≤ c
    knot_le i c a b =
        let l = line (suc n) i b in
        let e = knot_at l.0 i (omega arith) l.2 l.3 in
        cases (leb l.0 c) (λ y. rw e (leb→le l.0 c y))
        (λ y. absurd (omega (arith, sum_mono m (suc c) l.0 (nleb→lt l.0 c y))))

    pub knot_gt : (i c : ℕ) → sum (suc c) m ≤ i → i < sum (suc n) m → c < knot m n i
    knot_gt i c a b =
        let l = line (suc n) i b in
        let e = knot_at l.0 i (omega arith) l.2 l.3 in
        cases (leb l.0 c) (λ y. let z : suc l.0 ≤ suc c = omega (arith, leb→le l.0 c y) in absurd (omega (arith, sum_mono m (suc l.0) (suc c) z)))
        (λ y. rw e (nleb→lt l.0 c y))

    -- and back
    pub below_of_le : (i c : ℕ) → knot m n i ≤ c → i < sum (suc n) m → i < sum (suc c) m
    below_of_le i c a b =
        cases (ltb i (sum (suc c) m)) (λ y. ltb→lt i (sum (suc c) m) y) (λ y. absurd (omega (arith, knot_gt i c (nltb→le i (sum (suc c) m) y) b)))

    pub above_of_gt : (i c : ℕ) → c < knot m n i → (i < sum (suc n) m) × (sum (suc c) m ≤ i)
    above_of_gt i c a =
        let b : i < sum (suc n) m = cases (ltb i (sum (suc n) m)) (λ y. ltb→lt i (sum (suc n) m) y) (λ y. absurd (omega (arith, knot_none i (nltb→le i (sum (suc n) m) y)))) in
        (b, cases (ltb i (sum (suc c) m)) (λ y. absurd (omega (arith, knot_le i c (ltb→lt i (sum (suc c) m) y) b))) (λ y. nltb→le i (sum (suc c) m) y))

    -- the next knot lies on the same line or on the next
    pub knot_next : ((j : ℕ) → j ≤ n → 1 ≤ m j) → (i : ℕ) → suc i < sum (suc n) m → knot m n (suc i) ≤ suc (knot m n i)
    unfolding sum
    knot_next least i b =
        let l = line (suc n) i (omega arith) in
        let e = knot_at l.0 i (omega arith) l.2 l.3 in
        rw e (knot_le (suc i) (suc l.0)
        (cases (ltb l.0 n)
        (λ y. omega (arith, l.3, least (suc l.0) (ltb→lt l.0 n y)))
        (λ y. let z : l.0 ≡ n = omega (arith, l.1, nltb→le l.0 n y) in omega (arith, ap (λ k. sum (suc k) m) z)))
        b)

-- ---- counting corners on level 0

pub bit_le : (b : Bool) → cond b 1 0 ≤ 1
bit_le true = le_refl 1
bit_le false = let e : 0 ≤ 1 = omega arith in e

pub corners_le : (bits c : ℕ) → corners_to bits c ≤ c
unfolding corners_to
corners_le bits zero = omega arith
corners_le bits (suc c) = omega (arith, corners_le bits c, bit_le (is_set bits (suc c)))

pub corners_mono : (bits c d : ℕ) → c ≤ d → corners_to bits c ≤ corners_to bits d
unfolding corners_to
corners_mono bits c zero h = let e : c ≡ 0 = omega arith in rw e (omega arith)
corners_mono bits c (suc d) h =
    ⊎_elim (λ e. rw e (omega arith)) (λ l. omega (arith, corners_mono bits c d (le_of_suc-le-suc l))) (eq-or-lt_of_le h)

pub no_corners_lem : (c : ℕ) → corners_to 0 c ≡ 0
unfolding corners_to is_set
no_corners_lem zero = refl
no_corners_lem (suc c) = rw (zero-div (2 ^ suc c), no_corners_lem c) refl

-- ---- columns of level 0, u columns of a level on each

module _ (u : ℕ) (some : 0 < u) where
  -- the next column stands on the same column of level 0, or begins the next
  pub data Next (x : ℕ) : Type 0 where
    within : suc x / u ≡ x / u → 0 < suc x % u → Next x
    begins : suc x / u ≡ suc (x / u) → suc x % u ≡ 0 → Next x

  pub next : (x : ℕ) → Next x
  next x = ⊎_elim begin stay (eq-or-lt_of_le (mod-lt x some))
    where
      begin : suc (x % u) ≡ u → Next x
      begin e =
          let f : suc x ≡ suc (x / u) * u + 0 = omega (arith, div-add-mod' x u) in
          begins (ap (λ y. y / u) f ∙ digits_div (suc (x / u)) some) (ap (λ y. y % u) f ∙ digits_mod (suc (x / u)) some)

      stay : suc (x % u) < u → Next x
      stay l =
          let f : suc x ≡ x / u * u + suc (x % u) = omega (arith, div-add-mod' x u) in
          within (ap (λ y. y / u) f ∙ digits_div (x / u) l) (omega (arith, ap (λ y. y % u) f ∙ digits_mod (x / u) l))

-- ---- a side's

-- a line is taken once, or `degree` times at a corner
inner_least : (b : Bool) (d : ℕ) → 1 ≤ d → 1 ≤ cond b d 1
inner_least true d h = h
inner_least false d h = le_refl 1

inner_most : (b : Bool) (d : ℕ) → 1 ≤ d → cond b d 1 ≤ d
inner_most true d h = le_refl d
inner_most false d h = h

-- one function more, and d - 1 more at a corner
one_more : (b : Bool) (d x k : ℕ) → 1 ≤ d → x + (d - 1) * k + cond b d 1 ≡ suc x + (d - 1) * (k + cond b 1 0)
one_more true d x k h = omega arith
one_more false d x k h = omega arith

-- ---- without corners

pub plain_first : (s : Side) → s.corners ≡ 0 → (x : ℕ) → first_over s x ≡ x
unfolding first_over
plain_first s e x = rw (e, no_corners_lem (x / s.unit)) (omega arith)

pub plain_functions : (s : Side) → s.corners ≡ 0 → functions s ≡ s.cells + s.degree
unfolding functions beyond
plain_functions s e = rw (e, no_corners_lem (s.base - 1)) (omega arith)

module _ (s : Side) (sized : Sized s) where
  abbrev d : ℕ
  d = s.degree

  abbrev n : ℕ
  n = s.cells

  abbrev u : ℕ
  u = s.unit

  abbrev C : ℕ → ℕ
  C = corners_to s.corners

  pub some_cells : 1 ≤ s.cells
  some_cells = rw sized.whole (mul-pos sized.base≥ sized.unit≥)

  -- ---- how often a line is taken

  pub times_start : times s 0 ≡ s.degree + 1
  unfolding times
  times_start = refl

  pub times_end : times s s.cells ≡ s.degree + 1
  unfolding times
  times_end = rw (T_true (eqb n 0 || eqb n n) (or_r (eqb n 0) (eqb n n) (eqb_refl n)))

  pub times_inner : (j : ℕ) → 1 ≤ j → j < s.cells → times s j ≡ cond (is_corner s j) s.degree 1
  unfolding times
  times_inner j a b = rw (ne_eqb j 0 (λ z. absurd (omega arith)), ne_eqb j n (λ z. absurd (omega arith)))

  pub times_least : (j : ℕ) → 1 ≤ times s j
  unfolding times
  times_least j = go (eqb j 0 || eqb j n)
    where
      go : (a : Bool) → 1 ≤ cond a (d + 1) (cond (is_corner s j) d 1)
      go true = let e : 1 ≤ d + 1 = omega arith in e
      go false = inner_least (is_corner s j) d sized.degree≥

  pub times_most : (j : ℕ) → 1 ≤ j → j < s.cells → times s j ≤ s.degree
  times_most j a b = rw (times_inner j a b) (inner_most (is_corner s j) d sized.degree≥)

  -- ---- the corners on a level's lines are those of level 0

  pub corners_next : (x : ℕ) → C (suc x / u) ≡ C (x / u) + cond (is_corner s (suc x)) 1 0
  unfolding corners_to is_corner
  corners_next x = go (next u sized.unit≥ x)
    where
      go : Next u sized.unit≥ x → C (suc x / u) ≡ C (x / u) + cond (eqb (suc x % u) 0 && is_set s.corners (suc x / u)) 1 0
      go (within f m) = rw (f, ne_eqb (suc x % u) 0 (λ z. absurd (omega arith))) (omega arith)
      go (begins f m) = rw (f, eq-eqb (suc x % u) 0 m)

  -- the corners on the lines 1 to x
  pub corners_lines : (x : ℕ) → sum x (λ j. cond (is_corner s (suc j)) 1 0) ≡ corners_to s.corners (x / s.unit)
  unfolding sum corners_to
  corners_lines zero = rw (zero-div u)
  corners_lines (suc x) = rw (corners_lines x, corners_next x)

  -- ---- the first function over a column

  pub first_zero : first_over s 0 ≡ 0
  unfolding first_over corners_to
  first_zero = rw (zero-div u) (omega arith)

  pub first_next : (x : ℕ) → first_over s x + cond (is_corner s (suc x)) s.degree 1 ≡ first_over s (suc x)
  unfolding first_over
  first_next x = rw (corners_next x) (one_more (is_corner s (suc x)) d x (C (x / u)) sized.degree≥)

  pub first_rises : (x : ℕ) → first_over s x < first_over s (suc x)
  first_rises x = omega (arith, first_next x, inner_least (is_corner s (suc x)) d sized.degree≥)

  pub first_mono : (x y : ℕ) → x ≤ y → first_over s x ≤ first_over s y
  first_mono x zero h = let e : x ≡ 0 = omega arith in rw e (omega arith)
  first_mono x (suc y) h =
      ⊎_elim (λ e. rw e (omega arith)) (λ l. omega (arith, first_mono x y (le_of_suc-le-suc l), first_rises y)) (eq-or-lt_of_le h)

  -- ---- the knots up to a line, and all: "supports follow from the knots"

  pub knots_to : (x : ℕ) → x < s.cells → sum (suc x) (times s) ≡ first_over s x + s.degree + 1
  unfolding sum
  knots_to zero l = omega (arith, times_start, first_zero)
  knots_to (suc x) l = omega (arith, knots_to x (omega arith), times_inner (suc x) (omega arith) l, first_next x)

  -- the last column stands on the last of level 0
  last_base : (n - 1) / u ≡ s.base - 1
  last_base =
      let e : suc (s.base - 1) ≡ s.base = omega (arith, sized.base≥) in
      let f : n - 1 ≡ (s.base - 1) * u + (u - 1) = omega (arith, sized.whole, sized.unit≥, ap (λ z. z * u) e) in
      ap (λ y. y / u) f ∙ digits_div (s.base - 1) (omega (arith, sized.unit≥))

  pub functions_last : functions s ≡ first_over s (s.cells - 1) + s.degree + 1
  unfolding functions beyond first_over
  functions_last = rw last_base (omega (arith, some_cells))

  -- "the functions are the knots' count less p+1"
  pub knots_all : sum (suc s.cells) (times s) ≡ functions s + s.degree + 1
  unfolding sum
  knots_all =
      let e : suc (n - 1) ≡ n = omega (arith, some_cells) in
      let k : sum n (times s) ≡ first_over s (n - 1) + d + 1 = ap (λ z. sum z (times s)) (sym e) ∙ knots_to (n - 1) (omega (arith, some_cells)) in
      omega (arith, functions_last, times_end)

  -- the last function over a column is one of the side's
  pub first_lt : (x : ℕ) → x < s.cells → first_over s x + s.degree < functions s
  first_lt x l = omega (arith, functions_last, first_mono x (n - 1) (omega arith))

  -- ---- the functions over a column: the first and the next `degree`

  module _ (i x : ℕ) where
    -- between the first and the last knot of function i
    abbrev pub between : Bool
    between = leb (knot_on s i) x && ltb x (knot_on s (i + s.degree + 1))

    between_fact : T between → (x < s.cells) × (first_over s x ≤ i) × (i ≤ first_over s x + s.degree)
    between_fact t =
        let a = leb→le (knot_on s i) x (and_l (leb (knot_on s i) x) (ltb x (knot_on s (i + d + 1))) t) in
        let b = ltb→lt x (knot_on s (i + d + 1)) (and_r (leb (knot_on s i) x) (ltb x (knot_on s (i + d + 1))) t) in
        let (w, g) = above_of_gt (times s) n (i + d + 1) x b in
        let l : x < n = omega (arith, knot_le (times s) n (i + d + 1) n w w) in
        let k = knots_to x l in
        (l, omega arith, omega (arith, below_of_le (times s) n i x a (omega arith)))

    between_test : x < s.cells → first_over s x ≤ i → i ≤ first_over s x + s.degree → T between
    between_test l a b =
        let k = knots_to x l in
        let w : i + d + 1 < sum (suc n) (times s) = omega (arith, knots_all, first_lt x l) in
        and_i (leb (knot_on s i) x) (ltb x (knot_on s (i + d + 1)))
        (le→leb (knot_on s i) x (knot_le (times s) n i x (omega arith) (omega arith)))
        (lt→ltb x (knot_on s (i + d + 1)) (knot_gt (times s) n (i + d + 1) x (omega arith) w))

    -- document 01's words, where there is no corner
    abbrev smooth : Bool
    smooth = leb (i - s.degree) x && leb x (min (s.cells - 1) i)

    smooth_fact : s.corners ≡ 0 → T smooth → (x < s.cells) × (first_over s x ≤ i) × (i ≤ first_over s x + s.degree)
    smooth_fact z t =
        let a = leb→le (i - d) x (and_l (leb (i - d) x) (leb x (min (n - 1) i)) t) in
        let b = leb→le x (min (n - 1) i) (and_r (leb (i - d) x) (leb x (min (n - 1) i)) t) in
        let e = plain_first s z x in
        (omega (arith, some_cells), omega arith, omega arith)

    smooth_test : s.corners ≡ 0 → x < s.cells → first_over s x ≤ i → i ≤ first_over s x + s.degree → T smooth
    smooth_test z l a b =
        let e = plain_first s z x in
        and_i (leb (i - d) x) (leb x (min (n - 1) i)) (le→leb (i - d) x (omega arith)) (le→leb x (min (n - 1) i) (omega arith))

    pub covers_fact : T (covers s i x) → (x < s.cells) × (first_over s x ≤ i) × (i ≤ first_over s x + s.degree)
    unfolding covers
    covers_fact t = cases (eqb s.corners 0)
        (λ y. smooth_fact (eqb→eq s.corners 0 y) (rw (T_true (eqb s.corners 0) y) at t))
        (λ y. between_fact (rw (T_false (eqb s.corners 0) (not_e (eqb s.corners 0) y)) at t))

    pub covers_test : x < s.cells → first_over s x ≤ i → i ≤ first_over s x + s.degree → T (covers s i x)
    unfolding covers
    covers_test l a b = cases (eqb s.corners 0)
        (λ y. rw (T_true (eqb s.corners 0) y) (smooth_test (eqb→eq s.corners 0 y) l a b))
        (λ y. rw (T_false (eqb s.corners 0) (not_e (eqb s.corners 0) y)) (between_test l a b))

    -- the knots give every support, with corners or without
    pub covers_between : covers s i x ≡ between
    covers_between = same (covers s i x) between
        (λ t. let (l, a, b) = covers_fact t in between_test l a b)
        (λ t. let (l, a, b) = between_fact t in covers_test l a b)
