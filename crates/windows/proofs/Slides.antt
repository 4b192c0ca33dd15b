-- Two slides, one along the rows and one across them, leave the least byte of each window. Assumes nothing.
use mathlib.Core.Path.{◌≡◌, sym, ap, ◌∙◌}
use mathlib.Core.Bool.{cond}
use mathlib.Core.List.{List}
use Prim.Native.Nat.{ℕ, zero, suc, ◌+◌, ◌-◌, ◌*◌, ◌/◌, ◌%◌, ◌≤◌, ◌<◌}
use native.Mathlib.Nat.{le_of_eq, le_trans, le_antisymm, mul-le-mul_right, mul-zero, div-add-mod', div-lt_iff_lt-mul, mod-lt}
use native.Mathlib.Omega.{arith}
use lib.Arith.{digits_div, digits_mod}
use lib.Dec.{eqb, eqb→eq}
use lib.ListN.{length, get_or}
use borrow.Rule.Slice.PartMut.{mid_of}
use Rattle.facts.specs.Least.{least}
use Rattle.facts.specs.Mapped.{in_run, filled}
use Rattle.facts.proofs.Least.{least_same, least_le, least_top, least_ge}
use Rattle.facts.proofs.Tests.{cases, positive}
use Rattle.facts.proofs.Mapped.{run_in, run_before, run_after, run_e, part_at, mapped_at, mapped_more}
use Rattle.windows.specs.Windows.{moved, slid, in_rows, row_slid, back, window_at, window_least}

-- ---- one direction: the window has the places that are i or at most p before it

module _ (n p i : ℕ) (g : ℕ → ℕ) where
  pub back_le : (y : ℕ) → y < n → y ≤ i → i ≤ y + p → least 2 (p + 1) (back n i g) ≤ g y
  back_le y l u v =
      let q : i - (i - y) ≡ y = omega arith in
      let r : back n i g (i - y) ≡ g y = rw (run_in (i - y) n i (omega arith) (omega arith), q) in
      rw r at (least_le 2 (p + 1) (back n i g) (i - y) (omega arith))

  pub back_ge : (v : ℕ) → v ≤ 2 → ((y : ℕ) → y < n → y ≤ i → i ≤ y + p → v ≤ g y) → v ≤ least 2 (p + 1) (back n i g)
  back_ge v t h = least_ge 2 _ _ v t (λ d l. run_e d n i
      (λ u. rw (run_before d n i u) t)
      (λ u w. rw (run_in d n i u w) (h (i - d) (omega arith) (omega arith) (omega arith)))
      (λ u. rw (run_after d n i u) t))

-- ---- a row through its part

module _ (from : List ℕ) (columns across row at first : ℕ) (e : at ≡ row * (columns + across)) (f : first ≡ row * columns) (j : ℕ) (l : j < columns + across) where
  pub row_slid_lem : (count : ℕ) → slid (mid_of first (length from - first) from) columns 1 count j ≡ row_slid (in_rows from columns) columns across count (at + j)
  unfolding slid row_slid moved
  row_slid_lem count =
      let r : (at + j) / (columns + across) ≡ row = ap (λ x. (x + j) / (columns + across)) e ∙ digits_div row l in
      let c : (at + j) % (columns + across) ≡ j = ap (λ x. (x + j) % (columns + across)) e ∙ digits_mod row l in
      rw (r, c) (least_same 2 count _ _ (λ d m.
      let q : d * 1 ≡ d = omega arith in
      rw (q, part_at first from (j - d), f)))

-- ---- along the rows, all at once: the rows stand apart by `across` entries of 2

module _ (byte : ℕ → ℕ → ℕ) (start padded : List ℕ) (columns rows across : ℕ)
    (e : padded ≡ filled 0 (rows * (columns + across)) (row_slid byte columns across 1) start) (s : rows * (columns + across) ≤ length start) where
  abbrev size : ℕ
  size = rows * (columns + across) - across

  padded_at : (k i : ℕ) → k < rows → i < columns + across
      → get_or padded (k * (columns + across) + i) 0 ≡ least 2 1 (λ d. cond (in_run d columns i) (byte k (i - d)) 2)
  unfolding filled row_slid
  padded_at k i l m =
      let b = mul-le-mul_right (columns + across) l in
      let u : k * (columns + across) + i < rows * (columns + across) = omega arith in
      ap (λ z. get_or z (k * (columns + across) + i) 0) e
      ∙ (mapped_at _ start (k * (columns + across) + i) (omega arith)
      ∙ rw (run_in 0 (rows * (columns + across)) (k * (columns + across) + i) (omega arith) (omega arith), digits_div k m, digits_mod k m))

  padded_gap : (k i : ℕ) → k < rows → columns ≤ i → i < columns + across → get_or padded (k * (columns + across) + i) 0 ≡ 2
  unfolding least
  padded_gap k i l g m = padded_at k i l m ∙ rw (run_after 0 columns i (omega arith))

  -- what a gap lowers
  in_gap : (k x d t : ℕ) → k < rows → columns ≤ x → x < columns + across → t ≡ k * (columns + across) + x + d → moved padded size d t ≡ 2
  unfolding moved
  in_gap k x d t l g m q = run_e d size t
      (λ u. rw (run_before d size t u))
      (λ u v. let z : t - d ≡ k * (columns + across) + x = omega arith in rw (run_in d size t u v, z) (padded_gap k x l g m))
      (λ u. rw (run_after d size t u))

  before_row : (r i d : ℕ) → r < rows → d ≤ across → i < d → moved padded size d (r * (columns + across) + i) ≡ 2
  unfolding moved
  before_row zero i d l a u = rw (run_before d size (0 * (columns + across) + i) (omega arith))
  before_row (suc k) i d l a u = in_gap k (columns + across + i - d) d _ (omega arith) (omega arith) (omega arith) (omega arith)

  in_row : (r i d : ℕ) → r < rows → d ≤ i → i < d + columns
      → moved padded size d (r * (columns + across) + i) ≡ least 2 1 (λ c. cond (in_run c columns (i - d)) (byte r (i - d - c)) 2)
  unfolding moved
  in_row r i d l u v =
      let b = mul-le-mul_right (columns + across) l in
      let z : r * (columns + across) + i - d ≡ r * (columns + across) + (i - d) = omega arith in
      rw (run_in d size (r * (columns + across) + i) (omega arith) (omega arith), z) (padded_at r (i - d) l (omega arith))

  -- one shift lowers a window by what stands there, or not below 2
  abbrev value : ℕ → ℕ → ℕ → ℕ
  value r i d = cond (in_run d columns i) (byte r (i - d)) 2

  shift_le : (r i d : ℕ) → r < rows → i < columns + across → d ≤ across → moved padded size d (r * (columns + across) + i) ≤ value r i d
  shift_le r i d l m a = run_e d columns i
      (λ u. rw (run_before d columns i u) (le_of_eq (before_row r i d l a u)))
      (λ u v. rw (run_in d columns i u v) (rw (← in_row r i d l u v) at (first_le r (i - d) (omega arith))))
      (λ u. rw (run_after d columns i u) (le_of_eq (in_gap r (i - d) d _ l (omega arith) (omega arith) (omega arith))))
    where
      first_le : (r x : ℕ) → x < columns → least 2 1 (λ c. cond (in_run c columns x) (byte r (x - c)) 2) ≤ byte r x
      first_le r x h = let z : x - 0 ≡ x = omega arith in rw (run_in 0 columns x (omega arith) (omega arith), z) at (least_le 2 1 (λ c. cond (in_run c columns x) (byte r (x - c)) 2) 0 (omega arith))

  shift_ge : (r i d v : ℕ) → r < rows → i < columns + across → d ≤ across → v ≤ 2 → v ≤ value r i d → v ≤ moved padded size d (r * (columns + across) + i)
  shift_ge r i d v l m a two h = run_e d columns i
      (λ u. rw (before_row r i d l a u) two)
      (λ u w. rw (in_row r i d l u w) (least_ge 2 1 (λ c. cond (in_run c columns (i - d)) (byte r (i - d - c)) 2) v two (λ c b. only c (i - d) (omega arith) (omega arith) (rw (run_in d columns i u w) at h))))
      (λ u. rw (in_gap r (i - d) d (r * (columns + across) + i) l (omega arith) (omega arith) (omega arith)) two)
    where
      only : (c x : ℕ) → c < 1 → x < columns → v ≤ byte r x → v ≤ cond (in_run c columns x) (byte r (x - c)) 2
      only zero x b j g = let z : x - 0 ≡ x = omega arith in rw (run_in 0 columns x (omega arith) (omega arith), z) g
      only (suc c) x b j g = absurd (omega arith)

  at_once : (r i : ℕ) → r < rows → i < columns + across
      → slid padded size 1 (across + 1) (r * (columns + across) + i) ≡ row_slid byte columns across (across + 1) (r * (columns + across) + i)
  unfolding slid row_slid
  at_once r i l m =
      rw (digits_div r m, digits_mod r m)
      (le_antisymm
      (least_ge 2 (across + 1) _ _ (least_top 2 (across + 1) _) (λ d b.
      let q : d * 1 ≡ d = omega arith in
      le_trans (least_le 2 (across + 1) (λ d. moved padded size (d * 1) (r * (columns + across) + i)) d b) (rw q (shift_le r i d l m (omega arith)))))
      (least_ge 2 (across + 1) _ _ (least_top 2 (across + 1) _) (λ d b.
      let q : d * 1 ≡ d = omega arith in
      rw q (shift_ge r i d _ l m (omega arith) (least_top 2 (across + 1) _) (least_le 2 (across + 1) (value r i) d b)))))

  pub rows_slid : (t : ℕ) → t < rows * (columns + across) → slid padded size 1 (across + 1) t ≡ row_slid byte columns across (across + 1) t
  rows_slid t b =
      let w : 0 < columns + across = positive_width t b in
      let q : t / (columns + across) * (columns + across) + t % (columns + across) ≡ t = div-add-mod' t (columns + across) in
      ap (slid padded size 1 (across + 1)) (sym q) ∙ at_once (t / (columns + across)) (t % (columns + across)) ((div-lt_iff_lt-mul w).1 b) (mod-lt t w)
      ∙ ap (row_slid byte columns across (across + 1)) q
    where
      positive_width : (t : ℕ) → t < rows * (columns + across) → 0 < columns + across
      positive_width t b = cases (eqb (columns + across) 0)
          (λ z. absurd (let e : columns + across ≡ 0 = eqb→eq (columns + across) 0 z in let n : rows * (columns + across) ≡ 0 = ap (λ x. rows * x) e ∙ mul-zero rows in omega arith))
          (λ z. positive (columns + across) z)

-- ---- both directions

module _ (byte : ℕ → ℕ → ℕ) (start scratch : List ℕ) (columns rows across up : ℕ) (c : 1 ≤ columns)
    (e : scratch ≡ filled 0 (rows * (columns + across)) (row_slid byte columns across (across + 1)) start) (s : rows * (columns + across) ≤ length start) where
  -- the least byte of a row's window
  abbrev across_least : ℕ → ℕ → ℕ
  across_least i k = least 2 (across + 1) (back columns i (byte k))

  scratch_at : (k i : ℕ) → k < rows → i < columns + across → get_or scratch (k * (columns + across) + i) 0 ≡ across_least i k
  unfolding filled row_slid
  scratch_at k i l m =
      let b = mul-le-mul_right (columns + across) l in
      let u : k * (columns + across) + i < rows * (columns + across) = omega arith in
      ap (λ z. get_or z (k * (columns + across) + i) 0) e
      ∙ (mapped_at _ start (k * (columns + across) + i) (omega arith)
      ∙ rw (run_in 0 (rows * (columns + across)) (k * (columns + across) + i) (omega arith) (omega arith), digits_div k m, digits_mod k m))

  moved_row : (j i d : ℕ) → i < columns + across
      → moved scratch (rows * (columns + across)) (d * (columns + across)) (j * (columns + across) + i) ≡ back rows j (across_least i) d
  unfolding moved
  moved_row j i d m = run_e d rows j
      (λ u.
      let b = mul-le-mul_right (columns + across) u in
      rw (run_before d rows j u, run_before (d * (columns + across)) (rows * (columns + across)) (j * (columns + across) + i) (omega arith)))
      (λ u v.
      let k : ℕ = j - d in
      let q : d + (j - d) ≡ j = omega arith in
      let p : (d + (j - d)) * (columns + across) ≡ j * (columns + across) = ap (λ z. z * (columns + across)) q in
      let b = mul-le-mul_right (columns + across) u in
      let t : j - d < rows = omega arith in
      let h = mul-le-mul_right (columns + across) t in
      let z : j * (columns + across) + i - d * (columns + across) ≡ (j - d) * (columns + across) + i = omega arith in
      rw (run_in d rows j u v, run_in (d * (columns + across)) (rows * (columns + across)) (j * (columns + across) + i) (omega arith) (omega arith), z)
      (scratch_at (j - d) i t m))
      (λ u.
      let b = mul-le-mul_right (columns + across) u in
      rw (run_after d rows j u, run_after (d * (columns + across)) (rows * (columns + across)) (j * (columns + across) + i) (omega arith)))

  both : (j i : ℕ) → i < columns + across
      → slid scratch (rows * (columns + across)) (columns + across) (up + 1) (j * (columns + across) + i) ≡ window_at byte columns rows across up j i
  unfolding slid window_at
  both j i m = least_same 2 (up + 1) _ _ (λ d l. moved_row j i d m)

  pub windows_slid : (t : ℕ) → slid scratch (rows * (columns + across)) (columns + across) (up + 1) t ≡ window_least byte columns rows across up t
  unfolding window_least
  windows_slid t =
      let w : 0 < columns + across = omega arith in
      ap (slid scratch (rows * (columns + across)) (columns + across) (up + 1)) (sym (div-add-mod' t (columns + across)))
      ∙ both (t / (columns + across)) (t % (columns + across)) (mod-lt t w)

-- what was written before is written over
pub filled_over : (m n : ℕ) (f g : ℕ → ℕ) (xs : List ℕ) → m ≤ n → filled 0 n f (filled 0 m g xs) ≡ filled 0 n f xs
unfolding filled
filled_over m n f g xs l = mapped_more _ _ _ xs (λ i x. run_e 0 n i
    (λ u. absurd (omega arith))
    (λ u v. rw (run_in 0 n i u v))
    (λ u. rw (run_after 0 n i u, run_after 0 m i (omega arith))))
