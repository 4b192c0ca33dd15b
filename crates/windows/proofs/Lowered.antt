-- Runs of entries that are lowered. Assumes nothing.
use mathlib.Core.Path.{◌≡◌, refl, sym, ap, ◌∙◌}
use mathlib.Core.Bool.{true, false, cond}
use mathlib.Core.List.{List, ◌++◌}
use Prim.Native.Nat.{ℕ, zero, suc, min, ◌+◌, ◌-◌, ◌*◌, ◌≤◌, ◌<◌}
use native.Mathlib.Nat.{le_refl, le_trans, le_antisymm, le_of_eq, min-eq_left, min-le_left, min-le_right, mul-le-mul_right}
use native.Mathlib.Omega.{arith}
use lib.Dec.{leb, ltb, leb→le, nleb→lt, ltb→lt, nltb→le}
use lib.ListN.{length, get_or, set, drop, replicate, length-set, length-append, length-drop, get_or-append}
use Rattle.std.proofs.Common.{get_or-drop}
use Rattle.std.proofs.lemmas.List.{length-replicate, get_or-replicate, get_or-append_right}
use Rattle.facts.proofs.Tests.{cases}
use lib.Seq.{get_or-set_same, get_or-set_other}
use borrow.Rule.Slice.PartMut.{put_mid, mid_of}
use Rattle.facts.specs.Least.{least}
use Rattle.facts.specs.Mapped.{in_run, mapped, filled}
use Rattle.facts.proofs.Least.{least_le, least_top, least_ge}
use Rattle.facts.proofs.Ranges.{least_more}
use Rattle.facts.proofs.Mapped.{run_in, run_before, run_after, run_e, part_at, mapped_length, mapped_at, mapped_is, mapped_more, mapped_part}
use Rattle.windows.specs.Windows.{always, lowered, least_of, moved, slid}

-- ---- entry by entry

pub lowered_length : (n : ℕ) (from xs : List ℕ) → length (lowered n from xs) ≡ length xs
unfolding lowered
lowered_length n from xs = mapped_length _ xs

pub lowered_none : (from xs : List ℕ) → xs ≡ lowered 0 from xs
unfolding lowered
lowered_none from xs = mapped_is _ xs xs refl (λ k m. rw (run_after 0 0 k (omega arith)))

-- by the first n entries of b, lent as a
pub lowered_same : (n : ℕ) (a b xs : List ℕ) → length a ≡ n → ((i : ℕ) → i < n → get_or a i 0 ≡ get_or b i 0) → lowered (length a) a xs ≡ lowered n b xs
unfolding lowered
lowered_same n a b xs e h = rw e (mapped_is _ xs _ (mapped_length _ xs) (λ k m. mapped_at _ xs k m ∙ run_e 0 n k
    (λ u. absurd (omega arith))
    (λ u w. rw (run_in 0 n k u w) (ap (min (get_or xs k 0)) (h k (omega arith))))
    (λ u. rw (run_after 0 n k u))))

-- one value in the first n entries
pub filled_front : (n v : ℕ) (xs : List ℕ) → n ≤ length xs → replicate n v ++ drop n xs ≡ filled 0 n (always v) xs
unfolding filled always
filled_front n v xs l = mapped_is _ xs (replicate n v ++ drop n xs) (rw (length-append, length-replicate, length-drop) (omega arith)) (λ k m. run_e 0 n k
    (λ u. absurd (omega arith))
    (λ u w. let s : k < length (replicate n v) = omega (arith, length-replicate n v) in rw (run_in 0 n k u w, get_or-append (replicate n v) (drop n xs) 0 k s) (get_or-replicate n k v 0 (omega arith)))
    (λ u. let s : n + (k - n) ≡ k = omega arith in
    rw (run_after 0 n k u, get_or-append_right (replicate n v) (drop n xs) n k 0 (length-replicate n v) (omega arith)) (get_or-drop n xs (k - n) 0 ∙ ap (λ i. get_or xs i 0) s)))

module _ (i v : ℕ) (from xs ys : List ℕ) (e : ys ≡ lowered i from xs) (l : i < length xs) where
  before_at : (k : ℕ) → k < length xs → get_or ys k 0 ≡ cond (in_run 0 i k) (min (get_or xs k 0) (get_or from k 0)) (get_or xs k 0)
  unfolding lowered
  before_at k m = ap (λ z. get_or z k 0) e ∙ mapped_at _ xs k m

  pub lowered_next : v ≡ min (get_or ys i 0) (get_or from i 0) → set ys i v ≡ lowered (i + 1) from xs
  unfolding lowered
  lowered_next q = mapped_is _ xs (set ys i v) (length-set ys i v ∙ (ap length e ∙ lowered_length i from xs)) (λ k m. run_e i 1 k
      (λ u. get_or-set_other ys i k v 0 (omega arith) ∙ (before_at k m ∙ rw (run_in 0 i k (omega arith) (omega arith), run_in 0 (i + 1) k (omega arith) (omega arith))))
      (λ u w.
      let s : k ≡ i = omega arith in
      rw (s, run_in 0 (i + 1) i (omega arith) (omega arith))
      (get_or-set_same ys i v 0 (omega (arith, ap length e, lowered_length i from xs)) ∙ (q ∙ ap (λ z. min z (get_or from i 0)) (before_at i l ∙ rw (run_after 0 i i (omega arith))))))
      (λ u. get_or-set_other ys i k v 0 (omega arith) ∙ (before_at k m ∙ rw (run_after 0 i k (omega arith), run_after 0 (i + 1) k (omega arith)))))

-- ---- one shift more

module _ (from : List ℕ) (n step d t : ℕ) where
  slid_more : slid from n step (d + 1) t ≡ min (slid from n step d t) (moved from n (d * step) t)
  unfolding slid
  slid_more = least_more 2 d _

  slid_low : slid from n step d t ≤ 2
  unfolding slid
  slid_low = least_top 2 d _

  slid_kept : moved from n (d * step) t ≡ 2 → slid from n step d t ≡ slid from n step (d + 1) t
  slid_kept q = sym (slid_more ∙ (ap (min (slid from n step d t)) q ∙ min-eq_left slid_low))

moved_in : (from : List ℕ) (n o t : ℕ) → in_run o n t ≡ true → moved from n o t ≡ get_or from (t - o) 0
unfolding moved
moved_in from n o t q = rw q

moved_out : (from : List ℕ) (n o t : ℕ) → in_run o n t ≡ false → moved from n o t ≡ 2
unfolding moved
moved_out from n o t q = rw q

module _ (from xs ys : List ℕ) (n step d at size : ℕ) (e : ys ≡ filled 0 size (slid from n step d) xs) (q : at ≡ d * step) (l : at + n ≤ size) where
  shift_at : (t x : ℕ)
      → cond (in_run at n t) (min (cond (in_run 0 size t) (slid from n step d t) x) (get_or from (t - at) 0)) (cond (in_run 0 size t) (slid from n step d t) x)
      ≡ cond (in_run 0 size t) (slid from n step (d + 1) t) x
  shift_at t x = run_e at n t
      (λ u. rw (run_before at n t u, slid_kept from n step d t (moved_out from n (d * step) t (rw q at (run_before at n t u)))))
      (λ u w.
      rw (run_in at n t u w, run_in 0 size t (omega arith) (omega arith))
      (sym (slid_more from n step d t ∙ ap (min (slid from n step d t)) (moved_in from n (d * step) t (rw q at (run_in at n t u w)) ∙ ap (λ o. get_or from (t - o) 0) (sym q)))))
      (λ u. rw (run_after at n t u, slid_kept from n step d t (moved_out from n (d * step) t (rw q at (run_after at n t u)))))

  shifted : mapped (λ t x. cond (in_run at n t) (min x (get_or from (t - at) 0)) x) ys ≡ filled 0 size (slid from n step (d + 1)) xs
  unfolding filled
  shifted = ap (mapped _) e ∙ mapped_more _ _ _ xs shift_at

  -- through the part that begins there
  pub slid_next : at ≤ length ys → put_mid at (length ys - at) ys (lowered n from (mid_of at (length ys - at) ys)) ≡ filled 0 size (slid from n step (d + 1)) xs
  unfolding lowered
  slid_next k = mapped_part at _ _ ys k (λ i x u. rw (run_before at n i u)) (λ j x b. run_e 0 n j
      (λ u. absurd (omega arith))
      (λ u w. let s : at + j - at ≡ j = omega arith in rw (run_in 0 n j u w, run_in at n (at + j) (omega arith) (omega arith), s))
      (λ u. rw (run_after 0 n j u, run_after at n (at + j) (omega arith))))
      ∙ shifted

sub-zero : (t : ℕ) → t - 0 ≡ t
sub-zero t = omega arith

-- the first one
slid_start : (from xs : List ℕ) (n step size : ℕ) → filled 0 size (always 2) xs ≡ filled 0 size (slid from n step 0) xs
unfolding always slid least
slid_start from xs n step size = refl

pub slid_first : (from xs ys : List ℕ) (n step size : ℕ) → ys ≡ filled 0 size (always 2) xs → n ≤ size → lowered n from ys ≡ filled 0 size (slid from n step 1) xs
unfolding lowered
slid_first from xs ys n step size e l =
    sym (mapped_is _ ys _ (mapped_length _ ys) (λ t m. mapped_at _ ys t m ∙ ap (λ o. cond (in_run 0 n t) (min (get_or ys t 0) (get_or from o 0)) (get_or ys t 0)) (sub-zero t)))
    ∙ shifted from xs ys n step 0 0 size (e ∙ slid_start from xs n step size) (omega arith) (omega arith)

-- ---- the first two in one pass

-- capped at 2, an entry is the least of both where the other is not there
twice : (a : ℕ) → min (min 2 a) a ≡ min (min 2 a) 2
twice a = min-eq_left (min-le_right 2 a) ∙ sym (min-eq_left (min-le_left 2 a))

other : (a : ℕ) → min (min 2 a) a ≡ min (min 2 2) a
other a = min-eq_left (min-le_right 2 a)

module _ (from : List ℕ) (n step : ℕ) (s : step ≤ n) where
  slid_two : (t : ℕ) → slid from n step 2 t ≡ min (min 2 (moved from n 0 t)) (moved from n step t)
  unfolding slid least
  slid_two t =
      let z : 0 * step ≡ 0 = omega arith in
      let o : 1 * step ≡ step = omega arith in
      rw (z, o)

  both_there : (t a b : ℕ) → moved from n 0 t ≡ a → moved from n step t ≡ b → min (min 2 a) b ≡ slid from n step 2 t
  both_there t a b d e = sym (slid_two t ∙ (ap (λ (x : ℕ). min (min 2 x) (moved from n step t)) d ∙ ap (λ (x : ℕ). min (min 2 a) x) e))

  pub pair_head : (j : ℕ) → j < step → least_of from from j ≡ slid from n step 2 j
  unfolding least_of
  pair_head j l =
      twice (get_or from j 0)
      ∙ both_there j _ _ (moved_in from n 0 j (run_in 0 n j (omega arith) (omega arith)) ∙ ap (λ (x : ℕ). get_or from x 0) (sub-zero j)) (moved_out from n step j (run_before step n j l))

  pub pair_middle : (j : ℕ) → j < n - step → least_of (mid_of step (length from - step) from) from j ≡ slid from n step 2 (step + j)
  unfolding least_of
  pair_middle j l =
      let e : step + j - step ≡ j = omega arith in
      ap (λ (x : ℕ). min (min 2 x) (get_or from j 0)) (part_at step from j)
      ∙ both_there (step + j) _ _ (moved_in from n 0 (step + j) (run_in 0 n (step + j) (omega arith) (omega arith)) ∙ ap (λ (x : ℕ). get_or from x 0) (sub-zero (step + j)))
      (moved_in from n step (step + j) (run_in step n (step + j) (omega arith) (omega arith)) ∙ ap (λ (x : ℕ). get_or from x 0) e)

  pub pair_tail : (j : ℕ) → j < step → least_of (mid_of (n - step) (length from - (n - step)) from) (mid_of (n - step) (length from - (n - step)) from) j ≡ slid from n step 2 (n + j)
  unfolding least_of
  pair_tail j l =
      let e : n + j - step ≡ n - step + j = omega arith in
      other _
      ∙ (ap (λ (x : ℕ). min (min 2 2) x) (part_at (n - step) from j)
      ∙ both_there (n + j) _ _ (moved_out from n 0 (n + j) (run_after 0 n (n + j) (omega arith)))
      (moved_in from n step (n + j) (run_in step n (n + j) (omega arith) (omega arith)) ∙ ap (λ (x : ℕ). get_or from x 0) e))

  pub pair_rest : (j : ℕ) → always 2 j ≡ slid from n step 2 (n + step + j)
  unfolding always
  pair_rest j = both_there (n + step + j) 2 2 (moved_out from n 0 (n + step + j) (run_after 0 n (n + step + j) (omega arith))) (moved_out from n step (n + step + j) (run_after step n (n + step + j) (omega arith)))

-- ---- windows of windows

module _ (from xs made : List ℕ) (n step h c : ℕ) (few : c ≤ h + 1) (e : made ≡ filled 0 (n + h * step) (slid from n step (h + 1)) xs) (l : n + h * step ≤ length xs) where
  abbrev N : ℕ
  N = n + h * step

  -- nothing stands after the last
  slid_after : (t : ℕ) → n + h * step ≤ t → slid from n step (h + 1) t ≡ 2
  unfolding slid
  slid_after t g = le_antisymm (least_top 2 _ _) (least_ge 2 _ _ 2 (le_refl 2) (λ d m.
      let k = mul-le-mul_right step m in
      rw (moved_out from n (d * step) t (run_after (d * step) n t (omega arith))) (le_refl 2)))

  made_at : (t : ℕ) → t < n + h * step → get_or made t 0 ≡ slid from n step (h + 1) t
  unfolding filled
  made_at t m = ap (λ z. get_or z t 0) e ∙ (mapped_at _ xs t (omega arith) ∙ rw (run_in 0 (n + h * step) t (omega arith) (omega arith)))

  moved_made : (o t : ℕ) → o ≤ t → moved made (n + h * step) o t ≡ slid from n step (h + 1) (t - o)
  moved_made o t g = run_e o (n + h * step) t
      (λ u. absurd (omega arith))
      (λ u v. moved_in made (n + h * step) o t (run_in o (n + h * step) t u v) ∙ made_at (t - o) (omega arith))
      (λ u. moved_out made (n + h * step) o t (run_after o (n + h * step) t u) ∙ sym (slid_after (t - o) (omega arith)))

  -- a term of the one is a term of the other, moved
  moved_on : (d t : ℕ) → c * step ≤ t → moved from n (d * step) (t - c * step) ≡ moved from n ((d + c) * step) t
  moved_on d t g = run_e (d * step) n (t - c * step)
      (λ u. moved_out from n (d * step) (t - c * step) (run_before (d * step) n (t - c * step) u) ∙ sym (moved_out from n ((d + c) * step) t (run_before ((d + c) * step) n t (omega arith))))
      (λ u v.
      let q : t - c * step - d * step ≡ t - (d + c) * step = omega arith in
      moved_in from n (d * step) (t - c * step) (run_in (d * step) n (t - c * step) u v)
      ∙ (ap (λ (m : ℕ). get_or from m 0) q ∙ sym (moved_in from n ((d + c) * step) t (run_in ((d + c) * step) n t (omega arith) (omega arith)))))
      (λ u. moved_out from n (d * step) (t - c * step) (run_after (d * step) n (t - c * step) u) ∙ sym (moved_out from n ((d + c) * step) t (run_after ((d + c) * step) n t (omega arith))))

  abbrev whole : ℕ → ℕ
  whole t = slid from n step (h + 1 + c) t

  abbrev twofold : ℕ → ℕ
  twofold t = slid made (n + h * step) (c * step) 2 t

  -- the windows that end at t and c steps before it
  first_is : (t : ℕ) → moved made (n + h * step) (0 * (c * step)) t ≡ slid from n step (h + 1) t
  first_is t =
      let z : 0 * (c * step) ≡ 0 = omega arith in
      ap (λ (o : ℕ). moved made (n + h * step) o t) z ∙ (moved_made 0 t (omega arith) ∙ ap (slid from n step (h + 1)) (sub-zero t))

  second_is : (t : ℕ) → c * step ≤ t → moved made (n + h * step) (1 * (c * step)) t ≡ slid from n step (h + 1) (t - c * step)
  second_is t g = let z : 1 * (c * step) ≡ c * step = omega arith in ap (λ (o : ℕ). moved made (n + h * step) o t) z ∙ moved_made (c * step) t g

  term_le : (k d t : ℕ) → d < k → slid from n step k t ≤ moved from n (d * step) t
  unfolding slid
  term_le k d t m = least_le 2 k (λ d. moved from n (d * step) t) d m

  two_le : (d t : ℕ) → d < 2 → twofold t ≤ moved made (n + h * step) (d * (c * step)) t
  unfolding slid
  two_le d t m = least_le 2 2 (λ d. moved made (n + h * step) (d * (c * step)) t) d m

  slid_top : (k t : ℕ) → slid from n step k t ≤ 2
  unfolding slid
  slid_top k t = least_top 2 k _

  two_top : (t : ℕ) → twofold t ≤ 2
  unfolding slid
  two_top t = least_top 2 2 _

  below : (t d : ℕ) → d < h + 1 + c → twofold t ≤ moved from n (d * step) t
  below t d m = cases (ltb d (h + 1))
      (λ u. le_trans (two_le 0 t (omega arith)) (rw (first_is t) (term_le (h + 1) d t (ltb→lt d (h + 1) u))))
      (λ u.
      let g : h + 1 ≤ d = nltb→le d (h + 1) u in
      let q : d - c + c ≡ d = omega arith in
      cases (leb (c * step) t)
      (λ v.
      let w : c * step ≤ t = leb→le (c * step) t v in
      le_trans (two_le 1 t (omega arith)) (rw (second_is t w) (le_trans (term_le (h + 1) (d - c) (t - c * step) (omega arith)) (le_of_eq (moved_on (d - c) t w ∙ ap (λ (k : ℕ). moved from n (k * step) t) q)))))
      (λ v.
      let w : t < c * step = nleb→lt (c * step) t v in
      let k : c ≤ d = omega arith in
      rw (moved_out from n (d * step) t (run_before (d * step) n t (omega (arith, mul-le-mul_right step k)))) (two_top t)))

  above : (t d : ℕ) → d < 2 → whole t ≤ moved made (n + h * step) (d * (c * step)) t
  unfolding slid
  above t zero m = rw (first_is t) (least_ge 2 (h + 1) _ _ (slid_top (h + 1 + c) t) (λ d k. term_le (h + 1 + c) d t (omega arith)))
  above t (suc zero) m = cases (leb (c * step) t)
      (λ v.
      let w : c * step ≤ t = leb→le (c * step) t v in
      rw (second_is t w) (least_ge 2 (h + 1) _ _ (slid_top (h + 1 + c) t) (λ d k. rw (moved_on d t w) (term_le (h + 1 + c) (d + c) t (omega arith)))))
      (λ v.
      let w : t < c * step = nleb→lt (c * step) t v in
      rw (moved_out made (n + h * step) (1 * (c * step)) t (run_before (1 * (c * step)) (n + h * step) t (omega arith))) (slid_top (h + 1 + c) t))
  above t (suc (suc d)) m = absurd (omega arith)

  pub slid_twice : (t : ℕ) → slid made (n + h * step) (c * step) 2 t ≡ slid from n step (h + 1 + c) t
  unfolding slid
  slid_twice t = le_antisymm (least_ge 2 (h + 1 + c) _ _ (two_top t) (below t)) (least_ge 2 2 _ _ (slid_top (h + 1 + c) t) (above t))
