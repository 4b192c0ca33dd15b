-- Tables written entry by entry, run by run and part by part. Assumes nothing.
use mathlib.Core.Path.{◌≡◌, refl, sym, ap, ◌∙◌}
use mathlib.Core.Bool.{true, false}
use mathlib.Core.List.{List, ◌++◌}
use Prim.Native.Nat.{ℕ, ◌+◌, ◌-◌, ◌≤◌, ◌<◌}
use native.Mathlib.Nat.{le_of_eq}
use native.Mathlib.Omega.{arith}
use lib.Dec.{leb, ltb, ltb→lt, nltb→le}
use lib.ListN.{length, get_or, set, take, drop, length-set, length-drop, get_or-append}
use lib.Seq.{get_or-set_same, get_or-set_other, get_or-append-add, get_or-take, get_or-drop, take_all, length-take-le}
use borrow.Author.Tests.{lt-ltb, le-leb, lt-leb}
use borrow.Rule.Slice.PartMut.{put_mid, mid_of, post_of, same_len_mid}
use Rattle.facts.specs.Numbers.{tabulate}
use Rattle.facts.specs.Mapped.{in_run, mapped, filled}
use Rattle.facts.proofs.Tests.{and_r, cases, T_false}
use Rattle.facts.proofs.Ranges.{mid_len}
use Rattle.facts.proofs.Numbers.{length_tabulate, get_d_tabulate, tabulate_is}

-- ---- runs of numbers

module _ (a n i : ℕ) where
  pub run_in : a ≤ i → i < a + n → in_run a n i ≡ true
  unfolding in_run
  run_in l m = rw (le-leb a i l, lt-ltb i (a + n) m)

  pub run_before : i < a → in_run a n i ≡ false
  unfolding in_run
  run_before l = rw (lt-leb a i l)

  pub run_after : a + n ≤ i → in_run a n i ≡ false
  unfolding in_run
  run_after l = T_false (in_run a n i) (λ t. omega (arith, ltb→lt i (a + n) (and_r (leb a i) (ltb i (a + n)) t)))

  -- the three cases
  pub run_e : {C : Type 0} → (i < a → C) → (a ≤ i → i < a + n → C) → (a + n ≤ i → C) → C
  run_e f g h = cases (ltb i a) (λ t. f (ltb→lt i a t)) (λ t. cases (ltb i (a + n)) (λ u. g (nltb→le i a t) (ltb→lt i (a + n) u)) (λ u. h (nltb→le i (a + n) u)))

-- ---- any change of the entries

pub mapped_length : (g : ℕ → ℕ → ℕ) (xs : List ℕ) → length (mapped g xs) ≡ length xs
unfolding mapped
mapped_length g xs = length_tabulate _ _

pub mapped_at : (g : ℕ → ℕ → ℕ) (xs : List ℕ) (i : ℕ) → i < length xs → get_or (mapped g xs) i 0 ≡ g i (get_or xs i 0)
unfolding mapped
mapped_at g xs i l = get_d_tabulate _ _ i 0 l

pub mapped_is : (g : ℕ → ℕ → ℕ) (xs ys : List ℕ) → length ys ≡ length xs → ((i : ℕ) → i < length xs → get_or ys i 0 ≡ g i (get_or xs i 0)) → ys ≡ mapped g xs
unfolding mapped
mapped_is g xs ys e h = tabulate_is _ _ ys e h

-- one change after another
pub mapped_more : (f g h : ℕ → ℕ → ℕ) (xs : List ℕ) → ((i x : ℕ) → g i (f i x) ≡ h i x) → mapped g (mapped f xs) ≡ mapped h xs
mapped_more f g h xs e = mapped_is h xs (mapped g (mapped f xs)) (mapped_length g (mapped f xs) ∙ mapped_length f xs) (λ i l.
    mapped_at g (mapped f xs) i (rw (mapped_length f xs) l) ∙ (ap (g i) (mapped_at f xs i l) ∙ e i (get_or xs i 0)))

-- ---- the part of a table that begins at o

pub part_at : (o : ℕ) (xs : List ℕ) (i : ℕ) → get_or (mid_of o (length xs - o) xs) i 0 ≡ get_or xs (o + i) 0
part_at o xs i = rw (take_all _ (drop o xs) (le_of_eq (length-drop o xs))) (get_or-drop o xs i 0)

-- what was done to the part is done to the whole
pub mapped_part : (o : ℕ) (g h : ℕ → ℕ → ℕ) (xs : List ℕ) → o ≤ length xs → ((i x : ℕ) → i < o → x ≡ h i x) → ((j x : ℕ) → o + j < length xs → g j x ≡ h (o + j) x)
    → put_mid o (length xs - o) xs (mapped g (mid_of o (length xs - o) xs)) ≡ mapped h xs
mapped_part o g h xs l before inside =
    let part : List ℕ = mid_of o (length xs - o) xs in
    let new : List ℕ = mapped g part in
    let front : length (take o xs) ≡ o = length-take-le o xs l in
    let long : length part ≡ length xs - o = mid_len o xs in
    let longer : length new ≡ length xs - o = mapped_length g part ∙ long in
    mapped_is h xs (put_mid o (length xs - o) xs new) (same_len_mid o (length xs - o) xs new (mapped_length g part)) (λ i m.
    cases (ltb i o)
    (λ t. get_or-append (take o xs) (new ++ post_of o (length xs - o) xs) 0 i (omega (arith, ltb→lt i o t))
    ∙ (get_or-take o xs i 0 (ltb→lt i o t) ∙ before i (get_or xs i 0) (ltb→lt i o t)))
    (λ t.
    let k : o ≤ i = nltb→le i o t in
    let e : length (take o xs) + (i - o) ≡ i = omega arith in
    let q : o + (i - o) ≡ i = omega arith in
    ap (λ j. get_or (put_mid o (length xs - o) xs new) j 0) (sym e)
    ∙ (get_or-append-add (take o xs) (new ++ post_of o (length xs - o) xs) (i - o) 0
    ∙ (get_or-append new (post_of o (length xs - o) xs) 0 (i - o) (omega arith)
    ∙ (mapped_at g part (i - o) (omega arith)
    ∙ (ap (g (i - o)) (part_at o xs (i - o)) ∙ (inside (i - o) (get_or xs (o + (i - o)) 0) (omega arith) ∙ ap (λ j. h j (get_or xs j 0)) q)))))))

-- ---- entries replaced

pub filled_length : (a n : ℕ) (f : ℕ → ℕ) (xs : List ℕ) → length (filled a n f xs) ≡ length xs
unfolding filled
filled_length a n f xs = mapped_length _ xs

pub filled_none : (a : ℕ) (f : ℕ → ℕ) (xs : List ℕ) → xs ≡ filled a 0 f xs
unfolding filled
filled_none a f xs = mapped_is _ xs xs refl (λ i l. cases (ltb i a) (λ t. rw (run_before a 0 i (ltb→lt i a t))) (λ t. rw (run_after a 0 i (omega (arith, nltb→le i a t)))))

pub filled_set : (a v : ℕ) (f : ℕ → ℕ) (xs : List ℕ) → a < length xs → v ≡ f a → set xs a v ≡ filled a 1 f xs
unfolding filled
filled_set a v f xs l e = mapped_is _ xs (set xs a v) (length-set xs a v) (λ i m. run_e a 1 i
    (λ u. rw (run_before a 1 i u) (get_or-set_other xs a i v 0 (omega arith)))
    (λ u w. let q : i ≡ a = omega arith in rw (run_in a 1 i u w, q) (get_or-set_same xs a v 0 l ∙ e))
    (λ u. rw (run_after a 1 i u) (get_or-set_other xs a i v 0 (omega arith))))

pub filled_more : (a m b n : ℕ) (f : ℕ → ℕ) (xs : List ℕ) → b ≡ a + m → filled b n f (filled a m f xs) ≡ filled a (m + n) f xs
unfolding filled
filled_more a m b n f xs e = mapped_more _ _ _ xs (λ i x. run_e a m i
    (λ l. rw (run_before a m i l, run_before b n i (omega arith), run_before a (m + n) i l))
    (λ l u. rw (run_in a m i l u, run_before b n i (omega arith), run_in a (m + n) i l (omega arith)))
    (λ l. rw (run_after a m i l) (run_e b n i
    (λ u. absurd (omega arith))
    (λ u w. rw (run_in b n i u w, run_in a (m + n) i (omega arith) (omega arith)))
    (λ u. rw (run_after b n i u, run_after a (m + n) i (omega arith))))))

pub filled_same : (a n : ℕ) (f g : ℕ → ℕ) (xs : List ℕ) → ((i : ℕ) → a ≤ i → i < a + n → f i ≡ g i) → filled a n f xs ≡ filled a n g xs
unfolding filled
filled_same a n f g xs h = mapped_is _ xs _ (mapped_length _ xs) (λ i l. mapped_at _ xs i l ∙ run_e a n i
    (λ u. rw (run_before a n i u))
    (λ u w. rw (run_in a n i u w) (h i u w))
    (λ u. rw (run_after a n i u)))

-- all of them
pub filled_all : (n : ℕ) (f : ℕ → ℕ) (xs : List ℕ) → length xs ≡ n → filled 0 n f xs ≡ tabulate n f
unfolding filled
filled_all n f xs e = tabulate_is n f _ (mapped_length _ xs ∙ e) (λ i l. mapped_at _ xs i (omega arith) ∙ rw (run_in 0 n i (omega arith) (omega arith)))

-- through a part
pub filled_part : (o n : ℕ) (f g : ℕ → ℕ) (xs : List ℕ) → o ≤ length xs → ((j : ℕ) → j < n → g j ≡ f (o + j))
    → put_mid o (length xs - o) xs (filled 0 n g (mid_of o (length xs - o) xs)) ≡ filled o n f xs
unfolding filled
filled_part o n f g xs l h = mapped_part o _ _ xs l (λ i x u. rw (run_before o n i u)) (λ j x b. cases (ltb j n)
    (λ t. let u : j < n = ltb→lt j n t in rw (run_in 0 n j (omega arith) (omega arith), run_in o n (o + j) (omega arith) (omega arith)) (h j u))
    (λ t. let u : n ≤ j = nltb→le j n t in rw (run_after 0 n j (omega arith), run_after o n (o + j) (omega arith))))

-- a loop that fills a table from its first entry on
module _ (f : ℕ → ℕ) (n : ℕ) (xs ys : List ℕ) (e : ys ≡ filled 0 n f xs) where
  pub fill_length : length ys ≡ length xs
  fill_length = ap length e ∙ filled_length 0 n f xs

  -- one entry more
  pub fill_next : (v : ℕ) → n < length xs → v ≡ f n → set ys n v ≡ filled 0 (n + 1) f xs
  fill_next v l q = filled_set n v f ys (omega (arith, fill_length)) q ∙ (ap (filled n 1 f) e ∙ filled_more 0 n n 1 f xs (omega arith))

  -- m entries more, through the part that begins where they do
  pub fill_part : (m : ℕ) (g : ℕ → ℕ) (zs : List ℕ) → n ≤ length xs → zs ≡ filled 0 m g (mid_of n (length ys - n) ys) → ((j : ℕ) → j < m → g j ≡ f (n + j))
      → put_mid n (length ys - n) ys zs ≡ filled 0 (n + m) f xs
  fill_part m g zs l q h =
      ap (put_mid n (length ys - n) ys) q
      ∙ (filled_part n m f g ys (omega (arith, fill_length)) h ∙ (ap (filled n m f) e ∙ filled_more 0 n n m f xs (omega arith)))
