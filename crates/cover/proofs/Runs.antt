-- A table that is written from its first entry on, a run of entries at a time. Assumes nothing.
use mathlib.Core.Path.{◌≡◌, sym, ap, ◌∙◌}
use mathlib.Core.List.{List}
use Prim.Native.Nat.{ℕ, ◌+◌, ◌-◌, ◌≤◌, ◌<◌}
use native.Mathlib.Omega.{arith}
use lib.Dec.{ltb, ltb→lt, nltb→le}
use lib.ListN.{length, get_or, take, get_or-append}
use Rattle.std.proofs.lemmas.List.{get_or-take, get_or-drop, length-take-le, get_or-append_right}
use borrow.Rule.Slice.PartMut.{put_mid, post_of, same_len_mid, mid_len, Post-is}
use Rattle.facts.specs.Mapped.{filled}
use Rattle.facts.proofs.Tests.{cases}
use Rattle.facts.proofs.Mapped.{run_in, run_after, run_e, mapped_at, mapped_is, fill_length}

module _ (f : ℕ → ℕ) (n m : ℕ) (xs ys zs : List ℕ) (e : ys ≡ filled 0 n f xs) (l : n ≤ m) (k : m ≤ length xs) (s : length zs ≡ m - n) where
  abbrev rest : List ℕ
  rest = post_of n (m - n) ys

  long : length ys ≡ length xs
  long = fill_length f n xs ys e

  front : length (take n ys) ≡ n
  front = length-take-le n ys (omega (arith, long))

  -- before the run, in it, and behind it
  before : (i : ℕ) → i < n → get_or (put_mid n (m - n) ys zs) i 0 ≡ f i
  unfolding filled
  before i u =
      get_or-append (take n ys) _ 0 i (omega (arith, front))
      ∙ (get_or-take n ys i 0 u ∙ (ap (λ t. get_or t i 0) e ∙ (mapped_at _ xs i (omega arith) ∙ rw (run_in 0 n i (omega arith) (omega arith)))))

  inside : (i : ℕ) → n ≤ i → i < m → get_or (put_mid n (m - n) ys zs) i 0 ≡ get_or zs (i - n) 0
  inside i a u = get_or-append_right (take n ys) _ n i 0 front a ∙ get_or-append zs rest 0 (i - n) (omega (arith, s))

  behind : (i : ℕ) → m ≤ i → i < length xs → get_or (put_mid n (m - n) ys zs) i 0 ≡ get_or xs i 0
  unfolding filled
  behind i a u =
      let q : m + (i - n - (m - n)) ≡ i = omega arith in
      get_or-append_right (take n ys) _ n i 0 front (omega arith)
      ∙ (get_or-append_right zs rest (m - n) (i - n) 0 s (omega arith)
      ∙ (ap (λ t. get_or t (i - n - (m - n)) 0) (Post-is n m ys l)
      ∙ (get_or-drop m ys (i - n - (m - n)) 0
      ∙ (ap (λ j. get_or ys j 0) q ∙ (ap (λ t. get_or t i 0) e ∙ (mapped_at _ xs i u ∙ rw (run_after 0 n i (omega arith))))))))

  pub run_filled : ((j : ℕ) → j < m - n → get_or zs j 0 ≡ f (n + j)) → put_mid n (m - n) ys zs ≡ filled 0 m f xs
  unfolding filled
  run_filled h =
      mapped_is _ xs _ (same_len_mid n (m - n) ys zs (s ∙ sym (mid_len n m ys (omega (arith, long)))) ∙ long) (λ i u. run_e 0 m i
      (λ v. absurd (omega arith))
      (λ _ v. rw (run_in 0 m i (omega arith) v) (cases (ltb i n)
      (λ t. before i (ltb→lt i n t))
      (λ t.
      let a : n ≤ i = nltb→le i n t in
      let q : n + (i - n) ≡ i = omega arith in
      inside i a (omega arith) ∙ (h (i - n) (omega arith) ∙ ap f q))))
      (λ v. rw (run_after 0 m i v) (behind i (omega arith) u)))
