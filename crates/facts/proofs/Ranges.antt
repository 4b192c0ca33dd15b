-- A range is passed over, or written, part by part: one number, one row, one level. Assumes nothing.
use mathlib.Core.Path.{◌≡◌, refl, sym, ap, ◌∙◌}
use mathlib.Core.Bool.{Bool, true, false}
use mathlib.Core.List.{List, ◌++◌}
use Prim.Native.Nat.{ℕ, min, ◌+◌, ◌-◌, ◌≤◌, ◌<◌}
use native.Mathlib.Nat.{le_of_eq, add-sub_of_le}
use native.Mathlib.Numerals.{add-one}
use native.Mathlib.Omega.{arith}
use lib.Dec.{T, ltb, ltb→lt, nltb→le}
use lib.ListN.{length, get_or, set, take, drop, length-set, length-drop, get_or-append}
use lib.Seq.{get_or-set_same, get_or-set_other, get_or-append-add, get_or-take, take_all, length-take-le}
use borrow.Rule.Slice.PartMut.{put_mid, mid_of, post_of, same_len_mid}
use Rattle.facts.specs.Bounded.{every, sum}
use Rattle.facts.specs.Least.{least}
use Rattle.facts.specs.Ranges.{every_from, Written}
use Rattle.facts.proofs.Tests.{cases, T_true, T_false, true_T}
use Rattle.facts.proofs.Bounded.{every_i, every_e, every_same}

-- ---- a test

pub every_from_lem : (n : ℕ) (p : ℕ → Bool) → every_from 0 n p ≡ every n p
unfolding every_from
every_from_lem n p = every_same n _ p (λ k l. ap p (omega arith))

pub from_i : (a n : ℕ) (p : ℕ → Bool) → ((k : ℕ) → a ≤ k → k < a + n → T (p k)) → T (every_from a n p)
unfolding every_from
from_i a n p h = every_i n _ (λ k l. h (a + k) (omega arith) (omega arith))

pub from_e : (a n : ℕ) (p : ℕ → Bool) → T (every_from a n p) → (k : ℕ) → a ≤ k → k < a + n → T (p k)
unfolding every_from
from_e a n p t k l m = let e : a + (k - a) ≡ k = add-sub_of_le l in rw e at (every_e n (λ j. p (a + j)) t (k - a) (omega arith))

pub from_none : (a : ℕ) (p : ℕ → Bool) → every_from a 0 p ≡ true
unfolding every_from every
from_none a p = refl

pub from_one : (a : ℕ) (p : ℕ → Bool) → every_from a 1 p ≡ p a
from_one a p = go (p a) refl
  where
    go : (b : Bool) → p a ≡ b → every_from a 1 p ≡ b
    go true e = T_true _ (from_i a 1 p (λ k l m. let q : k ≡ a = omega arith in rw (q, e) tt))
    go false e = T_false (every_from a 1 p) (λ t. rw e at (from_e a 1 p t a (omega arith) (omega arith)))

-- m numbers passed, and the n that follow
pub from_more : (a m n b : ℕ) (p : ℕ → Bool) → every_from a m p ≡ true → b ≡ a + m → every_from b n p ≡ true → every_from a (m + n) p ≡ true
from_more a m n b p e q f = T_true _ (from_i a (m + n) p (λ k l u. cases (ltb k b)
    (λ t. from_e a m p (true_T _ e) k l (omega (arith, ltb→lt k b t)))
    (λ t. from_e b n p (true_T _ f) k (nltb→le k b t) (omega arith))))

pub from_same : (a n : ℕ) (p q : ℕ → Bool) → ((k : ℕ) → a ≤ k → k < a + n → p k ≡ q k) → every_from a n p ≡ every_from a n q
unfolding every_from
from_same a n p q h = every_same n _ _ (λ k l. h (a + k) (omega arith) (omega arith))

-- ---- a sum and a smallest value, one number more

pub sum_more : (n : ℕ) (f : ℕ → ℕ) → sum (n + 1) f ≡ sum n f + f n
unfolding sum
sum_more n f = rw (add-one n)

pub least_more : (top n : ℕ) (f : ℕ → ℕ) → least top (n + 1) f ≡ min (least top n f) (f n)
unfolding least
least_more top n f = rw (add-one n)

-- ---- a table

pub written_none : (xs : List ℕ) (a : ℕ) (f : ℕ → ℕ) → Written xs xs a a f
written_none xs a f = record { size = refl; kept = λ i l. refl; made = λ i l m. absurd (omega arith) }

pub written_set : (xs : List ℕ) (a v : ℕ) (f : ℕ → ℕ) → a < length xs → v ≡ f a → Written xs (set xs a v) a (a + 1) f
written_set xs a v f l e = record {
  size = length-set xs a v;
  kept = λ i m. get_or-set_other xs a i v 0 (omega arith);
  made = λ i m n. let q : i ≡ a = omega arith in rw q (get_or-set_same xs a v 0 l ∙ e);
}

pub written_more : {xs ys zs : List ℕ} {a b c : ℕ} {f : ℕ → ℕ} → a ≤ b → Written xs ys a b f → Written ys zs b c f → Written xs zs a c f
written_more {xs} {ys} {zs} {a} {b} {c} {f} l w v = record {
  size = v.size ∙ w.size;
  kept = λ i m. v.kept i (omega arith) ∙ w.kept i m;
  made = λ i m n. cases (ltb i b) (λ t. v.kept i (ltb→lt i b t) ∙ w.made i m (ltb→lt i b t)) (λ t. v.made i (nltb→le i b t) n);
}

pub written_same : {xs ys : List ℕ} {a b : ℕ} (f g : ℕ → ℕ) → ((i : ℕ) → a ≤ i → i < b → f i ≡ g i) → Written xs ys a b f → Written xs ys a b g
written_same f g h w = record { size = w.size; kept = w.kept; made = λ i m n. w.made i m n ∙ h i m n }

-- the part of a table that begins at o
pub mid_len : (o : ℕ) (xs : List ℕ) → length (mid_of o (length xs - o) xs) ≡ length xs - o
mid_len o xs = rw (take_all _ (drop o xs) (le_of_eq (length-drop o xs))) (length-drop o xs)

-- what was written through that part
pub written_part : (xs ys : List ℕ) (o n : ℕ) (f : ℕ → ℕ) → o + n ≤ length xs → Written (mid_of o (length xs - o) xs) ys 0 n (λ j. f (o + j))
    → Written xs (put_mid o (length xs - o) xs ys) o (o + n) f
written_part xs ys o n f l w =
    let front : length (take o xs) ≡ o = length-take-le o xs (omega arith) in
    let part : length (mid_of o (length xs - o) xs) ≡ length xs - o = mid_len o xs in
    let long : length ys ≡ length xs - o = w.size ∙ part in
    record {
      size = same_len_mid o (length xs - o) xs ys w.size;
      kept = λ i m. get_or-append (take o xs) (ys ++ post_of o (length xs - o) xs) 0 i (omega arith) ∙ get_or-take o xs i 0 m;
      made = λ i m u.
          let e : length (take o xs) + (i - o) ≡ i = omega arith in
          let q : o + (i - o) ≡ i = omega arith in
          ap (λ j. get_or (put_mid o (length xs - o) xs ys) j 0) (sym e)
          ∙ (get_or-append-add (take o xs) (ys ++ post_of o (length xs - o) xs) (i - o) 0
          ∙ (get_or-append ys (post_of o (length xs - o) xs) 0 (i - o) (omega arith)
          ∙ (w.made (i - o) (omega arith) (omega arith) ∙ ap f q)));
    }
