-- A table marked at the cells of a file, one by one. Assumes nothing.
use mathlib.Core.Path.{◌≡◌, refl, sym, ◌∙◌}
use mathlib.Core.Bool.{Bool, true, false, cond}
use mathlib.Core.List.{List}
use Prim.Native.Nat.{ℕ, zero, suc, ◌+◌, ◌<◌, ◌≤◌}
use native.Mathlib.Omega.{arith}
use lib.Dec.{eqb}
use lib.ListN.{drop, set}
use borrow.Author.Tests.{ne_eqb}
use Rattle.codec.specs.Numbers.{Decoded, bad, got, Many, bad_many, got_many, decode_number, decode_behind, decode_rising, front, onward}
use Rattle.codec.specs.Steps.{Found}
use Rattle.listing.specs.Judged.{bad_ends, ends, ends_of, onward_ends, judge_behind}
use Rattle.listing.proofs.Judging.{judge_zero, judge_more}
use Rattle.listing.specs.Cells.{marked, marked_by}

pub bad_ends_lem : {C : Type 0} {l : ℕ} {s : List ℕ} → bad_ends ≡ ends l s → C
bad_ends_lem e = cc

marked_front : (c : ℕ) (m : Many) (t : List ℕ) → marked_by (front c m) t ≡ marked_by m (set t c 2)
unfolding marked_by marked front
marked_front c bad_many t = refl
marked_front c (got_many cs s) t = refl

pub mark_none : (count : ℕ) (s t : List ℕ) → count ≡ 0 → t ≡ marked_by (decode_rising count s) t
unfolding decode_rising marked_by marked
mark_none count s t e = rw e refl

pub mark_end : (left p : ℕ) (s t : List ℕ) → left ≤ 0 → marked_by (decode_behind left p s) t ≡ t
unfolding decode_behind marked_by marked
mark_end left p s t h = let e : left ≡ 0 = omega arith in rw e refl

pub first_not_bad : {C : Type 0} (count left : ℕ) (s : List ℕ) (l : ℕ) (r : List ℕ) → count ≡ suc left → decode_number s ≡ bad → ends_of 0 (decode_rising count s) ≡ ends l r → C
unfolding decode_rising onward ends_of
first_not_bad count left s l r h b e = bad_ends_lem (rw (h, b) at e)

module _ {s : List ℕ} {at c to : ℕ} (f : Found s at c to) where
  pub mark_first : (count left : ℕ) (t : List ℕ) → count ≡ suc left → marked_by (decode_rising count (drop at s)) t ≡ marked_by (decode_behind left c (drop to s)) (set t c 2)
  unfolding decode_rising onward
  mark_first count left t h = rw (h, f.reads) (marked_front c (decode_behind left c (drop to s)) t)

  pub mark_more : (left less p : ℕ) (t : List ℕ) → left ≡ suc less → (c ≡ 0 → ⊥)
      → marked_by (decode_behind left p (drop at s)) t ≡ marked_by (decode_behind less (p + c) (drop to s)) (set t (p + c) 2)
  unfolding decode_behind onward
  mark_more left less p t h z = rw (h, f.reads, ne_eqb c 0 z) (marked_front (p + c) (decode_behind less (p + c) (drop to s)) t)

  pub not_zero : (left p l : ℕ) (r : List ℕ) → 0 < left → judge_behind left p (drop at s) ≡ ends l r → c ≡ 0 → ⊥
  not_zero left p l r h e z = bad_ends_lem (sym (judge_zero f left p h z) ∙ e)

  pub next_judged : (left less p l : ℕ) (r : List ℕ) → left ≡ suc less → judge_behind left p (drop at s) ≡ ends l r → judge_behind less (p + c) (drop to s) ≡ ends l r
  next_judged left less p l r h e = sym (judge_more f left less p h (not_zero left p l r (omega arith) e)) ∙ e

-- a number that is at most the last
pub judge_le : (k p : ℕ) (s : List ℕ) (f : ℕ) (r : List ℕ) → judge_behind k p s ≡ ends f r → p ≤ f
unfolding judge_behind onward_ends
judge_le zero p s f r e = let q : p ≡ f = cc in omega arith
judge_le (suc k) p s f r e = on_number (decode_number s) e (λ d t. judge_le k (p + d) t f r)
  where
    on_test : (d : ℕ) (t : List ℕ) (z : Bool) → cond z bad_ends (judge_behind k (p + d) t) ≡ ends f r → (judge_behind k (p + d) t ≡ ends f r → p + d ≤ f) → p ≤ f
    on_test d t true q i = bad_ends_lem q
    on_test d t false q i = omega (arith, i q)

    on_number : (x : Decoded) → onward_ends x (λ d t. cond (eqb d 0) bad_ends (judge_behind k (p + d) t)) ≡ ends f r
        → ((d : ℕ) (t : List ℕ) → judge_behind k (p + d) t ≡ ends f r → p + d ≤ f) → p ≤ f
    on_number bad q i = bad_ends_lem q
    on_number (got d t) q i = on_test d t (eqb d 0) q (i d t)

-- the next cell is at most the last
pub next_le : {s : List ℕ} {at c to : ℕ} (f : Found s at c to) (left less p l : ℕ) (r : List ℕ) → left ≡ suc less → judge_behind left p (drop at s) ≡ ends l r → p + c ≤ l
next_le {s} {at} {c} {to} f left less p l r h e = judge_le less (p + c) (drop to s) l r (next_judged f left less p l r h e)
