-- Listed cells judged without memory, and where they end. Assumes nothing.
use mathlib.Core.Path.{◌≡◌, refl, ◌∙◌}
use mathlib.Core.Bool.{Bool, true, false, cond}
use mathlib.Core.List.{List, [], ◌∷◌}
use Prim.Native.Nat.{ℕ, zero, suc, ◌+◌, ◌<◌, ◌≤◌}
use native.Mathlib.Omega.{arith}
use lib.Dec.{T, eqb, ltb, ltb→lt, lt→ltb}
use Rattle.facts.specs.Numbers.{all}
use Rattle.facts.proofs.Tests.{and_i, and_l, and_r}
use lib.ListN.{length, drop}
use borrow.Author.Tests.{ne_eqb, eq-eqb}
use Rattle.codec.specs.Numbers.{Decoded, bad, got, Many, bad_many, got_many, decode_number, decode_behind, decode_rising, front, onward}
use Rattle.codec.specs.Fitting.{Behind, last, next, Rising, empty, first}
use Rattle.listing.specs.declared.End.{End}
use Rattle.codec.specs.Steps.{Found}
use Rattle.listing.specs.Judged.{bad_ends, ends, last_of, ends_of, onward_ends, judge_behind, CellsFound}

-- ---- cells without memory

ends_front : (p c : ℕ) (m : Many) → ends_of p (front c m) ≡ ends_of c m
unfolding ends_of front last_of
ends_front p c bad_many = refl
ends_front p c (got_many cs s) = refl

pub ends_behind : (k p : ℕ) (s : List ℕ) → ends_of p (decode_behind k p s) ≡ judge_behind k p s
unfolding ends_of decode_behind judge_behind last_of onward_ends onward
ends_behind zero p s = refl
ends_behind (suc k) p s = on_number (decode_number s) (λ d r. ends_behind k (p + d) r)
  where
    on_test : (d : ℕ) (r : List ℕ) (z : Bool) → ends_of (p + d) (decode_behind k (p + d) r) ≡ judge_behind k (p + d) r
        → ends_of p (cond z bad_many (front (p + d) (decode_behind k (p + d) r))) ≡ cond z bad_ends (judge_behind k (p + d) r)
    on_test d r true i = refl
    on_test d r false i = ends_front p (p + d) (decode_behind k (p + d) r) ∙ i

    on_number : (x : Decoded) → ((d : ℕ) (r : List ℕ) → ends_of (p + d) (decode_behind k (p + d) r) ≡ judge_behind k (p + d) r)
        → ends_of p (onward x (λ d r. cond (eqb d 0) bad_many (front (p + d) (decode_behind k (p + d) r))))
        ≡ onward_ends x (λ d r. cond (eqb d 0) bad_ends (judge_behind k (p + d) r))
    on_number bad i = refl
    on_number (got d r) i = on_test d r (eqb d 0) (i d r)

ends_bad : (p : ℕ) (m : Many) → ends_of p m ≡ bad_ends → m ≡ bad_many
unfolding ends_of
ends_bad p bad_many e = refl
ends_bad p (got_many cs s) e = cc

-- the first cell was read
module _ {s : List ℕ} {at c to : ℕ} (count left : ℕ) (h : count ≡ suc left) (f : Found s at c to) where
  pub cells_begin : ends_of 0 (decode_rising count (drop at s)) ≡ judge_behind left c (drop to s)
  unfolding decode_rising onward
  cells_begin = rw (h, f.reads) (ends_front 0 c (decode_behind left c (drop to s)) ∙ ends_behind left c (drop to s))

  pub cells_bad : judge_behind left c (drop to s) ≡ bad_ends → decode_rising count (drop at s) ≡ bad_many
  cells_bad e = ends_bad 0 _ (cells_begin ∙ e)

pub cells_none : (count left : ℕ) (s : List ℕ) → count ≡ suc left → decode_number s ≡ bad → decode_rising count s ≡ bad_many
unfolding decode_rising onward
cells_none count left s h e = rw (h, e) refl

pub no_cells_lem : (s : List ℕ) (at : ℕ) (e : End) → at ≤ length s → e.last ≡ 0 → e.at ≡ at → CellsFound s at 0 e
unfolding decode_rising ends_of last_of
no_cells_lem s at e h l a = record { reads = rw (l, a) refl; inside = omega arith }

-- one difference more
pub judge_bad : (left p : ℕ) (s : List ℕ) → 0 < left → decode_number s ≡ bad → judge_behind left p s ≡ bad_ends
unfolding judge_behind onward_ends
judge_bad zero p s h e = absurd (let w : ⊥ = omega arith in w)
judge_bad (suc k) p s h e = rw e refl

module _ {s : List ℕ} {at d to : ℕ} (f : Found s at d to) where
  pub judge_zero : (left p : ℕ) → 0 < left → d ≡ 0 → judge_behind left p (drop at s) ≡ bad_ends
  unfolding judge_behind onward_ends
  judge_zero zero p h z = absurd (let w : ⊥ = omega arith in w)
  judge_zero (suc k) p h z = rw (f.reads, eq-eqb d 0 z) refl

  pub judge_more : (left less p : ℕ) → left ≡ suc less → (d ≡ 0 → ⊥) → judge_behind left p (drop at s) ≡ judge_behind less (p + d) (drop to s)
  unfolding judge_behind onward_ends
  judge_more left less p h z = rw (h, f.reads, ne_eqb d 0 z) refl

pub judge_end : (left p : ℕ) (s : List ℕ) → left ≤ 0 → judge_behind left p s ≡ ends p s
unfolding judge_behind
judge_end left p s h = let e : left ≡ 0 = omega arith in rw e refl

-- what was judged good is good
pub ends_good : {C : Type 0} (p l : ℕ) (m : Many) (s : List ℕ) → ends_of p m ≡ ends l s → ((cs : List ℕ) → m ≡ got_many cs s → last_of p cs ≡ l → C) → C
unfolding ends_of
ends_good p l bad_many s e f = cc
ends_good p l (got_many cs t) s e f = let q : t ≡ s = cc in f cs (rw q refl) (cc)

-- ---- all cells are below t just where the last is

below_last : {p : ℕ} {cs : List ℕ} → Behind p cs → p ≤ last_of p cs
unfolding last_of
below_last last = omega arith
below_last (next h d hs) = omega (arith, below_last hs)

behind_all : {p : ℕ} {cs : List ℕ} → Behind p cs → (t : ℕ) → last_of p cs < t → T (all (λ c. ltb c t) cs)
unfolding last_of all
behind_all last t h = tt
behind_all (next {p} {c} {cs} l k hs) t h = and_i (ltb c t) (all (λ c. ltb c t) cs) (lt→ltb c t (omega (arith, below_last hs))) (behind_all hs t h)

pub last_all : {cs : List ℕ} → Rising cs → (t : ℕ) → last_of 0 cs < t → T (all (λ c. ltb c t) cs)
unfolding last_of all
last_all empty t h = tt
last_all (first {c} {cs} k hs) t h = and_i (ltb c t) (all (λ c. ltb c t) cs) (lt→ltb c t (omega (arith, below_last hs))) (behind_all hs t h)

pub all_last : (p : ℕ) (cs : List ℕ) (t : ℕ) → p < t → T (all (λ c. ltb c t) cs) → last_of p cs < t
unfolding last_of all
all_last p [] t h a = h
all_last p (c ∷ cs) t h a = all_last c cs t (ltb→lt c t (and_l (ltb c t) (all (λ c. ltb c t) cs) a)) (and_r (ltb c t) (all (λ c. ltb c t) cs) a)
