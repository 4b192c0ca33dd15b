-- Reading a number gives back what was written, and only what is written so is read. Assumes nothing.
use mathlib.Core.Path.{◌≡◌, refl, ap}
use mathlib.Core.Bool.{Bool, true, false, cond}
use mathlib.Core.List.{List, [], ◌∷◌, ◌++◌}
use Prim.Native.Nat.{ℕ, zero, suc, ◌+◌, ◌-◌, ◌*◌, ◌/◌, ◌%◌, ◌<◌, ◌≤◌}
use native.Mathlib.Omega.{arith}
use lib.Dec.{ltb, eqb}
use lib.ListN.{length}
use borrow.Author.Tests.{ltb-true, ltb-false, eqb-false, lt-ltb, le-ltb, ne_eqb}
use Rattle.codec.specs.Fitting.{number_limit}
use Rattle.codec.specs.Numbers.{Decoded, bad, got, bad_many, got_many, encode_groups, encode_number, above, decode_groups, decode_number}

-- the numbers of at most k groups are those below `limit k`
unfoldable limit : ℕ → ℕ
limit zero = 1
limit (suc k) = 128 * limit k

-- two readings that cannot be the same
pub bad_got : {C : Type 0} {n : ℕ} {s : List ℕ} → bad ≡ got n s → C
bad_got e = cc

pub none_many : {C : Type 0} {n s : List ℕ} → bad_many ≡ got_many n s → C
none_many e = cc

limit_pos : (k : ℕ) → 1 ≤ limit k
unfolding limit
limit_pos zero = omega arith
limit_pos (suc k) = omega (arith, limit_pos k)

-- ---- written, then read

groups_round : (k n : ℕ) (rest : List ℕ) → n < limit (suc k) → decode_groups (suc k) (encode_groups (suc k) n ++ rest) ≡ got n rest
unfolding limit encode_groups decode_groups above
groups_round zero n rest h = rw (lt-ltb n 128 (omega arith), lt-ltb n 128 (omega arith)) refl
groups_round (suc k) n rest h = go (ltb n 128) refl (groups_round k (n / 128) rest (omega arith))
  where
    go : (b : Bool) → ltb n 128 ≡ b → decode_groups (suc k) (encode_groups (suc k) (n / 128) ++ rest) ≡ got (n / 128) rest
        → decode_groups (suc (suc k)) (encode_groups (suc (suc k)) n ++ rest) ≡ got n rest
    go true t i = rw (t, t) refl
    go false t i =
        let l : 128 ≤ n = ltb-false n 128 t in
        let m : (n / 128 ≡ 0 → ⊥) = λ z. omega arith in
        rw (t, le-ltb (128 + n % 128) 128 (omega arith), lt-ltb (128 + n % 128) 256 (omega arith), i, ne_eqb (n / 128) 0 m)
        (ap (λ (x : ℕ). got x rest) (omega arith))

pub number_round : (n : ℕ) (rest : List ℕ) → n < number_limit → decode_number (encode_number n ++ rest) ≡ got n rest
unfolding limit encode_number decode_number
number_round n rest h = groups_round 2 n rest h

-- ---- only what is written so is read

record Canonical (k : ℕ) (s : List ℕ) (n : ℕ) (rest : List ℕ) : Type 0 where
  pub bytes : s ≡ encode_groups k n ++ rest
  pub small : n < limit k

groups_more : (k b : ℕ) (s : List ℕ) (n : ℕ) (rest : List ℕ) → ltb b 128 ≡ false → ltb b 256 ≡ true → (r : Decoded) → decode_groups k s ≡ r
    → ((m : ℕ) (t : List ℕ) → decode_groups k s ≡ got m t → Canonical k s m t)
    → above (b - 128) r ≡ got n rest → Canonical (suc k) (b ∷ s) n rest
unfolding limit encode_groups above
groups_more k b s n rest f t bad d ih e = bad_got e
groups_more k b s n rest f t (got m u) d ih e = go (eqb m 0) refl
  where
    go : (z : Bool) → eqb m 0 ≡ z → Canonical (suc k) (b ∷ s) n rest
    go true q = bad_got (rw q at e)
    go false q =
        let i = ih m u d in
        let w : got ((b - 128) + 128 * m) u ≡ got n rest = rw q at e in
        let nn : (b - 128) + 128 * m ≡ n = cc in
        let rr : u ≡ rest = cc in
        let p : (m ≡ 0 → ⊥) = eqb-false m 0 q in
        let l : 128 ≤ b = ltb-false b 128 f in
        let h : b < 256 = ltb-true b 256 t in
        let sm : m < limit k = i.small in
        let big : 128 ≤ n = omega arith in
        let dv : n / 128 ≡ m = omega arith in
        let md : 128 + n % 128 ≡ b = omega arith in
        record { bytes = rw (le-ltb n 128 big, md, dv, ← rr) (ap (λ (x : List ℕ). b ∷ x) i.bytes); small = omega arith }

groups_canonical : (k : ℕ) (s : List ℕ) (n : ℕ) (rest : List ℕ) → decode_groups k s ≡ got n rest → Canonical k s n rest
unfolding decode_groups encode_groups limit
groups_canonical zero s n rest e = bad_got e
groups_canonical (suc k) [] n rest e = bad_got e
groups_canonical (suc k) (b ∷ s) n rest e = go (ltb b 128) refl (ltb b 256) refl (groups_canonical k s)
  where
    go : (t : Bool) → ltb b 128 ≡ t → (u : Bool) → ltb b 256 ≡ u → ((m : ℕ) (r : List ℕ) → decode_groups k s ≡ got m r → Canonical k s m r) → Canonical (suc k) (b ∷ s) n rest
    go true t u v ih =
        let w : got b s ≡ got n rest = rw t at e in
        let nn : b ≡ n = cc in
        let rr : s ≡ rest = cc in
        let h : b < 128 = ltb-true b 128 t in
        record { bytes = rw (← nn, ← rr, t) refl; small = omega (arith, limit_pos k) }
    go false t false v ih = bad_got (rw (t, v) at e)
    go false t true v ih = groups_more k b s n rest t v (decode_groups k s) refl ih (rw (t, v) at e)

pub number_canonical : {n : ℕ} {rest : List ℕ} (s : List ℕ) → decode_number s ≡ got n rest → (s ≡ encode_number n ++ rest) × (n < number_limit)
unfolding limit encode_number decode_number
number_canonical {n} {rest} s e = let c = groups_canonical 3 s n rest e in (c.bytes, c.small)

-- ---- no number takes more than three bytes

groups_short : (k n : ℕ) → length (encode_groups k n) ≤ k
unfolding encode_groups
groups_short zero n = omega arith
groups_short (suc k) n = go (ltb n 128) (groups_short k (n / 128))
  where
    go : (b : Bool) → length (encode_groups k (n / 128)) ≤ k → length (cond b (n ∷ []) ((128 + n % 128) ∷ encode_groups k (n / 128))) ≤ suc k
    go true h = omega arith
    go false h = omega arith

pub short : (n : ℕ) → length (encode_number n) ≤ 3
unfolding encode_number
short n = groups_short 3 n
