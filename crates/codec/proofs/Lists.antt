-- Lists of numbers and rising lists: read back as written, and only what is written so is read. Assumes nothing.
use mathlib.Core.Path.{◌≡◌, refl, sym, ap, ◌∙◌}
use mathlib.Core.Bool.{Bool, true, false, cond}
use mathlib.Core.List.{List, [], ◌∷◌, ◌++◌, append_assoc}
use Prim.Native.Nat.{ℕ, zero, suc, ◌+◌, ◌-◌, ◌*◌, ◌<◌, ◌≤◌}
use native.Mathlib.Omega.{arith}
use lib.Dec.{eqb}
use native.Mathlib.Numerals.{add-one}
use lib.ListN.{length, get_or, drop, length-append, drop_of_length-le}
use lib.Seq.{drop-cons}
use borrow.Author.Tests.{eqb-false, ne_eqb}
use Rattle.codec.specs.Numbers.{Decoded, bad, got, Many, bad_many, got_many, encode_number, encode_numbers, decode_number, front, onward, decode_numbers, encode_behind, encode_rising, decode_behind, decode_rising}
use Rattle.codec.specs.Fitting.{number_limit, Small, none, more, Behind, last, next, Rising, empty, first}
use Rattle.codec.proofs.Numbers.{none_many, number_round, number_canonical, short}

-- ---- written, then read

pub numbers_round : {ns : List ℕ} (rest : List ℕ) → Small ns → decode_numbers (length ns) (encode_numbers ns ++ rest) ≡ got_many ns rest
unfolding encode_numbers decode_numbers onward front
numbers_round rest none = refl
numbers_round rest (more {n} {ns} h hs) =
    rw (append_assoc (encode_number n) (encode_numbers ns) rest, number_round n (encode_numbers ns ++ rest) h, numbers_round rest hs) refl

pub behind_round : {p : ℕ} {cs : List ℕ} (rest : List ℕ) → Behind p cs → decode_behind (length cs) p (encode_behind p cs ++ rest) ≡ got_many cs rest
unfolding encode_behind decode_behind onward front
behind_round rest last = refl
behind_round rest (next {p} {c} {cs} h d hs) =
    let z : (c - p ≡ 0 → ⊥) = λ q. omega arith in
    let w : p + (c - p) ≡ c = omega arith in
    rw (append_assoc (encode_number (c - p)) (encode_behind c cs) rest, number_round (c - p) (encode_behind c cs ++ rest) d, ne_eqb (c - p) 0 z, w, behind_round rest hs) refl

pub rising_round : {cs : List ℕ} (rest : List ℕ) → Rising cs → decode_rising (length cs) (encode_rising cs ++ rest) ≡ got_many cs rest
unfolding encode_rising decode_rising onward front
rising_round rest empty = refl
rising_round rest (first {c} {cs} d hs) =
    rw (append_assoc (encode_number c) (encode_behind c cs) rest, number_round c (encode_behind c cs ++ rest) d, behind_round rest hs) refl

-- ---- only what is written so is read

pub record ManyOf (k : ℕ) (s ns rest : List ℕ) : Type 0 where
  pub bytes : s ≡ encode_numbers ns ++ rest
  pub small : Small ns
  pub count : length ns ≡ k

pub record BehindOf (k p : ℕ) (s cs rest : List ℕ) : Type 0 where
  pub bytes : s ≡ encode_behind p cs ++ rest
  pub rises : Behind p cs
  pub count : length cs ≡ k

pub record RisingOf (k : ℕ) (s cs rest : List ℕ) : Type 0 where
  pub bytes : s ≡ encode_rising cs ++ rest
  pub rises : Rising cs
  pub count : length cs ≡ k

-- what stands in front of a reading that is good
front_is : {C : Type 0} (n : ℕ) (m : Many) (ns rest : List ℕ) → front n m ≡ got_many ns rest
    → ((ms : List ℕ) → m ≡ got_many ms rest → ns ≡ n ∷ ms → C) → C
unfolding front
front_is n bad_many ns rest e f = none_many e
front_is n (got_many ms s) ns rest e f = f ms (cc) (cc)

-- the number that a good reading began with
onward_is : {C : Type 0} (s : List ℕ) (g : ℕ → List ℕ → Many) (ns rest : List ℕ) → onward (decode_number s) g ≡ got_many ns rest
    → ((n : ℕ) (r : List ℕ) → s ≡ encode_number n ++ r → n < number_limit → g n r ≡ got_many ns rest → C) → C
unfolding onward
onward_is {C} s g ns rest e f = go (decode_number s) refl
  where
    go : (r : Decoded) → decode_number s ≡ r → C
    go bad q = none_many (rw q at e)
    go (got n r) q = let w = number_canonical s q in f n r w.0 w.1 (rw q at e)

pub numbers_canonical : (k : ℕ) (s ns rest : List ℕ) → decode_numbers k s ≡ got_many ns rest → ManyOf k s ns rest
unfolding decode_numbers encode_numbers
numbers_canonical zero s ns rest e =
    let a : [] ≡ ns = cc in
    let b : s ≡ rest = cc in
    rw (← a, ← b) (record { bytes = refl; small = none; count = refl })
numbers_canonical (suc k) s ns rest e =
    onward_is s (λ n r. front n (decode_numbers k r)) ns rest e (λ n r b h w.
    front_is n (decode_numbers k r) ns rest w (λ ms q l.
    let i = numbers_canonical k r ms rest q in
    rw l (record {
      bytes = b ∙ ap (λ (x : List ℕ). encode_number n ++ x) i.bytes ∙ sym (append_assoc (encode_number n) (encode_numbers ms) rest);
      small = more h i.small;
      count = ap suc i.count;
    })))

behind_step : (k p d : ℕ) (s cs rest r : List ℕ) → s ≡ encode_number d ++ r → d < number_limit → (z : Bool) → eqb d 0 ≡ z
    → cond z bad_many (front (p + d) (decode_behind k (p + d) r)) ≡ got_many cs rest
    → ((ms : List ℕ) → decode_behind k (p + d) r ≡ got_many ms rest → BehindOf k (p + d) r ms rest)
    → BehindOf (suc k) p s cs rest
unfolding encode_behind
behind_step k p d s cs rest r b h true z w ih = none_many w
behind_step k p d s cs rest r b h false z w ih =
    front_is (p + d) (decode_behind k (p + d) r) cs rest w (λ ms q l.
    let i = ih ms q in
    let n : (d ≡ 0 → ⊥) = eqb-false d 0 z in
    let m : (p + d) - p ≡ d = omega arith in
    let f : p < p + d = omega arith in
    let g : (p + d) - p < number_limit = omega arith in
    rw l (record {
      bytes = rw m (b ∙ ap (λ (x : List ℕ). encode_number d ++ x) i.bytes ∙ sym (append_assoc (encode_number d) (encode_behind (p + d) ms) rest));
      rises = next f g i.rises;
      count = ap suc i.count;
    }))

pub behind_canonical : (k p : ℕ) (s cs rest : List ℕ) → decode_behind k p s ≡ got_many cs rest → BehindOf k p s cs rest
unfolding decode_behind encode_behind
behind_canonical zero p s cs rest e =
    let a : [] ≡ cs = cc in
    let b : s ≡ rest = cc in
    rw (← a, ← b) (record { bytes = refl; rises = last; count = refl })
behind_canonical (suc k) p s cs rest e =
    onward_is s (λ d r. cond (eqb d 0) bad_many (front (p + d) (decode_behind k (p + d) r))) cs rest e (λ d r b h w.
    behind_step k p d s cs rest r b h (eqb d 0) refl w (λ ms q. behind_canonical k (p + d) r ms rest q))

pub rising_canonical : (k : ℕ) (s cs rest : List ℕ) → decode_rising k s ≡ got_many cs rest → RisingOf k s cs rest
unfolding decode_rising encode_rising
rising_canonical zero s cs rest e =
    let a : [] ≡ cs = cc in
    let b : s ≡ rest = cc in
    rw (← a, ← b) (record { bytes = refl; rises = empty; count = refl })
rising_canonical (suc k) s cs rest e =
    onward_is s (λ c r. front c (decode_behind k c r)) cs rest e (λ c r b h w.
    front_is c (decode_behind k c r) cs rest w (λ ms q l.
    let i = behind_canonical k c r ms rest q in
    rw l (record {
      bytes = b ∙ ap (λ (x : List ℕ). encode_number c ++ x) i.bytes ∙ sym (append_assoc (encode_number c) (encode_behind c ms) rest);
      rises = first h i.rises;
      count = ap suc i.count;
    })))

-- ---- numbers one by one

pub numbers_short : (ns : List ℕ) → length (encode_numbers ns) ≤ 3 * length ns
unfolding encode_numbers
numbers_short [] = omega arith
numbers_short (n ∷ ns) = omega (arith, length-append (encode_number n) (encode_numbers ns), short n, numbers_short ns)

-- of a list from a place on
module _ (l : List ℕ) (i : ℕ) where
  pub numbers_next : i < length l → encode_numbers (drop i l) ≡ encode_number (get_or l i 0) ++ encode_numbers (drop (i + 1) l)
  unfolding encode_numbers
  numbers_next h = rw (drop-cons l i 0 h, add-one) refl

  pub numbers_longer : i < length l → length (encode_numbers (drop i l)) ≡ length (encode_number (get_or l i 0)) + length (encode_numbers (drop (i + 1) l))
  numbers_longer h = ap length (numbers_next h) ∙ length-append (encode_number (get_or l i 0)) (encode_numbers (drop (i + 1) l))

  pub numbers_end : length l ≤ i → encode_numbers (drop i l) ≡ []
  unfolding encode_numbers
  numbers_end h = rw (drop_of_length-le l h) refl

pub small_at_lem : {l : List ℕ} → Small l → (i : ℕ) → i < length l → get_or l i 0 < number_limit
small_at_lem none i h = absurd (let w : ⊥ = omega arith in w)
small_at_lem (more n ns) zero h = n
small_at_lem (more n ns) (suc i) h = small_at_lem ns i (omega arith)
