-- What an answer of `read` and of `read_all` says, and numbers read one by one. Assumes nothing.
use mathlib.Core.Path.{◌≡◌, refl, sym, ap, ◌∙◌}
use mathlib.Core.List.{List, [], ◌∷◌, ◌++◌, append_assoc, append-nil}
use Prim.Native.Nat.{ℕ, suc, ◌+◌, ◌-◌, ◌≤◌, ◌<◌}
use native.Mathlib.Nat.{le_refl}
use native.Mathlib.Numerals.{add-one}
use native.Mathlib.Omega.{arith}
use lib.ListN.{length, take, drop, set, length-set}
use lib.Seq.{take_all, take-suc, take-set-le, get_or-set_same}
use Rattle.std.specs.Prelude.{Option, None, Some}
use Rattle.codec.specs.Numbers.{bad, decode_number, bad_many, got_many, front, onward, decode_numbers}
use Rattle.codec.specs.Steps.{Found, ReadsAt, AllFound, ReadsAll}

pub found : (s : List ℕ) (at : ℕ) (r : Option (ℕ × ℕ)) (n to : ℕ) → ReadsAt s at r → r ≡ Some (n, to) → Found s at n to
found s at r n to e q = rw q at e

pub missing : (s : List ℕ) (at : ℕ) (r : Option (ℕ × ℕ)) → ReadsAt s at r → r ≡ None → decode_number (drop at s) ≡ bad
missing s at r e q = rw q at e

pub all_found : (s : List ℕ) (at : ℕ) (ns : List ℕ) (r : Option ℕ) (to : ℕ) → ReadsAll s at ns r → r ≡ Some to → AllFound s at ns to
all_found s at ns r to e q = rw q at e

pub all_missing : (s : List ℕ) (at : ℕ) (ns : List ℕ) (r : Option ℕ) → ReadsAll s at ns r → r ≡ None → decode_numbers (length ns) (drop at s) ≡ bad_many
all_missing s at ns r e q = rw q at e

-- ---- numbers one by one

-- what is left of k numbers when i stand in the list xs: whoever reads it has read all of them
pub record Left (s : List ℕ) (from k : ℕ) (xs : List ℕ) (at i : ℕ) : Type 0 where
  pub fails : decode_numbers (k - i) (drop at s) ≡ bad_many → decode_numbers k (drop from s) ≡ bad_many
  pub gives : (ns r : List ℕ) → decode_numbers (k - i) (drop at s) ≡ got_many ns r → decode_numbers k (drop from s) ≡ got_many (take i xs ++ ns) r

pub left_all : (s : List ℕ) (from k : ℕ) (xs : List ℕ) → Left s from k xs from 0
left_all s from k xs = let z : k - 0 ≡ k = omega arith in record { fails = λ e. rw z at e; gives = λ ns r e. rw z at e }

-- a list with one more entry stored
take_store : (xs : List ℕ) (i v : ℕ) → i < length xs → take (i + 1) (set xs i v) ≡ take i xs ++ (v ∷ [])
take_store xs i v h =
    rw (add-one, take-suc (set xs i v) i 0 (rw length-set h), take-set-le i xs i v (le_refl i), get_or-set_same xs i v 0 h) refl

module _ {s : List ℕ} {from k : ℕ} {xs : List ℕ} {at i : ℕ} (l : Left s from k xs at i) where
  -- one is read
  pub left_next : {n to : ℕ} → Found s at n to → i < k → i < length xs → Left s from k (set xs i n) to (i + 1)
  unfolding decode_numbers onward front
  left_next {n} {to} f h j =
      let z : k - i ≡ suc (k - (i + 1)) = omega arith in
      record {
        fails = λ e. l.fails (rw (z, f.reads, e) refl);
        gives = λ ns r e. l.gives (n ∷ ns) r (rw (z, f.reads, e) refl) ∙ ap (λ (t : List ℕ). got_many t r) (sym (append_assoc (take i xs) (n ∷ []) ns) ∙ ap (λ (t : List ℕ). t ++ ns) (sym (take_store xs i n j)));
      }

  -- one is none
  pub left_bad : i < k → decode_number (drop at s) ≡ bad → decode_numbers k (drop from s) ≡ bad_many
  unfolding decode_numbers onward
  left_bad h e = let z : k - i ≡ suc (k - (i + 1)) = omega arith in l.fails (rw (z, e) refl)

  -- nothing is left
  pub left_none : length xs ≡ k → k ≤ i → decode_numbers k (drop from s) ≡ got_many xs (drop at s)
  unfolding decode_numbers
  left_none h j =
      let z : k - i ≡ 0 = omega arith in
      l.gives [] (drop at s) (rw z refl) ∙ ap (λ (t : List ℕ). got_many t (drop at s)) (append-nil (take i xs) ∙ take_all i xs (omega arith))
