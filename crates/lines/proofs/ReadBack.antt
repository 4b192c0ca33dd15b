-- What is written is read back: the digits of a number of 32 bits are a number, and that one. Assumes nothing.
use mathlib.Core.Path.{◌≡◌, refl, ap, ◌∙◌}
use mathlib.Core.Bool.{Bool, true, false}
use mathlib.Core.List.{List, [], ◌∷◌, ◌++◌}
use Prim.Native.Nat.{ℕ, zero, suc, ◌+◌, ◌-◌, ◌*◌, ◌/◌, ◌%◌, ◌^◌, ◌<◌}
use native.Mathlib.Nat.{pow-suc}
use native.Mathlib.Omega.{arith}
use lib.ListN.{length}
use lib.Dec.{ltb}
use borrow.Author.Tests.{lt-ltb, ltb-true}
use Rattle.std.specs.Prelude.{Some}
use Rattle.lines.specs.Reading.{is_digit, all_digits, value_after, value_of, is_number, number_of}
use Rattle.lines.specs.Writing.{last_digits, digits}
use Rattle.lines.proofs.Texts.{is_digit_lem}

value_last : (n : ℕ) (s : List ℕ) (d : ℕ) → value_after n (s ++ (d ∷ [])) ≡ value_after n s * 10 + (d - 48)
unfolding value_after
value_last n [] d = refl
value_last n (b ∷ s) d = value_last (n * 10 + (b - 48)) s d

all_last : (s : List ℕ) (d : ℕ) → all_digits s ≡ true → is_digit d ≡ true → all_digits (s ++ (d ∷ [])) ≡ true
unfolding all_digits
all_last [] d h e = rw e refl
all_last (b ∷ s) d h e = go (is_digit b) refl (all_last s d)
  where
    go : (t : Bool) → is_digit b ≡ t → (all_digits s ≡ true → is_digit d ≡ true → all_digits (s ++ (d ∷ [])) ≡ true) → all_digits (b ∷ (s ++ (d ∷ []))) ≡ true
    go true f ih = rw f (ih (rw f at h) e)
    go false f ih = absurd (let g : false ≡ true = rw f at h in let z : ◌≡◌ {A = ℕ} 0 1 = cc in let w : ⊥ = omega arith in w)

-- k digits hold a number below 10 ^ k
holds : (k n : ℕ) → n < 10 ^ k → (value_of (last_digits k n) ≡ n) × (all_digits (last_digits k n) ≡ true)
unfolding last_digits value_after all_digits
holds zero n h = (omega arith, refl)
holds (suc k) n h = go (ltb n 10) refl (holds k (n / 10) (omega (arith, pow-suc 10 k)))
  where
    go : (b : Bool) → ltb n 10 ≡ b → (value_of (last_digits k (n / 10)) ≡ n / 10) × (all_digits (last_digits k (n / 10)) ≡ true)
        → (value_of (last_digits (suc k) n) ≡ n) × (all_digits (last_digits (suc k) n) ≡ true)
    go true e ih =
        let l : n < 10 = ltb-true n 10 e in
        rw e (omega arith, rw (is_digit_lem (48 + n) (omega arith) (omega arith)) refl)
    go false e ih =
        rw e (
          value_last 0 (last_digits k (n / 10)) (48 + n % 10) ∙ omega (arith, ih.0),
          all_last (last_digits k (n / 10)) (48 + n % 10) ih.1 (is_digit_lem (48 + n % 10) (omega arith) (omega arith)),
        )

no_end : (s : List ℕ) (d : ℕ) → length (s ++ (d ∷ [])) ≡ 0 → ⊥
no_end [] d h = omega arith
no_end (b ∷ s) d h = omega arith

some_digit : (k n : ℕ) → length (last_digits (suc k) n) ≡ 0 → ⊥
unfolding last_digits
some_digit k n h = go (ltb n 10) refl
  where
    go : (b : Bool) → ltb n 10 ≡ b → ⊥
    go true e = no_end [] (48 + n) (rw e at h)
    go false e = no_end (last_digits k (n / 10)) (48 + n % 10) (rw e at h)

number : (s : List ℕ) → (length s ≡ 0 → ⊥) → all_digits s ≡ true → value_of s < 2 ^ 32 → is_number s ≡ true
unfolding is_number
number [] n a v = absurd (n refl)
number (b ∷ s) n a v = rw (a, lt-ltb _ _ v) refl

pub read_back : (n : ℕ) → n < 2 ^ 32 → number_of (digits n) ≡ Some n
unfolding digits
read_back n h =
    let w = holds 10 n (omega arith) in
    rw (number (last_digits 10 n) (some_digit 9 n) w.1 (omega (arith, w.0))) (ap Some w.0)
