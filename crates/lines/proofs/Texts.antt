-- Laws of the definitions on texts, by which the loops go. Assumes nothing.
use mathlib.Core.Path.{◌≡◌, refl, sym, ap, ◌∙◌}
use mathlib.Core.Bool.{Bool, true, false, cond, ◌&&◌}
use mathlib.Core.List.{List, [], ◌∷◌}
use Prim.Native.Nat.{ℕ, ◌+◌, ◌-◌, ◌*◌, ◌^◌, ◌≤◌, ◌<◌}
use native.Mathlib.Numerals.{add-one}
use native.Mathlib.Omega.{arith}
use lib.ListN.{length, get_or, take, drop, length-drop, drop_of_length-le}
use lib.Seq.{drop-cons, drop-drop}
use lib.Dec.{eqb, ltb}
use borrow.Author.Tests.{lt-ltb, le-ltb, le-leb, eq-eqb, ne_eqb, ltb-true, ltb-false}
use Rattle.std.specs.Prelude.{Option, Some, None, nat_eq}
use Rattle.std.specs.Char.{is_ascii_digit}
use Rattle.std.specs.Cmp.Lexicographic.{pointwise}
use Rattle.lines.specs.Reading.{up_to, onto, parts, lines_of, fields_of, is_digit, all_digits, value_after, is_number, number_of, same, EndsLine}
use Rattle.lines.specs.Steps.{behind, fields_behind}

-- ---- up to a stop

module _ (stop : ℕ) (s : List ℕ) (i : ℕ) where
  pub up_to_end : length s ≤ i → length (up_to stop (drop i s)) ≡ 0
  unfolding up_to
  up_to_end h = rw (drop_of_length-le s h) refl

  pub up_to_here : i < length s → get_or s i 0 ≡ stop → length (up_to stop (drop i s)) ≡ 0
  unfolding up_to
  up_to_here h e = rw (drop-cons s i 0 h, eq-eqb _ _ e) refl

  pub up_to_next : i < length s → (get_or s i 0 ≡ stop → ⊥) → length (up_to stop (drop i s)) ≡ length (up_to stop (drop (i + 1) s)) + 1
  unfolding up_to
  up_to_next h e = rw (drop-cons s i 0 h, ne_eqb _ _ e, add-one, add-one) refl

pub take_up_to : (stop : ℕ) (s : List ℕ) → take (length (up_to stop s)) s ≡ up_to stop s
unfolding up_to
take_up_to stop [] = refl
take_up_to stop (b ∷ s) = go (eqb b stop) refl (take_up_to stop s)
  where
    go : (t : Bool) → eqb b stop ≡ t → take (length (up_to stop s)) s ≡ up_to stop s → take (length (up_to stop (b ∷ s))) (b ∷ s) ≡ up_to stop (b ∷ s)
    go true e ih = rw e refl
    go false e ih = rw e (ap (λ (x : List ℕ). b ∷ x) ih)

pub up_to_le : (stop : ℕ) (s : List ℕ) → length (up_to stop s) ≤ length s
unfolding up_to
up_to_le stop [] = omega arith
up_to_le stop (b ∷ s) = go (eqb b stop) refl (up_to_le stop s)
  where
    go : (t : Bool) → eqb b stop ≡ t → length (up_to stop s) ≤ length s → length (up_to stop (b ∷ s)) ≤ length (b ∷ s)
    go true e ih = rw e (omega arith)
    go false e ih = rw e (omega arith)

pub up_to_inside : (stop : ℕ) (s : List ℕ) (i : ℕ) → i ≤ length s → i + length (up_to stop (drop i s)) ≤ length s
up_to_inside stop s i h = omega (arith, up_to_le stop (drop i s), length-drop i s)

-- ---- a text cut at its stops

-- a byte that is no stop begins the first part
cut : (stop : ℕ) (end : List (List ℕ)) → ((b : ℕ) → onto b end ≡ (b ∷ []) ∷ []) → (b : ℕ) (s : List ℕ)
    → parts stop end (b ∷ s) ≡ up_to stop (b ∷ s) ∷ behind stop end (drop (length (up_to stop (b ∷ s))) (b ∷ s))
unfolding up_to parts
cut stop end h b [] = go (eqb b stop) refl
  where
    go : (t : Bool) → eqb b stop ≡ t → parts stop end (b ∷ []) ≡ up_to stop (b ∷ []) ∷ behind stop end (drop (length (up_to stop (b ∷ []))) (b ∷ []))
    go true e = rw e refl
    go false e = rw e (h b)
cut stop end h b (c ∷ s) = go (eqb b stop) refl (cut stop end h c s)
  where
    go : (t : Bool) → eqb b stop ≡ t
        → parts stop end (c ∷ s) ≡ up_to stop (c ∷ s) ∷ behind stop end (drop (length (up_to stop (c ∷ s))) (c ∷ s))
        → parts stop end (b ∷ c ∷ s) ≡ up_to stop (b ∷ c ∷ s) ∷ behind stop end (drop (length (up_to stop (b ∷ c ∷ s))) (b ∷ c ∷ s))
    go true e ih = rw e refl
    go false e ih = rw e (ap (onto b) ih)

pub fields_cut : (s : List ℕ) → fields_of s ≡ up_to 32 s ∷ fields_behind (drop (length (up_to 32 s)) s)
unfolding up_to parts
fields_cut [] = refl
fields_cut (b ∷ s) = cut 32 ([] ∷ []) (λ b. refl) b s

behind_last : (t : List ℕ) → behind 10 [] t ≡ lines_of (drop 1 t)
unfolding parts
behind_last [] = refl
behind_last (b ∷ t) = refl

lines_cut : (s : List ℕ) → (length s ≡ 0 → ⊥) → lines_of s ≡ up_to 10 s ∷ lines_of (drop (length (up_to 10 s) + 1) s)
lines_cut [] h = absurd (h refl)
lines_cut (b ∷ s) h =
    let n = length (up_to 10 (b ∷ s)) in
    cut 10 [] (λ b. refl) b s
    ∙ ap (λ (x : List (List ℕ)). up_to 10 (b ∷ s) ∷ x) (behind_last (drop n (b ∷ s)) ∙ ap lines_of (drop-drop 1 n (b ∷ s)))

pub ends_line : (s : List ℕ) (from r : ℕ) → r ≡ from + length (up_to 10 (drop from s)) → EndsLine s from r
ends_line s from r e =
    let t = drop from s in
    let n : r - from ≡ length (up_to 10 t) = omega arith in
    let m : from + (length (up_to 10 t) + 1) ≡ r + 1 = omega arith in
    record {
      place = e;
      inside = λ h. omega (arith, up_to_inside 10 s from h);
      line = λ h.
          lines_cut t (λ z. let w : ⊥ = omega (arith, length-drop from s) in w)
          ∙ ap (λ (x : List ℕ). x ∷ lines_of (drop (length (up_to 10 t) + 1) t)) (sym (take_up_to 10 t) ∙ ap (λ (x : ℕ). take x t) (sym n))
          ∙ ap (λ (x : List ℕ). take (r - from) t ∷ lines_of x) (drop-drop (length (up_to 10 t) + 1) from s ∙ ap (λ (x : ℕ). drop x s) m);
    }

-- ---- a number: the digits one after the other, stopping at the first that cannot be

unfoldable pub scan : ℕ → List ℕ → Option ℕ
scan n [] = Some n
scan n (b ∷ s) = cond (is_digit b) (cond (ltb (n * 10 + (b - 48)) (2 ^ 32)) (scan (n * 10 + (b - 48)) s) None) None

pub is_digit_lem : (b : ℕ) → 48 ≤ b → b ≤ 57 → is_digit b ≡ true
unfolding is_digit
is_digit_lem b l h = rw (le-leb 48 b l, le-leb b 57 h) refl

pub digit_told : (b : ℕ) {t : Bool} → t ≡ is_ascii_digit b → is_digit b ≡ t
unfolding is_digit
digit_told b e = sym e

module _ (n : ℕ) (s : List ℕ) (i : ℕ) where
  pub scan_end : length s ≤ i → scan n (drop i s) ≡ Some n
  unfolding scan
  scan_end h = rw (drop_of_length-le s h) refl

  pub scan_stop : i < length s → is_digit (get_or s i 0) ≡ false → scan n (drop i s) ≡ None
  unfolding scan
  scan_stop h d = rw (drop-cons s i 0 h, d) refl

  module _ (h : i < length s) (d : is_digit (get_or s i 0) ≡ true) where
    pub scan_large : 2 ^ 32 ≤ n * 10 + (get_or s i 0 - 48) → scan n (drop i s) ≡ None
    unfolding scan
    scan_large l = rw (drop-cons s i 0 h, d, le-ltb _ _ l) refl

    pub scan_next : n * 10 + (get_or s i 0 - 48) < 2 ^ 32 → scan n (drop i s) ≡ scan (n * 10 + (get_or s i 0 - 48)) (drop (i + 1) s)
    unfolding scan
    scan_next l = rw (drop-cons s i 0 h, d, lt-ltb _ _ l, add-one) refl

grows : (n : ℕ) (s : List ℕ) → n ≤ value_after n s
unfolding value_after
grows n [] = omega arith
grows n (b ∷ s) = omega (arith, grows (n * 10 + (b - 48)) s)

pub and-false : (b : Bool) → (b && false) ≡ false
and-false true = refl
and-false false = refl

scanned : (n : ℕ) (s : List ℕ) → n < 2 ^ 32 → scan n s ≡ cond (all_digits s && ltb (value_after n s) (2 ^ 32)) (Some (value_after n s)) None
unfolding scan all_digits value_after
scanned n [] h = rw (lt-ltb n (2 ^ 32) h) refl
scanned n (b ∷ s) h = go (is_digit b) (ltb (n * 10 + (b - 48)) (2 ^ 32)) refl refl (scanned (n * 10 + (b - 48)) s)
  where
    go : (d l : Bool) → is_digit b ≡ d → ltb (n * 10 + (b - 48)) (2 ^ 32) ≡ l
        → (n * 10 + (b - 48) < 2 ^ 32 → scan (n * 10 + (b - 48)) s ≡ cond (all_digits s && ltb (value_after (n * 10 + (b - 48)) s) (2 ^ 32)) (Some (value_after (n * 10 + (b - 48)) s)) None)
        → scan n (b ∷ s) ≡ cond (all_digits (b ∷ s) && ltb (value_after n (b ∷ s)) (2 ^ 32)) (Some (value_after n (b ∷ s))) None
    go false l d e ih = rw d refl
    go true true d e ih = rw (d, e) (ih (ltb-true _ _ e))
    go true false d e ih =
        let g : 2 ^ 32 ≤ value_after (n * 10 + (b - 48)) s = omega (arith, grows (n * 10 + (b - 48)) s, ltb-false (n * 10 + (b - 48)) (2 ^ 32) e) in
        rw (d, e, le-ltb (value_after (n * 10 + (b - 48)) s) (2 ^ 32) g, and-false) refl

pub number_scan : (s : List ℕ) → (length s ≡ 0 → ⊥) → number_of s ≡ scan 0 s
unfolding is_number
number_scan [] h = absurd (h refl)
number_scan (b ∷ s) h = sym (scanned 0 (b ∷ s) (omega arith))

-- no number is read where the digits stop
pub no_scan : (s : List ℕ) (i n : ℕ) → i < length s → scan 0 s ≡ scan n (drop i s) → scan n (drop i s) ≡ None → None ≡ number_of s
no_scan s i n h a b = sym (number_scan s (λ e. omega arith) ∙ a ∙ b)

pub no_number : (s : List ℕ) → length s ≡ 0 → None ≡ number_of s
unfolding is_number
no_number [] h = refl
no_number (b ∷ s) h = absurd (let z : ⊥ = omega arith in z)

-- ---- two texts

same_is : (s t : List ℕ) → same s t ≡ pointwise nat_eq s t
unfolding same
same_is [] [] = refl
same_is [] (y ∷ t) = refl
same_is (x ∷ s) [] = refl
same_is (x ∷ s) (y ∷ t) = rw (same_is s t) refl

pub word_is : (w t l : List ℕ) {b : Bool} → t ≡ l → b ≡ pointwise nat_eq w t → same w l ≡ b
word_is w t l e q = rw (← e) (same_is w t ∙ sym q)
