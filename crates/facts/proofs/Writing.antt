-- Laws of writing a text at a place of a buffer. Assumes nothing.
use mathlib.Core.Path.{◌≡◌, refl, sym, ap, ◌∙◌}
use mathlib.Core.List.{List, [], ◌∷◌, ◌++◌, append_assoc}
use Prim.Native.Nat.{ℕ, suc, ◌+◌, ◌≤◌, ◌<◌}
use native.Mathlib.Nat.{zero-add, add-zero}
use native.Mathlib.Numerals.{add-one}
use native.Mathlib.Omega.{arith}
use lib.ListN.{length, set, take, drop, length-append, length-drop, take-append-drop}
use lib.Seq.{length-take-le, drop-drop, set_split, take_at, drop_at, sets, sets-eq}
use Rattle.facts.specs.Writing.{written_at, Writes}

module _ {A : Type 0} (out : List A) (at : ℕ) where
  pub written_none : written_at out at [] ≡ out
  unfolding written_at
  written_none = rw add-zero (take-append-drop at out)

  pub written_byte : (b : A) → at < length out → set out at b ≡ written_at out at (b ∷ [])
  unfolding written_at
  written_byte b h = rw add-one (set_split out at b h)

  module _ (xs : List A) (h : at + length xs ≤ length out) where
    front : length (take at out ++ xs) ≡ at + length xs
    front = length-append (take at out) xs ∙ ap (λ (n : ℕ). n + length xs) (length-take-le at out (omega arith))

    pub length_written : length (written_at out at xs) ≡ length out
    unfolding written_at
    length_written =
        ap length (sym (append_assoc (take at out) xs (drop (at + length xs) out)))
        ∙ omega (arith, length-append (take at out ++ xs) (drop (at + length xs) out), front, length-drop (at + length xs) out)

    pub written_more : (ys : List A) → written_at (written_at out at xs) (at + length xs) ys ≡ written_at out at (xs ++ ys)
    unfolding written_at
    written_more ys =
        let whole = append_assoc (take at out) xs (drop (at + length xs) out) in
        let t : take (at + length xs) (written_at out at xs) ≡ take at out ++ xs = ap (take (at + length xs)) (sym whole) ∙ take_at (take at out ++ xs) (drop (at + length xs) out) (at + length xs) front in
        let d : drop (at + length xs) (written_at out at xs) ≡ drop (at + length xs) out = ap (drop (at + length xs)) (sym whole) ∙ drop_at (take at out ++ xs) (drop (at + length xs) out) (at + length xs) front in
        let n : at + length xs + length ys ≡ at + length (xs ++ ys) = omega (arith, length-append xs ys) in
        let e : drop (at + length xs + length ys) (written_at out at xs) ≡ drop (at + length (xs ++ ys)) out =
        sym (drop-drop (length ys) (at + length xs) (written_at out at xs)) ∙ ap (drop (length ys)) d ∙ drop-drop (length ys) (at + length xs) out ∙ ap (λ (m : ℕ). drop m out) n in
        ap (λ (x : List A). x ++ (ys ++ drop (at + length xs + length ys) (written_at out at xs))) t
        ∙ ap (λ (x : List A). take at out ++ xs ++ (ys ++ x)) e
        ∙ append_assoc (take at out) xs (ys ++ drop (at + length (xs ++ ys)) out)
        ∙ ap (λ (x : List A). take at out ++ x) (sym (append_assoc xs ys (drop (at + length (xs ++ ys)) out)))

pub writes_none : {A : Type 0} (out : List A) (at : ℕ) → Writes out at [] at out
writes_none out at = record { end = omega arith; bytes = sym (written_none out at) }

-- a text behind another
pub writes_more : {A : Type 0} {out : List A} {at : ℕ} {xs ys : List A} {e f : ℕ} {mid new : List A} → at + length xs ≤ length out
    → Writes out at xs e mid → Writes mid e ys f new → Writes out at (xs ++ ys) f new
writes_more {A} {out} {at} {xs} {ys} {e} {f} {mid} {new} h a b =
    record {
      end = omega (arith, a.end, b.end, length-append xs ys);
      bytes = b.bytes ∙ ap (λ (x : List A). written_at x e ys) a.bytes ∙ ap (λ (n : ℕ). written_at (written_at out at xs) n ys) a.end ∙ written_more out at xs h ys;
    }

pub writes_length : {A : Type 0} {out : List A} {at : ℕ} {xs : List A} {e : ℕ} {new : List A} → at + length xs ≤ length out → Writes out at xs e new → length new ≡ length out
writes_length {A} {out} {at} {xs} h a = ap length a.bytes ∙ length_written out at xs h

-- a text at the start of a buffer
pub writes_front : {A : Type 0} {out text : List A} {e : ℕ} {new : List A} → Writes out 0 text e new → new ≡ text ++ drop (length text) out
unfolding written_at
writes_front a = a.bytes ∙ rw zero-add refl

-- ---- runs of stores

module _ {A : Type 0} (old : List A) (at : ℕ) where
  pub writes : (text text' : List A) (r : ℕ) → text ≡ text' → at + length text ≤ length old → r ≡ at + length text' → Writes old at text r (sets old at text')
  unfolding written_at
  writes text text' r e h q = rw e (record { end = q; bytes = sets-eq text' old at (rw e at h) ∙ append_assoc (take at old) text' (drop (at + length text') old) })

  pub two_stores : (a b : A) → sets old at (a ∷ b ∷ []) ≡ set (set old at a) (at + 1) b
  two_stores a b = rw add-one refl

  pub three_stores : (a b d : A) → sets old at (a ∷ b ∷ d ∷ []) ≡ set (set (set old at a) (at + 1) b) (at + 2) d
  three_stores a b d =
      let e : at + 2 ≡ suc (suc at) = omega arith in
      rw (e, add-one) refl
