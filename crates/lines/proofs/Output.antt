-- Laws of the texts that are written. Assumes nothing.
use mathlib.Core.Path.{◌≡◌, refl, sym, ap, ◌∙◌}
use mathlib.Core.Bool.{Bool, true, false, cond}
use mathlib.Core.List.{List, [], ◌∷◌, ◌++◌}
use Prim.Native.Nat.{ℕ, zero, suc, ◌+◌, ◌-◌, ◌*◌, ◌/◌, ◌%◌, ◌^◌, ◌≤◌, ◌<◌}
use native.Mathlib.Nat.{zero-add, pow-suc}
use native.Mathlib.Numerals.{add-one}
use native.Mathlib.Omega.{arith}
use lib.ListN.{length, get_or, take, drop, length-append, length-drop, drop_of_length-le}
use lib.Seq.{length-take-le, take_all, drop-cons}
use lib.Dec.{ltb}
use borrow.Author.Tests.{lt-ltb, le-ltb}
use Rattle.lines.specs.Text.{Counts}
use Rattle.lines.specs.Writing.{last_digits, digits, spaced, items, answer, answer_room, Prints}
use Rattle.facts.specs.Writing.{written_at, Writes}
use Rattle.facts.proofs.Writing.{writes_length, writes_more}

pub counts : (n : ℕ) (xs : List ℕ) → n ≤ length xs → Counts n xs
counts n xs h = (h, sym (length-take-le n xs h))

-- ---- digits

pub digits_one : (n : ℕ) → n < 10 → digits n ≡ (48 + n) ∷ []
unfolding digits last_digits
digits_one n h = rw (lt-ltb n 10 h) refl

enough : (k n : ℕ) → n < 10 ^ suc k → last_digits (suc (suc k)) n ≡ last_digits (suc k) n
unfolding last_digits
enough zero n h = rw (lt-ltb n 10 h) refl
enough (suc k) n h =
    let p : 10 ^ suc (suc k) ≡ 10 ^ suc k * 10 = pow-suc 10 (suc k) in
    ap (λ (x : List ℕ). cond (ltb n 10) ((48 + n) ∷ []) (x ++ ((48 + n % 10) ∷ []))) (enough k (n / 10) (omega (arith, p)))

pub digits_more : (n : ℕ) → 10 ≤ n → n < 2 ^ 32 → digits n ≡ digits (n / 10) ++ ((48 + n % 10) ∷ [])
unfolding digits last_digits
digits_more n l h = rw (le-ltb n 10 l) (ap (λ (x : List ℕ). x ++ ((48 + n % 10) ∷ [])) (sym (enough 8 (n / 10) (omega arith))))

pub digits_longer : (n : ℕ) → 10 ≤ n → n < 2 ^ 32 → length (digits n) ≡ length (digits (n / 10)) + 1
digits_longer n l h = ap length (digits_more n l h) ∙ length-append (digits (n / 10)) ((48 + n % 10) ∷ [])

few : (k n : ℕ) → length (last_digits k n) ≤ k
unfolding last_digits
few zero n = omega arith
few (suc k) n = go (ltb n 10) refl (few k (n / 10))
  where
    go : (b : Bool) → ltb n 10 ≡ b → length (last_digits k (n / 10)) ≤ k → length (last_digits (suc k) n) ≤ suc k
    go true e ih = rw e (omega arith)
    go false e ih = rw (e, length-append) (omega arith)

pub length_digits : (n : ℕ) → length (digits n) ≤ 10
unfolding digits
length_digits n = few 10 n

-- ---- lists

module _ (l : List ℕ) (i : ℕ) where
  pub spaced_end : length l ≤ i → spaced (drop i l) ≡ []
  unfolding spaced
  spaced_end h = rw (drop_of_length-le l h) refl

  pub spaced_next : i < length l → spaced (drop i l) ≡ (32 ∷ []) ++ (digits (get_or l i 0) ++ spaced (drop (i + 1) l))
  unfolding spaced
  spaced_next h = rw (drop-cons l i 0 h, add-one) refl

  pub spaced_longer : i < length l → length (spaced (drop i l)) ≡ 1 + length (digits (get_or l i 0)) + length (spaced (drop (i + 1) l))
  spaced_longer h = ap length (spaced_next h) ∙ omega (arith, length-append (digits (get_or l i 0)) (spaced (drop (i + 1) l)))

pub items_none : (l : List ℕ) → length l ≡ 0 → items l ≡ []
unfolding items
items_none [] h = refl
items_none (n ∷ ns) h = absurd (let z : ⊥ = omega arith in z)

pub items_some : (l : List ℕ) → (length l ≡ 0 → ⊥) → items l ≡ digits (get_or l 0 0) ++ spaced (drop 1 l)
unfolding items
items_some [] h = absurd (h refl)
items_some (n ∷ ns) h = refl

pub items_longer : (l : List ℕ) → (length l ≡ 0 → ⊥) → length (items l) ≡ length (digits (get_or l 0 0)) + length (spaced (drop 1 l))
items_longer l h = ap length (items_some l h) ∙ length-append (digits (get_or l 0 0)) (spaced (drop 1 l))

spaced_short : (l : List ℕ) → length (spaced l) ≤ 11 * length l
unfolding spaced
spaced_short [] = omega arith
spaced_short (n ∷ ns) = omega (arith, spaced_short ns, length_digits n, length-append (digits n) (spaced ns))

pub items_short : (l : List ℕ) → length (items l) ≤ 11 * length l
unfolding items
items_short [] = omega arith
items_short (n ∷ ns) = omega (arith, spaced_short ns, length_digits n, length-append (digits n) (spaced ns))

-- all items but the first, as a slice pattern takes them
pub rest_is : (l : List ℕ) → take (length l - 1) (drop 1 l) ≡ drop 1 l
rest_is l = take_all (length l - 1) (drop 1 l) (omega (arith, length-drop 1 l))

-- room for what comes behind a text that was written
pub room_behind : {out : List ℕ} {at : ℕ} {xs : List ℕ} {e : ℕ} {mid : List ℕ} (n : ℕ) → at + length xs + n ≤ length out → Writes out at xs e mid → e + n ≤ length mid
room_behind n h w = omega (arith, w.end, writes_length (omega arith) w)

-- ---- the answer

module _ (n : ℕ) (cells functions : List ℕ) where
  pub answer_parts : answer n cells functions ≡ digits n ++ ((59 ∷ []) ++ (items cells ++ ((59 ∷ []) ++ (items functions ++ (10 ∷ [])))))
  unfolding answer
  answer_parts = refl

  pub answer_short : length (answer n cells functions) ≤ answer_room (length cells) (length functions)
  answer_short =
      let b = items functions ++ (10 ∷ []) in
      omega (
        arith,
        ap length answer_parts,
        length-append (digits n) ((59 ∷ []) ++ (items cells ++ ((59 ∷ []) ++ b))),
        length-append (items cells) ((59 ∷ []) ++ b),
        length-append (items functions) (10 ∷ []),
        length_digits n,
        items_short cells,
        items_short functions,
      )

-- its parts, one behind the other, where there is room for the longest
module _ (n : ℕ) (cells functions out : List ℕ) (h : answer_room (length cells) (length functions) ≤ length out) where
  pub room_0 : 0 + length (digits n) ≤ length out
  room_0 = omega (arith, h, length_digits n)

  module _ {e₁ : ℕ} {out₁ : List ℕ} (w₁ : Writes out 0 (digits n) e₁ out₁) where
    pub room_1 : e₁ + (3 + length (items cells) + length (items functions)) ≤ length out₁
    room_1 = room_behind _ (omega (arith, h, length_digits n, items_short cells, items_short functions)) w₁

    module _ {e₂ : ℕ} {out₂ : List ℕ} (w₂ : Writes out₁ e₁ (59 ∷ []) e₂ out₂) where
      pub room_2 : e₂ + (2 + length (items cells) + length (items functions)) ≤ length out₂
      room_2 = room_behind _ (omega (arith, room_1)) w₂

      module _ {e₃ : ℕ} {out₃ : List ℕ} (w₃ : Writes out₂ e₂ (items cells) e₃ out₃) where
        pub room_3 : e₃ + (2 + length (items functions)) ≤ length out₃
        room_3 = room_behind _ (omega (arith, room_2)) w₃

        module _ {e₄ : ℕ} {out₄ : List ℕ} (w₄ : Writes out₃ e₃ (59 ∷ []) e₄ out₄) where
          pub room_4 : e₄ + (1 + length (items functions)) ≤ length out₄
          room_4 = room_behind _ (omega (arith, room_3)) w₄

          module _ {e₅ : ℕ} {out₅ : List ℕ} (w₅ : Writes out₄ e₄ (items functions) e₅ out₅) where
            pub room_5 : e₅ + 1 ≤ length out₅
            room_5 = room_behind _ (omega (arith, room_4)) w₅

            pub wrote_all : {r : ℕ} {new : List ℕ} → Writes out₅ e₅ (10 ∷ []) r new → Writes out 0 (answer n cells functions) r new
            wrote_all w₆ =
                rw (answer_parts n cells functions)
                (writes_more room_0 w₁
                (writes_more (omega (arith, room_1)) w₂ (writes_more (omega (arith, room_2)) w₃ (writes_more (omega (arith, room_3)) w₄ (writes_more (omega (arith, room_4)) w₅ w₆)))))

-- a text at the start of a buffer, where there is room
pub prints : {room : Bool} {out text : List ℕ} {r : ℕ} {new : List ℕ} → room ≡ true → length text ≤ length out → Writes out 0 text r new → Prints room out text r new
unfolding written_at
prints {room} {out} {text} {r} {new} e h w =
    let l : r ≤ length new = omega (arith, w.end, writes_length (omega arith) w) in
    rw e (record { count = w.end ∙ zero-add (length text); bytes = w.bytes ∙ rw zero-add refl; inside = counts r new l })

pub prints_none : {room : Bool} {out text : List ℕ} → room ≡ false → Prints room out text 0 out
prints_none {room} {out} e = rw e (record { count = refl; bytes = refl; inside = counts 0 out (omega arith) })
