-- The refined cells of a table, one by one: they rise, and each adds the bytes of its difference from the last. Assumes nothing.
use mathlib.Core.Path.{◌≡◌, refl, sym, ap, ◌∙◌}
use mathlib.Core.Bool.{Bool, true, false}
use mathlib.Core.List.{List, [], ◌∷◌, ◌++◌, append_assoc, append-nil}
use Prim.Native.Nat.{ℕ, zero, suc, ◌+◌, ◌-◌, ◌<◌, ◌≤◌}
use native.Mathlib.Numerals.{add-one}
use native.Mathlib.Omega.{arith}
use lib.Dec.{eqb}
use lib.ListN.{length, get_or, length-append}
use borrow.Author.Tests.{eq-eqb, ne_eqb, eqb-true, eqb-false}
use Rattle.facts.proofs.Turns.{listed_none, listed_yes, listed_no}
use Rattle.codec.specs.Numbers.{encode_number, encode_behind, encode_rising}
use Rattle.codec.specs.Fitting.{number_limit, Behind, last, next, Rising, empty, first}
use Rattle.facts.specs.Writing.{Writes}
use Rattle.listing.specs.Judged.{last_of}
use Rattle.facts.proofs.Writing.{writes_none, writes_more, writes_length}
use Rattle.mesh.specs.Mesh.{refined}
use Rattle.listing.specs.Cells.{refined_below, refined_bytes}

-- ---- one more behind a list

last_snoc : (p : ℕ) (cs : List ℕ) (x : ℕ) → last_of p (cs ++ (x ∷ [])) ≡ x
unfolding last_of
last_snoc p [] x = refl
last_snoc p (c ∷ cs) x = last_snoc c cs x

behind_snoc : (p : ℕ) (cs : List ℕ) (x : ℕ) → encode_behind p (cs ++ (x ∷ [])) ≡ encode_behind p cs ++ encode_number (x - last_of p cs)
unfolding last_of encode_behind
behind_snoc p [] x = append-nil _
behind_snoc p (c ∷ cs) x = ap (λ (t : List ℕ). encode_number (c - p) ++ t) (behind_snoc c cs x) ∙ sym (append_assoc (encode_number (c - p)) _ _)

rising_snoc : (cs : List ℕ) (x : ℕ) → encode_rising (cs ++ (x ∷ [])) ≡ encode_rising cs ++ encode_number (x - last_of 0 cs)
unfolding last_of encode_rising encode_behind
rising_snoc [] x = let e : x - 0 ≡ x = omega arith in rw e (append-nil _)
rising_snoc (c ∷ cs) x = ap (λ (t : List ℕ). encode_number c ++ t) (behind_snoc c cs x) ∙ sym (append_assoc (encode_number c) _ _)

behind_more : {p : ℕ} {cs : List ℕ} (x : ℕ) → Behind p cs → last_of p cs < x → x < number_limit → Behind p (cs ++ (x ∷ []))
unfolding last_of
behind_more x last h b = next h (omega arith) last
behind_more x (next l d hs) h b = next l d (behind_more x hs h b)

rising_more : {cs : List ℕ} (x : ℕ) → Rising cs → ((length cs ≡ 0 → ⊥) → last_of 0 cs < x) → x < number_limit → Rising (cs ++ (x ∷ []))
unfolding last_of
rising_more x empty h b = first b last
rising_more x (first d hs) h b = first d (behind_more x hs (h (λ e. omega arith)) b)

-- ---- the refined cells below i

module _ (table : List ℕ) where
  pub refined_none : refined_below table 0 ≡ []
  unfolding refined_below
  refined_none = listed_none (refined table)

  pub refined_yes : (i : ℕ) → get_or table i 0 ≡ 2 → refined_below table (i + 1) ≡ refined_below table i ++ (i ∷ [])
  unfolding refined_below refined
  refined_yes i e = listed_yes (refined table) i (eq-eqb (get_or table i 0) 2 e)

  pub refined_no : (i : ℕ) → (get_or table i 0 ≡ 2 → ⊥) → refined_below table (i + 1) ≡ refined_below table i
  unfolding refined_below refined
  refined_no i e = listed_no (refined table) i (ne_eqb (get_or table i 0) 2 e)

  pub count_yes : (i : ℕ) → get_or table i 0 ≡ 2 → length (refined_below table (i + 1)) ≡ length (refined_below table i) + 1
  count_yes i e = ap length (refined_yes i e) ∙ length-append (refined_below table i) (i ∷ [])

  pub bytes_none : refined_bytes table 0 ≡ []
  unfolding refined_bytes encode_rising
  bytes_none = rw refined_none refl

  pub bytes_yes : (i : ℕ) → get_or table i 0 ≡ 2 → refined_bytes table (i + 1) ≡ refined_bytes table i ++ encode_number (i - last_of 0 (refined_below table i))
  unfolding refined_bytes
  bytes_yes i e = ap encode_rising (refined_yes i e) ∙ rising_snoc (refined_below table i) i

  pub bytes_no : (i : ℕ) → (get_or table i 0 ≡ 2 → ⊥) → refined_bytes table (i + 1) ≡ refined_bytes table i
  unfolding refined_bytes
  bytes_no i e = ap encode_rising (refined_no i e)

  pub last_none : last_of 0 (refined_below table 0) ≡ 0
  unfolding last_of
  last_none = rw refined_none refl

  pub last_yes : (i : ℕ) → get_or table i 0 ≡ 2 → last_of 0 (refined_below table (i + 1)) ≡ i
  last_yes i e = ap (last_of 0) (refined_yes i e) ∙ last_snoc 0 (refined_below table i) i

  pub last_no : (i : ℕ) → (get_or table i 0 ≡ 2 → ⊥) → last_of 0 (refined_below table (i + 1)) ≡ last_of 0 (refined_below table i)
  last_no i e = ap (last_of 0) (refined_no i e)

  -- the bytes only grow
  grow : (i : ℕ) → length (refined_bytes table i) ≤ length (refined_bytes table (i + 1))
  grow i = go (eqb (get_or table i 0) 2) refl
    where
      go : (b : Bool) → eqb (get_or table i 0) 2 ≡ b → length (refined_bytes table i) ≤ length (refined_bytes table (i + 1))
      go true e = rw (bytes_yes i (eqb-true (get_or table i 0) 2 e), length-append (refined_bytes table i) (encode_number (i - last_of 0 (refined_below table i)))) (omega arith)
      go false e = rw (bytes_no i (eqb-false (get_or table i 0) 2 e)) (omega arith)

  pub grown : (i d : ℕ) → length (refined_bytes table i) ≤ length (refined_bytes table (i + d))
  grown i zero = let e : i + 0 ≡ i = omega arith in rw e (omega arith)
  grown i (suc d) = let e : i + suc d ≡ i + d + 1 = omega arith in rw e (omega (arith, grow (i + d), grown i d))

  -- they rise
  pub refined_rising : (n : ℕ) → n ≤ number_limit → Rising (refined_below table n) × ((length (refined_below table n) ≡ 0 → ⊥) → last_of 0 (refined_below table n) < n)
  refined_rising zero h = rw refined_none (empty, λ z. absurd (z refl))
  refined_rising (suc i) h = go (eqb (get_or table i 0) 2) refl (refined_rising i (omega arith))
    where
      go : (b : Bool) → eqb (get_or table i 0) 2 ≡ b → Rising (refined_below table i) × ((length (refined_below table i) ≡ 0 → ⊥) → last_of 0 (refined_below table i) < i)
          → Rising (refined_below table (suc i)) × ((length (refined_below table (suc i)) ≡ 0 → ⊥) → last_of 0 (refined_below table (suc i)) < suc i)
      go true e w =
          let q : get_or table i 0 ≡ 2 = eqb-true (get_or table i 0) 2 e in
          let r : Rising (refined_below table (i + 1)) = rw (refined_yes i q) (rising_more i w.0 w.1 (omega arith)) in
          let l : last_of 0 (refined_below table (i + 1)) < i + 1 = omega (arith, last_yes i q) in
          (rw add-one at r, λ z. rw add-one at l)
      go false e w =
          let q : (get_or table i 0 ≡ 2 → ⊥) = eqb-false (get_or table i 0) 2 e in
          let r : Rising (refined_below table (i + 1)) = rw (refined_no i q) w.0 in
          let l : ((length (refined_below table (i + 1)) ≡ 0 → ⊥) → last_of 0 (refined_below table (i + 1)) < i + 1) =
          λ z. let u : last_of 0 (refined_below table i) < i = w.1 (rw (refined_no i q) at z) in omega (arith, last_no i q) in
          (rw add-one at r, rw add-one at l)

-- ---- a turn of the loops

module _ (table : List ℕ) (i last : ℕ) (e : get_or table i 0 ≡ 2) (l : last ≡ last_of 0 (refined_below table i)) where
  bytes_more : refined_bytes table (i + 1) ≡ refined_bytes table i ++ encode_number (i - last)
  bytes_more = rw l (bytes_yes table i e)

  pub length_more : length (refined_bytes table (i + 1)) ≡ length (refined_bytes table i) + length (encode_number (i - last))
  length_more = ap length bytes_more ∙ length-append (refined_bytes table i) (encode_number (i - last))

  module _ (from at : ℕ) (out₀ out : List ℕ) (h : i < length table) (room : from + length (refined_bytes table (length table)) ≤ length out₀)
      (w : Writes out₀ from (refined_bytes table i) at out) where
    fits : from + length (refined_bytes table i) + length (encode_number (i - last)) ≤ length out₀
    fits =
        let e : i + 1 + (length table - (i + 1)) ≡ length table = omega arith in
        let g : length (refined_bytes table (i + 1)) ≤ length (refined_bytes table (length table)) = rw e at (grown table (i + 1) (length table - (i + 1))) in
        omega (arith, length_more)

    pub has_room : at + length (encode_number (i - last)) ≤ length out
    has_room = omega (arith, fits, w.end, writes_length {out = out₀} (omega (arith, fits)) w)

    pub write_turn : (r : ℕ) (new : List ℕ) → Writes out at (encode_number (i - last)) r new → Writes out₀ from (refined_bytes table (i + 1)) r new
    write_turn r new v = rw bytes_more (writes_more {out = out₀} (omega (arith, fits)) w v)

pub write_start : (table out : List ℕ) (from : ℕ) → Writes out from (refined_bytes table 0) from out
write_start table out from = rw (bytes_none table) (writes_none out from)
