-- The numbers that changed, one turn of a loop at a time, and the outcomes of a call. Assumes nothing.
use mathlib.Core.Path.{◌≡◌, refl, sym, ap, subst, ◌∙◌}
use mathlib.Core.Bool.{Bool, true, false, not, beq, ◌&&◌, and-true, and-false}
use mathlib.Core.List.{List, [], ◌++◌}
use Prim.Native.Nat.{ℕ, zero, suc, ◌+◌, ◌-◌, ◌≤◌, ◌<◌}
use native.Mathlib.Nat.{le_refl, add-zero, add-sub_of_le}
use native.Mathlib.Omega.{arith}
use mir.Val.{bool_byte}
use lib.Dec.{eqb, eqb→eq, eqb_refl}
use lib.ListN.{length, get_or, take, drop, set}
use lib.Pointwise.{pointwise, bytes_decides}
use lib.Seq.{get_or-take, get_or-drop, drop-append-add, drop-drop}
use borrow.Author.Tests.{ne_eqb}
use Rattle.facts.proofs.Tests.{T_true, true_T}
use Rattle.facts.proofs.Turns.{listed_none, listed_no, listed_longer, listed_le, listed_short, listed_write}
use Rattle.mesh.specs.Mesh.{refined}
use Rattle.outcomes.specs.Calls.{changed, written}
use Rattle.changes.specs.Changes.{ListedTo}

beq_same : (b : Bool) → beq b b ≡ true
beq_same true = refl
beq_same false = refl

module _ (old new : List ℕ) where
  -- the bytes at a number, tested as the code tests them
  abbrev pub differs : ℕ → Bool
  differs x = not (beq (eqb (get_or old x 0) 2) (eqb (get_or new x 0) 2))

  pub changed_none : changed 0 old new ≡ []
  unfolding changed
  changed_none = listed_none _

  -- none of them is listed at the beginning
  pub none_listed : (list : List ℕ) → ListedTo 0 old new 0 list
  unfolding written
  none_listed list = record { count = ap length (sym changed_none); begins = rw changed_none refl }

  pub changed_no : (i : ℕ) → differs i ≡ false → changed (i + 1) old new ≡ changed i old new
  unfolding changed refined
  changed_no = listed_no differs

  pub changed_longer : (i : ℕ) → differs i ≡ true → length (changed (i + 1) old new) ≡ length (changed i old new) + 1
  unfolding changed refined
  changed_longer = listed_longer differs

  -- one number more, as it is counted
  pub counted : (i : ℕ) (b : Bool) {n : ℕ} → b ≡ differs i → n ≡ bool_byte b → length (changed (i + 1) old new) ≡ length (changed i old new) + n
  counted i true e v = changed_longer i (sym e) ∙ omega arith
  counted i false e v = ap length (changed_no i (sym e)) ∙ omega arith

  pub changed_le : (i m : ℕ) → i ≤ m → length (changed i old new) ≤ length (changed m old new)
  unfolding changed refined
  changed_le = listed_le differs

  pub changed_short : (n : ℕ) → length (changed n old new) ≤ n
  unfolding changed
  changed_short = listed_short _

  pub changed_write : (ls ls₀ : List ℕ) (n i : ℕ) → n ≡ length (changed i old new) → ls ≡ changed i old new ++ drop n ls₀
      → n < length ls₀ → differs i ≡ true → set ls n i ≡ changed (i + 1) old new ++ drop (n + 1) ls₀
  unfolding changed refined
  changed_write = listed_write differs

  -- ---- blocks

  alike : (i : ℕ) → get_or old i 0 ≡ get_or new i 0 → differs i ≡ false
  alike i e = rw (e, beq_same (eqb (get_or new i 0) 2))

  still : (from n : ℕ) → ((i : ℕ) → from ≤ i → i < from + n → get_or old i 0 ≡ get_or new i 0) → changed (from + n) old new ≡ changed from old new
  still from zero h = ap (λ (j : ℕ). changed j old new) (add-zero from)
  still from (suc n) h =
      let e : from + suc n ≡ from + n + 1 = omega arith in
      rw e (changed_no (from + n) (alike (from + n) (h (from + n) (omega arith) (omega arith))) ∙ still from n (λ i l m. h i l (omega arith)))

  -- a byte of a part of a table
  part : (xs : List ℕ) (from n i : ℕ) → from ≤ i → i < from + n → get_or (take n (drop from xs)) (i - from) 0 ≡ get_or xs i 0
  part xs from n i l m = get_or-take n (drop from xs) (i - from) 0 (omega arith) ∙ get_or-drop from xs (i - from) 0 ∙ ap (λ (j : ℕ). get_or xs j 0) (add-sub_of_le l)

  -- equal bytes change nothing
  pub changed_same : (from to : ℕ) → from ≤ to → pointwise eqb (take (to - from) (drop from old)) (take (to - from) (drop from new)) ≡ true
      → changed to old new ≡ changed from old new
  changed_same from to l e =
      let n = to - from in
      let q = (bytes_decides (take n (drop from old)) (take n (drop from new))).0 e in
      rw (add-sub_of_le l) at (still from n (λ i k m. sym (part old from n i k m) ∙ ap (λ (xs : List ℕ). get_or xs (i - from) 0) q ∙ part new from n i k m))

  -- ---- blocks of which no number changed

  -- one number more of them
  still_more : (from n : ℕ) (b : Bool) → differs (from + n) ≡ b → length (changed (from + n + 1) old new) ≡ length (changed from old new)
      → (length (changed (from + n) old new) ≡ length (changed from old new) → changed (from + n) old new ≡ changed from old new)
      → changed (from + n + 1) old new ≡ changed from old new
  still_more from n true d h i = absurd (omega (arith, h, changed_longer (from + n) d, changed_le from (from + n) (omega arith)))
  still_more from n false d h i = changed_no (from + n) d ∙ i (sym (ap length (changed_no (from + n) d)) ∙ h)

  fixed : (from n : ℕ) → length (changed (from + n) old new) ≡ length (changed from old new) → changed (from + n) old new ≡ changed from old new
  fixed from zero h = ap (λ (j : ℕ). changed j old new) (add-zero from)
  fixed from (suc n) h =
      let e : from + suc n ≡ from + n + 1 = omega arith in
      rw e (still_more from n (differs (from + n)) refl (rw e at h) (fixed from n))

  -- as many after them as before: the same
  pub changed_fixed : (from to : ℕ) → from ≤ to → eqb (length (changed from old new)) (length (changed to old new)) ≡ true → changed to old new ≡ changed from old new
  changed_fixed from to l e =
      rw (add-sub_of_le l) at (fixed from (to - from) (rw (add-sub_of_le l) (sym (eqb→eq _ _ (true_T (eqb (length (changed from old new)) (length (changed to old new))) e)))))

  pub still_none : (from : ℕ) → true ≡ eqb (length (changed from old new)) (length (changed from old new))
  still_none from = sym (T_true (eqb (length (changed from old new)) (length (changed from old new))) (eqb_refl (length (changed from old new))))

  -- one turn of the loop that tests them
  pub still_turn : (from i : ℕ) (b : Bool) {ok : Bool} → from ≤ i → b ≡ differs i → ok ≡ eqb (length (changed from old new)) (length (changed i old new))
      → (ok && not b) ≡ eqb (length (changed from old new)) (length (changed (i + 1) old new))
  still_turn from i true {ok} l e q =
      rw (changed_longer i (sym e)) (and-false ok ∙ sym (ne_eqb (length (changed from old new)) (length (changed i old new) + 1) (λ z. absurd (omega (arith, z, changed_le from i l)))))
  still_turn from i false {ok} l e q = and-true ok ∙ q ∙ ap (λ (xs : List ℕ). eqb (length (changed from old new)) (length xs)) (sym (changed_no i (sym e)))

  pub listed_behind : {from n : ℕ} {list : List ℕ} → ListedTo from old new n list → list ≡ changed from old new ++ drop n list
  unfolding written
  listed_behind {from} {n} {list} L = L.begins ∙ ap (λ (j : ℕ). changed from old new ++ drop j list) (sym L.count)

-- a longer list written over a shorter one hides it
over : (a b list : List ℕ) → length a ≤ length b → written b (written a list) ≡ written b list
unfolding written
over a b list l = ap (λ (x : List ℕ). b ++ x)
    (subst (λ (n : ℕ). drop n (a ++ drop (length a) list) ≡ drop n list) (add-sub_of_le l)
    (drop-append-add a (drop (length a) list) (length b - length a) ∙ drop-drop (length b - length a) (length a) list))

-- what was listed up to a block, and what the block adds
module _ (old new list₀ : List ℕ) (from : ℕ) {list : List ℕ} (e : list ≡ written (changed from old new) list₀) where
  pub block_listed : {n : ℕ} → n ≡ length (changed from old new) → ListedTo from old new n list
  block_listed c = record { count = c; begins = e ∙ sym (over (changed from old new) (changed from old new) list₀ (le_refl _)) ∙ ap (written (changed from old new)) (sym e) }

  pub block_more : (to : ℕ) {list' : List ℕ} → from ≤ to → list' ≡ written (changed to old new) list → list' ≡ written (changed to old new) list₀
  block_more to l d = d ∙ ap (written (changed to old new)) e ∙ over (changed from old new) (changed to old new) list₀ (changed_le old new from to l)
