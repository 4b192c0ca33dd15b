-- The words of the active cells, cell by cell, and how many they are. Assumes nothing.
use mathlib.Core.Path.{◌≡◌, refl, sym, ap, ◌∙◌}
use mathlib.Core.Bool.{Bool, true, false, cond}
use mathlib.Core.List.{List, [], ◌∷◌, ◌++◌, append_assoc, append-nil, flat_map}
use Prim.Native.Nat.{ℕ, zero, suc, ◌+◌, ◌-◌, ◌*◌, ◌≤◌, ◌<◌}
use native.Mathlib.Nat.{add-zero}
use native.Mathlib.Omega.{arith}
use lib.IntN.{ℤ}
use lib.ListN.{length, get_or, length-append}
use borrow.Author.Tests.{eq-eqb, ne_eqb, lt-ltb, le-ltb}
use Rattle.facts.specs.Bounded.{sum}
use Rattle.facts.specs.Numbers.{listed}
use Rattle.facts.specs.Writing.{Writes}
use Rattle.facts.proofs.Turns.{listed_none, listed_yes, listed_no, listed_longer, listed_le, listed_short}
use Rattle.facts.proofs.Counting.{listed_next}
use Rattle.facts.proofs.Writing.{writes_more, writes_front, writes_length}
use Rattle.grid.specs.declared.Plan.{Plan}
use Rattle.grid.specs.declared.Place.{Place}
use Rattle.grid.specs.Plan.{cell_total, cell_place}
use Rattle.mesh.specs.Mesh.{active, tally}
use Rattle.tables.specs.Entries.{byte_is}
use Rattle.projector.specs.declared.Corner.{Corner}
use Rattle.projector.specs.declared.CornersAnswer.{CornersAnswer}
use Rattle.projector.specs.Projector.{corner_of, corners_of, corners, three_words, words_of, CornersOutcome, refused, filled}

-- ---- lists made of an entry's lists

module _ {A B : Type 0} (f : A → List B) where
  pub flat_append : (xs ys : List A) → flat_map f (xs ++ ys) ≡ flat_map f xs ++ flat_map f ys
  unfolding flat_map
  flat_append [] ys = refl
  flat_append (x ∷ xs) ys = ap (λ (zs : List B). f x ++ zs) (flat_append xs ys) ∙ sym (append_assoc (f x) (flat_map f xs) (flat_map f ys))

  pub flat_cons : (x : A) (xs : List A) → flat_map f (x ∷ xs) ≡ f x ++ flat_map f xs
  unfolding flat_map
  flat_cons x xs = refl

  pub flat_one : (x : A) → flat_map f (x ∷ []) ≡ f x
  unfolding flat_map
  flat_one x = append-nil (f x)

  -- n entries each
  pub flat_length : (n : ℕ) → ((x : A) → length (f x) ≡ n) → (xs : List A) → length (flat_map f xs) ≡ n * length xs
  unfolding flat_map
  flat_length n e [] = omega arith
  flat_length n e (x ∷ xs) = length-append (f x) (flat_map f xs) ∙ rw (e x, flat_length n e xs) (omega arith)

pub words_length : (cs : List Corner) → length (words_of cs) ≡ 3 * length cs
words_length cs = flat_length three_words 3 (λ c. refl) cs

-- ---- the four corners of a cell

module _ (p : Plan) (functions : List ℕ) (heights : List ℤ) (c : Place) where
  pub four_written : (k₁ k₂ k₃ k₄ : Corner) {out o₁ o₂ o₃ new : List ℕ} {at r₁ r₂ r₃ r : ℕ} → at + 12 ≤ length out
      → k₁ ≡ corner_of p functions heights c 0 0 → k₂ ≡ corner_of p functions heights c 1 0 → k₃ ≡ corner_of p functions heights c 0 1 → k₄ ≡ corner_of p functions heights c 1 1
      → Writes out at (three_words k₁) r₁ o₁ → Writes o₁ r₁ (three_words k₂) r₂ o₂ → Writes o₂ r₂ (three_words k₃) r₃ o₃ → Writes o₃ r₃ (three_words k₄) r new
      → Writes out at (words_of (corners_of p functions heights c)) r new
  unfolding corners_of flat_map
  four_written k₁ k₂ k₃ k₄ h e₁ e₂ e₃ e₄ w₁ w₂ w₃ w₄ =
      rw (← e₁, ← e₂, ← e₃, ← e₄) (writes_more (omega arith) (writes_more (omega arith) (writes_more (omega arith) w₁ w₂) w₃) w₄)

-- ---- the active cells below i

pub listed_tally : (n : ℕ) (p : ℕ → Bool) → length (listed n p) ≡ tally n p
unfolding tally sum
listed_tally zero p = unfold listed in refl
listed_tally (suc n) p = listed_next n p ∙ ap (λ (k : ℕ). k + cond (p n) 1 0) (listed_tally n p)

-- those from c on, where c is one of them
more : (q : ℕ → Bool) (c n : ℕ) (b : Bool) → q n ≡ b → (rest : List ℕ) → listed n q ≡ listed c q ++ (c ∷ rest)
    → (new : List ℕ) × (listed (n + 1) q ≡ listed c q ++ (c ∷ new))
more q c n true e rest h = (rest ++ (n ∷ []), listed_yes q n e ∙ ap (λ (l : List ℕ). l ++ (n ∷ [])) h ∙ append_assoc (listed c q) (c ∷ rest) (n ∷ []))
more q c n false e rest h = (rest, listed_no q n e ∙ h)

pub listed_from : (q : ℕ → Bool) (c d : ℕ) → q c ≡ true → (rest : List ℕ) × (listed (c + 1 + d) q ≡ listed c q ++ (c ∷ rest))
listed_from q c zero e = ([], rw (add-zero (c + 1)) (listed_yes q c e))
listed_from q c (suc d) e =
    let h = listed_from q c d e in
    let s : c + 1 + suc d ≡ c + 1 + d + 1 = omega arith in
    rw s (more q c (c + 1 + d) (q (c + 1 + d)) refl h.0 h.1)

module _ (p : Plan) (functions : List ℕ) (heights : List ℤ) (cells : List ℕ) where
  abbrev corners_on : ℕ → List Corner
  corners_on c = corners_of p functions heights (cell_place p c)

  pub words_below : ℕ → List ℕ
  words_below i = words_of (flat_map corners_on (listed i (active cells)))

  pub words_none : words_below 0 ≡ []
  unfolding words_below flat_map
  words_none = rw (listed_none (active cells)) refl

  pub words_yes : (i : ℕ) → get_or cells i 0 ≡ 1 → words_below (i + 1) ≡ words_below i ++ words_of (corners_on i)
  unfolding words_below active
  words_yes i e =
      ap (λ (l : List ℕ). words_of (flat_map corners_on l)) (listed_yes (active cells) i (eq-eqb _ _ e))
      ∙ ap words_of (flat_append corners_on (listed i (active cells)) (i ∷ []))
      ∙ flat_append three_words (flat_map corners_on (listed i (active cells))) (flat_map corners_on (i ∷ []))
      ∙ ap (λ (l : List Corner). words_below i ++ words_of l) (flat_one corners_on i)

  pub words_no : (i : ℕ) → (get_or cells i 0 ≡ 1 → ⊥) → words_below (i + 1) ≡ words_below i
  unfolding words_below active
  words_no i e = ap (λ (l : List ℕ). words_of (flat_map corners_on l)) (listed_no (active cells) i (ne_eqb _ _ e))

  pub words_all : words_below (cell_total p) ≡ words_of (corners p functions heights cells)
  unfolding words_below corners
  words_all = refl

  -- the words of an active cell stand after those of the active cells before it
  pub words_from : (c : ℕ) → c < cell_total p → active cells c ≡ true
      → (rest : List ℕ) × (words_of (corners p functions heights cells) ≡ words_below c ++ (words_of (corners_on c) ++ words_of (flat_map corners_on rest)))
  unfolding corners words_below
  words_from c l e =
      let (rest, h) = listed_from (active cells) c (cell_total p - 1 - c) e in
      let n : c + 1 + (cell_total p - 1 - c) ≡ cell_total p = omega arith in
      let split : listed (cell_total p) (active cells) ≡ listed c (active cells) ++ (c ∷ rest) = rw n at h in (
        rest,
        ap (λ (l : List ℕ). words_of (flat_map corners_on l)) split
            ∙ ap words_of (flat_append corners_on (listed c (active cells)) (c ∷ rest))
            ∙ flat_append three_words (flat_map corners_on (listed c (active cells))) (flat_map corners_on (c ∷ rest))
            ∙ ap (λ (l : List ℕ). words_below c ++ l) (ap words_of (flat_cons corners_on c rest) ∙ flat_append three_words (corners_on c) (flat_map corners_on rest)),
      )

  four : (c : ℕ) → length (corners_on c) ≡ 4
  unfolding corners_of
  four c = refl

  -- four corners and twelve words for a cell
  pub corners_length : length (corners p functions heights cells) ≡ 4 * tally (cell_total p) (active cells)
  unfolding corners
  corners_length = flat_length corners_on 4 four (listed (cell_total p) (active cells)) ∙ rw (listed_tally (cell_total p) (active cells)) refl

  pub twelve : (i : ℕ) → length (words_below i) ≡ 12 * length (listed i (active cells))
  unfolding words_below
  twelve i = words_length (flat_map corners_on (listed i (active cells))) ∙ rw (flat_length corners_on 4 four (listed i (active cells))) (omega arith)

  pub words_count : length (words_of (corners p functions heights cells)) ≡ 12 * tally (cell_total p) (active cells)
  words_count = words_length (corners p functions heights cells) ∙ rw corners_length (omega arith)

  pub kept : (i : ℕ) {out new : List ℕ} {at : ℕ} → i ≤ cell_total p → length (words_of (corners p functions heights cells)) ≤ length out
      → Writes out 0 (words_below i) at new → length new ≡ length out
  kept i {out} {new} l h w =
      let all = listed_le (active cells) i (cell_total p) l in
      writes_length {out = out} (omega (arith, twelve i, words_count, listed_tally (cell_total p) (active cells), all, h)) w

  -- one cell more fits where all do
  pub room : (i n : ℕ) → i < cell_total p → get_or cells i 0 ≡ 1 → length (words_of (corners p functions heights cells)) ≤ n → length (words_below i) + 12 ≤ n
  unfolding active
  room i n l e h =
      let more = listed_longer (active cells) i (eq-eqb _ _ e) in
      let all = listed_le (active cells) (i + 1) (cell_total p) (omega arith) in
      omega (arith, twelve i, words_count, listed_tally (cell_total p) (active cells), more, all, h)

  -- and then comes after the others
  pub turn : (i : ℕ) {c : Place} {out mid new : List ℕ} {at e : ℕ} → i < cell_total p → get_or cells i 0 ≡ 1 → c ≡ cell_place p i
      → length (words_of (corners p functions heights cells)) ≤ length out
      → Writes out 0 (words_below i) at mid → Writes mid at (words_of (corners_of p functions heights c)) e new → Writes out 0 (words_below (i + 1)) e new
  turn i {out = out} l g q h v w = rw (words_yes i g) (writes_more (omega (arith, room i (length out) l g h)) v (rw q at w))

-- ---- how many cells are active

pub counted : (p : Plan) (cells : List ℕ) {n : ℕ} → length cells ≡ cell_total p → n ≡ tally (length cells) (byte_is cells 1) → n ≡ tally (cell_total p) (active cells)
unfolding byte_is active
counted p cells e q = q ∙ ap (λ (m : ℕ). tally m (byte_is cells 1)) e

pub tally_small : (n : ℕ) (p : ℕ → Bool) → tally n p ≤ n
tally_small n p = omega (arith, listed_tally n p, listed_short p n)

-- ---- the outcome

module _ (cs : List Corner) (out : List ℕ) where
  pub too_short : {r : CornersAnswer} → length out < length (words_of cs) → r ≡ record { number = 10; corners = 0 }
      → ◌≡◌ {A = CornersOutcome} (record { answer = r; out = out }) (filled cs out)
  unfolding filled refused
  too_short h e = rw (lt-ltb (length out) (length (words_of cs)) h, e) refl

  pub all_written : {n e : ℕ} {new : List ℕ} → length (words_of cs) ≤ length out → n ≡ length cs → Writes out 0 (words_of cs) e new
      → ◌≡◌ {A = CornersOutcome} (record { answer = record { number = 0; corners = n }; out = new }) (filled cs out)
  unfolding filled
  all_written h q w = rw (le-ltb (length out) (length (words_of cs)) h, q, writes_front w) refl
