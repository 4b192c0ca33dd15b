-- The corner numbers behind the cells of a file: read back as written, only what is written so is read, and both at places of bytes.
-- Assumes nothing.
use mathlib.Core.Path.{◌≡◌, refl, sym, ap, ◌∙◌}
use mathlib.Core.Bool.{Bool, true, false, cond}
use mathlib.Core.List.{List, [], ◌∷◌, ◌++◌, append-nil}
use Prim.Native.Nat.{ℕ, ◌+◌, ◌≤◌, ◌<◌}
use native.Mathlib.Omega.{arith}
use lib.Dec.{eqb, eqb→eq}
use lib.ListN.{length, get_or, drop, length-append, length-drop, drop_of_length-le}
use Rattle.facts.proofs.Tests.{true_T, and_l, and_r}
use Rattle.grid.specs.declared.Plan.{Plan}
use Rattle.codec.specs.Numbers.{bad, Many, bad_many, got_many, encode_number, encode_numbers, decode_groups, decode_number, front, onward, decode_numbers}
use Rattle.codec.specs.Fitting.{Small, none, more}
use Rattle.codec.specs.Steps.{Found}
use Rattle.codec.proofs.Numbers.{none_many, short}
use Rattle.codec.proofs.Lists.{numbers_round, numbers_canonical}
use Rattle.files.specs.File.{no_corners, encode_corners, not_zeros, decode_corners}
use Rattle.files.specs.Steps.{CornersFound}

-- ---- both are 0, or not

module _ (a b : ℕ) where
  none_across : no_corners a b ≡ true → a ≡ 0
  unfolding no_corners
  none_across e = eqb→eq a 0 (and_l (eqb a 0) (eqb b 0) (true_T _ e))

  none_up : no_corners a b ≡ true → b ≡ 0
  unfolding no_corners
  none_up e = eqb→eq b 0 (and_r (eqb a 0) (eqb b 0) (true_T _ e))

  pub bytes_none : no_corners a b ≡ true → encode_corners a b ≡ []
  unfolding encode_corners
  bytes_none e = rw e refl

  pub bytes_both : no_corners a b ≡ false → encode_corners a b ≡ encode_number a ++ encode_number b
  unfolding encode_corners encode_numbers
  bytes_both e = rw (e, append-nil (encode_number b)) refl

  pub length_both : no_corners a b ≡ false → length (encode_corners a b) ≡ length (encode_number a) + length (encode_number b)
  length_both e = ap length (bytes_both e) ∙ length-append (encode_number a) (encode_number b)

  -- no more bytes than both numbers have
  pub corners_within : length (encode_corners a b) ≤ length (encode_number a) + length (encode_number b)
  corners_within = go (no_corners a b) refl
    where
      go : (z : Bool) → no_corners a b ≡ z → length (encode_corners a b) ≤ length (encode_number a) + length (encode_number b)
      go true e = rw (bytes_none e) (omega arith)
      go false e = omega (arith, length_both e)

  pub corners_short : length (encode_corners a b) ≤ 6
  corners_short = omega (arith, corners_within, short a, short b)

-- a plan's
abbrev pub corner_bytes : Plan → List ℕ
corner_bytes p = encode_corners p.corners_across p.corners_up

-- where bytes are left, two numbers are read
some : (s : List ℕ) → 0 < length s → decode_corners s ≡ not_zeros (decode_numbers 2 s)
unfolding decode_corners
some [] h = absurd (let w : ⊥ = omega arith in w)
some (b ∷ s) h = refl

-- ---- written, then read

two_read : (s ns rest : List ℕ) → decode_numbers 2 s ≡ got_many ns rest → decode_corners s ≡ not_zeros (got_many ns rest)
unfolding decode_corners decode_numbers decode_number decode_groups onward
two_read [] ns rest e = none_many e
two_read (b ∷ s) ns rest e = ap not_zeros e

pub corners_round : (a b : ℕ) → Small (a ∷ b ∷ []) → decode_corners (encode_corners a b) ≡ got_many (a ∷ b ∷ []) []
unfolding encode_corners decode_corners not_zeros
corners_round a b s = go (no_corners a b) refl
  where
    go : (z : Bool) → no_corners a b ≡ z → decode_corners (cond z [] (encode_numbers (a ∷ b ∷ []))) ≡ got_many (a ∷ b ∷ []) []
    go true e = rw (none_across a b e, none_up a b e) refl
    go false e =
        let r : decode_numbers 2 (encode_numbers (a ∷ b ∷ [])) ≡ got_many (a ∷ b ∷ []) [] =
        ap (decode_numbers 2) (sym (append-nil (encode_numbers (a ∷ b ∷ [])))) ∙ numbers_round [] s in
        two_read (encode_numbers (a ∷ b ∷ [])) (a ∷ b ∷ []) [] r ∙ rw e refl

-- ---- only what is written so is read

pub record CornersOf (s ns rest : List ℕ) : Type 0 where
  pub bytes : s ≡ encode_corners (get_or ns 0 0) (get_or ns 1 0) ++ rest
  pub small : Small (get_or ns 0 0 ∷ get_or ns 1 0 ∷ [])

pair : (ns : List ℕ) → length ns ≡ 2 → ns ≡ get_or ns 0 0 ∷ get_or ns 1 0 ∷ []
pair [] e = absurd (omega arith)
pair (a ∷ []) e = absurd (omega arith)
pair (a ∷ b ∷ []) e = refl
pair (a ∷ b ∷ c ∷ t) e = absurd (omega arith)

pub corners_canonical : (s ns rest : List ℕ) → decode_corners s ≡ got_many ns rest → CornersOf s ns rest
unfolding decode_corners not_zeros encode_corners no_corners
corners_canonical [] ns rest e =
    let a : 0 ∷ 0 ∷ [] ≡ ns = cc in
    let r : [] ≡ rest = cc in
    rw (← a, ← r) (record { bytes = refl; small = more {n = 0} (omega arith) (more {n = 0} (omega arith) none) })
corners_canonical (b ∷ s) ns rest e = on_numbers (decode_numbers 2 (b ∷ s)) refl
  where
    on_test : (ms r : List ℕ) → decode_numbers 2 (b ∷ s) ≡ got_many ms r → (z : Bool) → no_corners (get_or ms 0 0) (get_or ms 1 0) ≡ z
        → cond z bad_many (got_many ms r) ≡ got_many ns rest → CornersOf (b ∷ s) ns rest
    on_test ms r q true z w = none_many w
    on_test ms r q false z w =
        let x : ms ≡ ns = cc in
        let y : r ≡ rest = cc in
        let i = numbers_canonical 2 (b ∷ s) ms r q in
        let m : ms ≡ get_or ms 0 0 ∷ get_or ms 1 0 ∷ [] = pair ms i.count in
        rw (← x, ← y) (record { bytes = rw z (i.bytes ∙ ap (λ (t : List ℕ). encode_numbers t ++ r) m); small = rw m at i.small })

    on_numbers : (m : Many) → decode_numbers 2 (b ∷ s) ≡ m → CornersOf (b ∷ s) ns rest
    on_numbers bad_many q = none_many (rw q at e)
    on_numbers (got_many ms r) q = on_test ms r q (no_corners (get_or ms 0 0) (get_or ms 1 0)) refl (rw q at e)

-- ---- read at places

pub none_left : (s : List ℕ) (at : ℕ) → at ≤ length s → length s ≤ at → CornersFound s at 0 0 at
unfolding decode_corners
none_left s at i l = record { reads = rw (drop_of_length-le s l) refl; inside = i }

module _ (s : List ℕ) (at : ℕ) (h : at < length s) where
  reads_two : decode_corners (drop at s) ≡ not_zeros (decode_numbers 2 (drop at s))
  reads_two = some (drop at s) (omega (arith, length-drop at s))

  pub first_bad : decode_number (drop at s) ≡ bad → decode_corners (drop at s) ≡ bad_many
  unfolding not_zeros decode_numbers onward
  first_bad e = reads_two ∙ rw e refl

  module _ {a to : ℕ} (f : Found s at a to) where
    pub second_bad : decode_number (drop to s) ≡ bad → decode_corners (drop at s) ≡ bad_many
    unfolding not_zeros decode_numbers onward front
    second_bad e = reads_two ∙ rw (f.reads, e) refl

    module _ {b end : ℕ} (g : Found s to b end) where
      both : decode_numbers 2 (drop at s) ≡ got_many (a ∷ b ∷ []) (drop end s)
      unfolding decode_numbers onward front
      both = rw (f.reads, g.reads) refl

      pub both_zeros : no_corners a b ≡ true → decode_corners (drop at s) ≡ bad_many
      unfolding not_zeros
      both_zeros e = reads_two ∙ rw (both, e) refl

      pub both_found : no_corners a b ≡ false → CornersFound s at a b end
      unfolding not_zeros
      both_found e = record { reads = reads_two ∙ rw (both, e) refl; inside = g.inside }
