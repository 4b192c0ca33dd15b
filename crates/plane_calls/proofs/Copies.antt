-- Cells copied into a room of zeros, and out of a room. Assumes nothing.
use mathlib.Core.Path.{◌≡◌, sym, ap, ◌∙◌}
use mathlib.Core.Logic.{◌≢◌}
use mathlib.Core.Bool.{true, false}
use mathlib.Core.List.{List}
use Prim.Native.Nat.{ℕ, ◌*◌, ◌≤◌}
use native.Mathlib.Omega.{arith}
use lib.ListN.{length}
use borrow.Author.Tests.{ne_eqb}
use Rattle.grid.specs.declared.Plan.{Plan}
use Rattle.grid.specs.Plan.{cell_total}
use Rattle.mesh.specs.Mesh.{refined}
use Rattle.planes.specs.Bits.{words_for, bytes_of, Within, plane_of, is_present, present_of, refined_of, are_small}
use Rattle.planes.specs.Planes.{cells_refusal, pack_refusal, packed, unpack_refusal, unpacked}
use Rattle.planes.proofs.Laws.{words_enough, ordered_within}
use Rattle.planes.proofs.Copies.{both_right, pack_refused, unpack_taken, unpack_refused, unpack_of}
use Rattle.plane_calls.proofs.Rooms.{room_enough}

-- ---- the lengths

module _ (p : Plan) (P R cs : List ℕ) (e : cells_refusal p P R cs ≡ 0) where
  pub both_words : length R ≡ length P
  both_words = let b = (both_right p P R cs e).0 in b.refined ∙ sym b.present

  pub both_room : 64 * length P ≤ 21888
  both_room = let b = (both_right p P R cs e).0 in rw b.present (room_enough (cell_total p) b.small)

  pub cells_fit : length cs ≤ 64 * length P
  cells_fit = let b = both_right p P R cs e in omega (arith, b.1, ap (λ (w : ℕ). 64 * w) b.0.present, words_enough (cell_total p))

-- ---- from cells

module _ (p : Plan) (cs P R : List ℕ) where
  pub pack_early : {n : ℕ} → n ≡ cells_refusal p P R cs → n ≢ 0 → record { number = n; present = P; refined = R } ≡ packed p cs P R
  pack_early {n} e z = rw q (sym (pack_refused p cs P R (λ x. z (q ∙ x))))
    where
      q : n ≡ pack_refusal p cs P R
      q = unfold pack_refusal in rw (ne_eqb (cells_refusal p P R cs) 0 (λ x. z (e ∙ x))) e

  pub pack_4 : cells_refusal p P R cs ≡ 0 → are_small cs ≡ false → record { number = 4; present = P; refined = R } ≡ packed p cs P R
  unfolding packed pack_refusal
  pack_4 e f = rw (e, f)

  pub pack_made : cells_refusal p P R cs ≡ 0 → are_small cs ≡ true → {P' R' : List ℕ} → P' ≡ plane_of (length P) (is_present cs) → R' ≡ plane_of (length P) (refined cs)
      → record { number = 0; present = P'; refined = R' } ≡ packed p cs P R
  unfolding packed pack_refusal present_of refined_of
  pack_made e f a b =
      let k = both_right p P R cs e in
      let q : length P ≡ words_for (length cs) = k.0.present ∙ ap words_for (sym k.1) in
      rw (e, f, a, b, q)

-- ---- to cells

module _ (p : Plan) (P R cs : List ℕ) where
  pub unpack_early : {n : ℕ} → n ≡ unpack_refusal p P R cs → n ≢ 0 → record { number = n; cells = cs } ≡ unpacked p P R cs
  unpack_early e z = rw e (sym (unpack_refused p P R cs (λ x. z (e ∙ x))))

  module _ (z : unpack_refusal p P R cs ≡ 0) where
    pub within_0 : Within P R
    within_0 =
        let k = unpack_of p P R cs z in
        let b = (both_right p P R cs k.0).0 in
        ordered_within (cell_total p) P R b.present b.refined k.1

    pub unpack_made : {cs' : List ℕ} → cs' ≡ bytes_of (length cs) P R → record { number = 0; cells = cs' } ≡ unpacked p P R cs
    unpack_made a = rw (a, (both_right p P R cs (unpack_of p P R cs z).0).1) (sym (unpack_taken p P R cs z))
