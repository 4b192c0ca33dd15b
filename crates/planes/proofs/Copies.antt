-- From cells to planes and back, and from planes to cells and back. Assumes nothing.
use mathlib.Core.Path.{◌≡◌, refl, sym, ap, ap₂, ◌∙◌}
use mathlib.Core.Logic.{◌≢◌}
use mathlib.Core.Bool.{true, cond}
use mathlib.Core.List.{List}
use Prim.Native.Nat.{ℕ}
use lib.Dec.{T, eqb, eqb→eq}
use lib.ListN.{length}
use borrow.Author.Tests.{eq-eqb, ne_eqb}
use Rattle.facts.proofs.Tests.{cases, differ, T_true}
use Rattle.grid.specs.declared.Plan.{Plan}
use Rattle.grid.specs.Plan.{plan_refusal, cell_total}
use Rattle.mesh.proofs.Bridge.{chain}
use Rattle.planes.specs.Bits.{Words, present_of, refined_of, are_small, in_order, Holding}
use Rattle.planes.specs.Planes.{cells_of, sized, cells_refusal, pack_refusal, packed, unpack_refusal, unpacked}
use Rattle.planes.specs.Demands.{Cells}
use Rattle.planes.proofs.Laws.{length_bytes, present_back_lem, refined_back_lem}
use Rattle.planes.proofs.Refusals.{order_four, Sized, size_0, both_of, both_sized, order_of, order_right}
use Rattle.planes.proofs.Same.{held_cells, holds, right_sizes, right_order}

-- refusals 1 to 3 of planes and cells leave the right lengths
pub both_right : (p : Plan) (P R cs : List ℕ) → cells_refusal p P R cs ≡ 0 → Sized p P R × (length cs ≡ cell_total p)
unfolding cells_refusal
both_right p P R cs e = both_of p P R cs (cell_total p) e

pub right_both : (p : Plan) (P R cs : List ℕ) → plan_refusal p ≡ 0 → sized p P R ≡ true → length cs ≡ cell_total p → cells_refusal p P R cs ≡ 0
unfolding cells_refusal
right_both p P R cs e s l = sym (size_0 p _ e (rw (s, eq-eqb (length cs) (cell_total p) l) refl))

-- what an accepted call says
pub pack_of : (p : Plan) (cs P R : List ℕ) → pack_refusal p cs P R ≡ 0 → (cells_refusal p P R cs ≡ 0) × T (are_small cs)
unfolding pack_refusal
pack_of p cs P R e = let k = chain (cells_refusal p P R cs) (cond (are_small cs) 0 4) e in (k.0, order_four (are_small cs) k.1)

module _ (p : Plan) (cs P R : List ℕ) where
  pub pack_taken : pack_refusal p cs P R ≡ 0 → packed p cs P R ≡ record { number = 0; present = present_of cs; refined = refined_of cs }
  unfolding packed
  pack_taken e = rw e refl

  pub pack_refused : pack_refusal p cs P R ≢ 0 → packed p cs P R ≡ record { number = pack_refusal p cs P R; present = P; refined = R }
  unfolding packed
  pack_refused z = rw (ne_eqb (pack_refusal p cs P R) 0 z) refl

  pub pack_number : (packed p cs P R).number ≡ 0 → pack_refusal p cs P R ≡ 0
  pack_number e = cases (eqb (pack_refusal p cs P R) 0) (λ t. eqb→eq (pack_refusal p cs P R) 0 t) (λ t.
      let z = differ (pack_refusal p cs P R) 0 t in
      rw (pack_refused z) at e)

module _ (p : Plan) (P R cs : List ℕ) where
  pub unpack_taken : unpack_refusal p P R cs ≡ 0 → unpacked p P R cs ≡ record { number = 0; cells = cells_of p P R }
  unfolding unpacked
  unpack_taken e = rw e refl

  pub unpack_refused : unpack_refusal p P R cs ≢ 0 → unpacked p P R cs ≡ record { number = unpack_refusal p P R cs; cells = cs }
  unfolding unpacked
  unpack_refused z = rw (ne_eqb (unpack_refusal p P R cs) 0 z) refl

  pub unpack_number : (unpacked p P R cs).number ≡ 0 → unpack_refusal p P R cs ≡ 0
  unpack_number e = cases (eqb (unpack_refusal p P R cs) 0) (λ t. eqb→eq (unpack_refusal p P R cs) 0 t) (λ t.
      let z = differ (unpack_refusal p P R cs) 0 t in
      rw (unpack_refused z) at e)

  pub unpack_of : unpack_refusal p P R cs ≡ 0 → (cells_refusal p P R cs ≡ 0) × T (in_order (cell_total p) P R)
  unfolding unpack_refusal
  unpack_of e = order_of p P R (cells_refusal p P R cs) e

-- ---- there and back

pub packed_back_lem : (p : Plan) (cs P R cs' : List ℕ) → (packed p cs P R).number ≡ 0 → length cs' ≡ cell_total p
    → unpacked p (packed p cs P R).present (packed p cs P R).refined cs' ≡ record { number = 0; cells = cs }
packed_back_lem p cs P R cs' e l =
    let n = pack_number p cs P R e in
    let k = pack_of p cs P R n in
    let b = both_right p P R cs k.0 in
    let c : Cells p cs = record { size = b.1; small = k.1 } in
    let z = right_both p (present_of cs) (refined_of cs) cs' b.0.plan (right_sizes p cs cs c) l in
    rw (pack_taken p cs P R n)
    (unpack_taken p (present_of cs) (refined_of cs) cs' (ordered (present_of cs) (refined_of cs) z (right_order p cs cs c))
    ∙ ap (λ (x : List ℕ). record { number = 0; cells = x }) (holds p cs cs c))
  where
    ordered : (P' R' : List ℕ) → cells_refusal p P' R' cs' ≡ 0 → in_order (cell_total p) P' R' ≡ true → unpack_refusal p P' R' cs' ≡ 0
    ordered P' R' z o = unfold unpack_refusal in sym (order_right p P' R' (cells_refusal p P' R' cs') z o)

pub unpacked_back_lem : (p : Plan) (P R cs P' R' : List ℕ) → Words P → Words R → (unpacked p P R cs).number ≡ 0 → length P' ≡ length P → length R' ≡ length R
    → packed p (unpacked p P R cs).cells P' R' ≡ record { number = 0; present = P; refined = R }
unpacked_back_lem p P R cs P' R' u v e l m =
    let n = unpack_number p P R cs e in
    let k = unpack_of p P R cs n in
    let b = (both_right p P R cs k.0).0 in
    let h : Holding (cell_total p) P R = record { present_words = u; refined_words = v; present_length = b.present; refined_length = b.refined; order = k.1 } in
    let z = right_both p P' R' (cells_of p P R) b.plan (both_sized p P' R' (l ∙ b.present) (m ∙ b.refined)) (length_bytes (cell_total p) P R) in
    rw (unpack_taken p P R cs n)
    (pack_taken p (cells_of p P R) P' R' (small z (held_cells p P R).small)
    ∙ ap₂ (λ (x y : List ℕ). record { number = 0; present = x; refined = y }) (present_back_lem (cell_total p) P R h) (refined_back_lem (cell_total p) P R h))
  where
    small : cells_refusal p P' R' (cells_of p P R) ≡ 0 → T (are_small (cells_of p P R)) → pack_refusal p (cells_of p P R) P' R' ≡ 0
    small z t = unfold pack_refusal in rw (z, T_true (are_small (cells_of p P R)) t) refl
