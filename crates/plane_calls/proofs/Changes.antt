-- What a call leaves on planes: the planes of the cells that it leaves as bytes. Assumes nothing.
use mathlib.Core.Path.{◌≡◌, refl, sym, ap, ap₂, ◌∙◌}
use mathlib.Core.Logic.{◌≢◌}
use mathlib.Core.List.{List, ◌++◌}
use Prim.Native.Nat.{ℕ, ◌*◌, ◌≤◌}
use lib.ListN.{length, take, drop}
use borrow.Author.Tests.{ne_eqb}
use Rattle.grid.specs.declared.Plan.{Plan}
use Rattle.grid.specs.Plan.{cell_total}
use Rattle.mesh.specs.Mesh.{refined}
use Rattle.outcomes.specs.declared.Answer.{Answer}
use Rattle.outcomes.specs.Calls.{Direction, By, Outcome, outcome}
use Rattle.outcomes.specs.Meets.{Lent}
use Rattle.outcomes.proofs.Results.{call_refused}
use Rattle.planes.specs.Bits.{words_for, Words, bytes_of, plane_of, is_present, present_of, refined_of}
use Rattle.planes.specs.Planes.{cells_of, refusal4, held, refused_planes, on_planes}
use Rattle.planes.specs.Demands.{Cells}
use Rattle.planes.proofs.Laws.{length_bytes, present_back_lem, refined_back_lem}
use Rattle.planes.proofs.Refusals.{Held, held_of, holding_of}
use Rattle.planes.proofs.Kept.{made_cells}
use Rattle.packing.specs.Packing.{Small}
use Rattle.plane_calls.specs.Steps.{InRoom}
use Rattle.plane_calls.proofs.Rooms.{small_of, whole, whole_length, whole_small, whole_present, whole_refined, same_words, held_cells, cells_are, spare_zeros}

-- ---- the call, by its outcome on bytes

module _ (d : Direction) (by : By) (p : Plan) (P R fs marks cl fl : List ℕ) where
  abbrev made : Outcome
  made = outcome d by p (cells_of p P R) fs marks cl fl

  pub planes_early : {n : ℕ} → n ≡ refusal4 p P R fs → n ≢ 0 → refused_planes n P R fs cl fl ≡ on_planes (outcome d by) p P R fs marks cl fl
  unfolding on_planes
  planes_early e z = rw (ne_eqb (refusal4 p P R fs) 0 (λ q. z (e ∙ q)), e)

  planes_held : refusal4 p P R fs ≡ 0 → held (outcome d by p (cells_of p P R) fs marks cl fl) ≡ on_planes (outcome d by) p P R fs marks cl fl
  unfolding on_planes
  planes_held e = rw e

  pub planes_made : refusal4 p P R fs ≡ 0 → {r : Answer} {P' R' fs' cl' fl' : List ℕ} → r ≡ made.answer → P' ≡ present_of made.cells → R' ≡ refined_of made.cells
      → fs' ≡ made.functions → cl' ≡ made.cell_list → fl' ≡ made.function_list
      → record { answer = r; present = P'; refined = R'; functions = fs'; cell_list = cl'; function_list = fl' } ≡ on_planes (outcome d by) p P R fs marks cl fl
  unfolding held
  planes_made z a b c f g k = rw (a, b, c, f, g, k) (planes_held z)

-- ---- the call in a room

module _ (p : Plan) (P R fs : List ℕ) (z : refusal4 p P R fs ≡ 0) (d : Direction) (by : By) (marks cl fl : List ℕ) {r : Answer} {bytes functions cell_list function_list : Lent}
    (B : bytes.entry.now ≡ bytes_of (64 * length P) P R)
    (I : InRoom (outcome d by p (take (cell_total p) bytes.entry.now) fs marks cl fl) (cell_total p) r bytes functions cell_list function_list) where
  abbrev o : Outcome
  o = made d by p P R fs marks cl fl

  holds : Held p P R fs
  holds = held_of p P R fs z

  on_cells_lem : outcome d by p (take (cell_total p) bytes.entry.now) fs marks cl fl ≡ o
  on_cells_lem = ap (λ (cs : List ℕ). outcome d by p cs fs marks cl fl) (cells_are holds (cell_total p) bytes.entry.now refl B)

  answered : r ≡ o.answer
  answered = I.answer ∙ ap (λ (u : Outcome). u.answer) on_cells_lem

  -- the cells that the call leaves, and the room with them

  cells : Cells p o.cells
  cells = made_cells d by p P R fs marks cl fl

  abbrev old : List ℕ
  old = bytes_of (64 * length P) P R

  fits : cell_total p ≤ length old
  fits = rw (length_bytes (64 * length P) P R) (held_cells holds)

  left_in : bytes.exit.now ≡ whole (cell_total p) o.cells old cells.size fits (spare_zeros holds)
  left_in = I.cells ∙ ap₂ (λ (cs bs : List ℕ). cs ++ drop (cell_total p) bs) (ap (λ (u : Outcome). u.cells) on_cells_lem) B

  -- what packing requires
  pub packable : ((length R ≡ length P) × (length bytes.exit.now ≡ 64 * length P)) × Small bytes.exit.now
  packable = (
    (same_words holds, ap length left_in ∙ (whole_length (cell_total p) o.cells old cells.size fits (spare_zeros holds) ∙ length_bytes (64 * length P) P R)),
    rw left_in (whole_small (cell_total p) o.cells old cells.size fits (spare_zeros holds) (small_of o.cells cells.small)),
  )

  words : length P ≡ words_for (length o.cells)
  words = holds.sizes.present ∙ ap words_for (sym cells.size)

  present_in : plane_of (length P) (is_present bytes.exit.now) ≡ present_of o.cells
  unfolding present_of
  present_in = ap (λ (bs : List ℕ). plane_of (length P) (is_present bs)) left_in
      ∙ (whole_present (cell_total p) o.cells old cells.size fits (spare_zeros holds) (length P) ∙ ap (λ (w : ℕ). plane_of w (is_present o.cells)) words)

  refined_in : plane_of (length P) (refined bytes.exit.now) ≡ refined_of o.cells
  unfolding refined_of
  refined_in = ap (λ (bs : List ℕ). plane_of (length P) (refined bs)) left_in
      ∙ (whole_refined (cell_total p) o.cells old cells.size fits (spare_zeros holds) (length P) ∙ ap (λ (w : ℕ). plane_of w (refined o.cells)) words)

  pub accepted_left : {P' R' : List ℕ} → P' ≡ plane_of (length P) (is_present bytes.exit.now) → R' ≡ plane_of (length P) (refined bytes.exit.now)
      → record { answer = r; present = P'; refined = R'; functions = functions.exit.now; cell_list = cell_list.exit.now; function_list = function_list.exit.now }
      ≡ on_planes (outcome d by) p P R fs marks cl fl
  accepted_left a b = planes_made d by p P R fs marks cl fl z answered (a ∙ present_in) (b ∙ refined_in)
      (I.labels ∙ ap (λ (u : Outcome). u.functions) on_cells_lem)
      (I.cell_numbers ∙ ap (λ (u : Outcome). u.cell_list) on_cells_lem)
      (I.function_numbers ∙ ap (λ (u : Outcome). u.function_list) on_cells_lem)

  pub refused_left : Words P → Words R → r.number ≢ 0
      → record { answer = r; present = P; refined = R; functions = functions.exit.now; cell_list = cell_list.exit.now; function_list = function_list.exit.now }
      ≡ on_planes (outcome d by) p P R fs marks cl fl
  refused_left sP sR n =
      let h = holding_of p P R fs holds sP sR in
      let same = (call_refused d by p (cells_of p P R) fs marks cl fl (λ q. n (ap (λ (a : Answer). a.number) answered ∙ q))).cells in
      planes_made d by p P R fs marks cl fl z answered
      (sym (ap present_of same ∙ present_back_lem (cell_total p) P R h))
      (sym (ap refined_of same ∙ refined_back_lem (cell_total p) P R h))
      (I.labels ∙ ap (λ (u : Outcome). u.functions) on_cells_lem)
      (I.cell_numbers ∙ ap (λ (u : Outcome). u.cell_list) on_cells_lem)
      (I.function_numbers ∙ ap (λ (u : Outcome). u.function_list) on_cells_lem)
