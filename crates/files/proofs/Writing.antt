-- The bytes of a mesh's file: a head of numbers, the refined cells and the corners, and what the lent bytes hold when they are written. Assumes nothing.
use mathlib.Core.Path.{◌≡◌, refl, sym, ap, subst, ◌∙◌}
use mathlib.Core.Logic.{◌≢◌}
use mathlib.Core.List.{List, ◌++◌, append_assoc}
use Prim.Native.Nat.{ℕ, ◌+◌, ◌≤◌, ◌<◌}
use native.Mathlib.Omega.{arith}
use lib.Dec.{eqb}
use lib.ListN.{length, take, length-append}
use lib.Seq.{get_or-take, length-take-le}
use borrow.Author.Tests.{lt-ltb, le-ltb, ne_eqb}
use Rattle.facts.specs.Numbers.{listed}
use Rattle.facts.specs.Writing.{Writes}
use Rattle.facts.proofs.Writing.{writes_more, writes_front}
use Rattle.facts.proofs.Tests.{T_true, true_T}
use Rattle.facts.proofs.Numbers.{listed_same}
use Rattle.facts.proofs.Turns.{listed_short}
use Rattle.grid.specs.declared.Plan.{Plan}
use Rattle.grid.specs.Plan.{cell_total}
use Rattle.grid.specs.Range.{InRange}
use Rattle.grid.specs.Bounds.{most_cells}
use Rattle.mesh.specs.Mesh.{refined, is_mesh, check}
use Rattle.mesh.proofs.Bridge.{check_good, is_mesh_lem}
use Rattle.nesting.specs.Table.{MeshTable}
use Rattle.codec.specs.Numbers.{encode_numbers}
use Rattle.codec.specs.Fitting.{Small}
use Rattle.codec.proofs.Lists.{numbers_short}
use Rattle.listing.specs.declared.Measured.{Measured}
use Rattle.listing.specs.Cells.{refined_below, refined_bytes, Measures}
use Rattle.files.specs.File.{head_numbers, encode_file, file_of, WriteOutcome, unwritten, write_text, write_mesh}
use Rattle.files.proofs.Coarse.{coarser, coarser_le, listed_coarser}
use Rattle.files.proofs.Coding.{head_small}
use Rattle.files.proofs.CornerNumbers.{corner_bytes, corners_short}

-- ---- the cells before the last level: no other is refined in a mesh

-- a part of a mesh's cell table that has all refined cells
pub record Part (p : Plan) (cells part : List ℕ) : Type 0 where
  pub range : InRange p
  pub lists : refined_below part (length part) ≡ listed (cell_total p) (refined cells)
  pub small : length part ≤ most_cells

module _ {p : Plan} {cells : List ℕ} (k : MeshTable p cells) where
  pub coarser_fits : coarser p ≤ length cells
  coarser_fits = omega (arith, coarser_le p, k.sized.size)

  same_cells : listed (coarser p) (refined (take (coarser p) cells)) ≡ listed (cell_total p) (refined cells)
  unfolding refined
  same_cells =
      listed_same (coarser p) _ _ (λ c i. ap (λ b. eqb b 2) (get_or-take (coarser p) cells c 0 i))
      ∙ sym (listed_coarser p cells k.sized.range (true_T _ k.mesh))

  -- they are such a part
  pub coarse : cell_total p ≤ most_cells → (n : ℕ) → n ≡ coarser p → Part p cells (take n cells)
  unfolding refined_below
  coarse few n e =
      let size = length-take-le (coarser p) cells coarser_fits in
      rw e (record {
        range = k.sized.range;
        lists = rw size same_cells;
        small = omega (arith, size, coarser_fits, k.sized.size, few);
      })

-- ---- the parts of a file

module _ {p : Plan} {cells part : List ℕ} (k : Part p cells part) {m : Measured} (w : Measures part m) where
  pub few_cells : m.count ≤ 21845
  unfolding refined_below
  few_cells = omega (arith, w.count, listed_short (refined part) (length part), k.small)

  pub small_head : Small (head_numbers p m.count)
  small_head = head_small p m.count k.range (omega (arith, few_cells))

  pub file_parts : encode_numbers (head_numbers p m.count) ++ (refined_bytes part (length part) ++ corner_bytes p) ≡ file_of p cells
  unfolding file_of encode_file refined_bytes
  file_parts = let n : m.count ≡ length (listed (cell_total p) (refined cells)) = w.count ∙ ap length k.lists in rw (k.lists, n) refl

  pub file_length : length (file_of p cells) ≡ length (encode_numbers (head_numbers p m.count)) + m.bytes + length (corner_bytes p)
  file_length =
      sym (ap length file_parts)
      ∙ omega (
        arith,
        length-append (encode_numbers (head_numbers p m.count)) (refined_bytes part (length part) ++ corner_bytes p),
        length-append (refined_bytes part (length part)) (corner_bytes p),
        w.bytes,
      )

  -- few enough for a number of 32 bits
  pub few_bytes : length (encode_numbers (head_numbers p m.count)) + m.bytes + length (corner_bytes p) ≤ 65562
  few_bytes =
      omega (
        arith,
        numbers_short (head_numbers p m.count),
        w.few,
        k.small,
        corners_short p.corners_across p.corners_up,
      )

-- ---- a text in the lent bytes

pub too_few : (text file : List ℕ) → length file < length text → unwritten 10 file ≡ write_text text file
unfolding write_text
too_few text file h = rw (lt-ltb (length file) (length text) h) refl

wrote : (text file new : List ℕ) (n r : ℕ) → length text ≤ length file → n ≡ length text → Writes file 0 text r new
    → ◌≡◌ {A = WriteOutcome} (record { answer = record { number = 0; length = n }; file = new }) (write_text text file)
unfolding write_text
wrote text file new n r h e w = rw (le-ltb (length file) (length text) h, e, writes_front w) refl

-- the head, the cells, the corners
module _ {p : Plan} {cells part : List ℕ} (k : Part p cells part) {m : Measured} (w : Measures part m) where
  pub wrote_parts : (file f g new : List ℕ) (n at to r : ℕ) → length (file_of p cells) ≤ length file → n ≡ length (file_of p cells)
      → Writes file 0 (encode_numbers (head_numbers p m.count)) at f → Writes f at (refined_bytes part (length part)) to g
      → Writes g to (corner_bytes p) r new
      → ◌≡◌ {A = WriteOutcome} (record { answer = record { number = 0; length = n }; file = new }) (write_text (file_of p cells) file)
  wrote_parts file f g new n at to r h e a b c =
      let head = encode_numbers (head_numbers p m.count) in
      let bytes = refined_bytes part (length part) in
      let l = file_length k w in
      let s : head ++ bytes ++ corner_bytes p ≡ file_of p cells = append_assoc head bytes _ ∙ file_parts k w in
      wrote (file_of p cells) file new n r h e
      (subst (λ (t : List ℕ). Writes file 0 t r new) s
      (writes_more (omega (arith, l, length-append head bytes, w.bytes)) (writes_more (omega (arith, l)) a b) c))

-- ---- the check before

module _ (p : Plan) (cs fs file : List ℕ) where
  pub unchecked : {n : ℕ} → n ≡ check p cs fs → n ≢ 0 → unwritten n file ≡ write_mesh p cs fs file
  unfolding write_mesh
  unchecked {n} e z = rw (← e, ne_eqb n 0 z) refl

  pub checked : check p cs fs ≡ 0 → write_text (file_of p cs) file ≡ write_mesh p cs fs file
  unfolding write_mesh
  checked e = rw e refl

pub mesh_checked : (p : Plan) (cs fs : List ℕ) → check p cs fs ≡ 0 → MeshTable p cs × (cell_total p ≤ most_cells)
mesh_checked p cs fs e =
    let g = (check_good p cs fs e).0 in
    (record { sized = record { range = g.range; size = g.sized }; mesh = T_true (is_mesh p cs) (is_mesh_lem p cs g) }, g.small)
