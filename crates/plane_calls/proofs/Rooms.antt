-- The room for the bytes of whole words, and the cells in it. Assumes nothing.
use mathlib.Core.Path.{◌≡◌, refl, sym, ap, ◌∙◌}
use mathlib.Core.List.{List, ◌++◌}
use Prim.Native.Nat.{ℕ, ◌+◌, ◌-◌, ◌*◌, ◌≤◌, ◌<◌}
use native.Mathlib.Omega.{arith}
use lib.Dec.{T, ltb, ltb→lt, nltb→le, leb→le}
use lib.ListN.{length, get_or, take, drop, length-append, length-drop, get_or-append, get_or-eq_default}
use lib.Seq.{get_or-take, get_or-drop, get_or-append-add, length-take-le}
use Rattle.facts.proofs.Tests.{cases, not_e, T_false}
use Rattle.facts.proofs.Bounded.{every_e}
use Rattle.facts.proofs.Numbers.{tabulate_is}
use Rattle.grid.specs.Bounds.{most_cells}
use Rattle.grid.specs.declared.Plan.{Plan}
use Rattle.grid.specs.Plan.{cell_total}
use Rattle.mesh.specs.Mesh.{absent, refined}
use Rattle.planes.specs.Bits.{in_plane, words_for, byte_of, bytes_of, plane_of, is_present, Within, small_at, are_small}
use Rattle.packing.specs.Packing.{Small}
use Rattle.planes.specs.Planes.{cells_of}
use Rattle.planes.proofs.Laws.{words_enough, plane_same, ordered, ordered_within, length_bytes, byte_at, byte_past}
use Rattle.planes.proofs.Refusals.{Held}

-- the first cells of a room
pub take_bytes : (n m : ℕ) (P R : List ℕ) → n ≤ m → take n (bytes_of m P R) ≡ bytes_of n P R
unfolding bytes_of
take_bytes n m P R l = tabulate_is n (byte_of P R) (take n (bytes_of m P R)) (length-take-le n (bytes_of m P R) (rw (length_bytes m P R) l)) (λ c i.
    get_or-take n (bytes_of m P R) c 0 i ∙ byte_at m P R c (omega arith))

-- no byte is above 2, also past the end
pub small_of : (cs : List ℕ) → T (are_small cs) → Small cs
unfolding are_small small_at
small_of cs t c = cases (ltb c (length cs))
    (λ u. leb→le (get_or cs c 0) 2 (every_e (length cs) (small_at cs) t c (ltb→lt c (length cs) u)))
    (λ u. rw (get_or-eq_default cs 0 (nltb→le c (length cs) u)) (omega arith))

-- a table of n bytes before zeros: the room has no other byte, and its planes are those of the table
module _ (n : ℕ) (cells bytes : List ℕ) (size : length cells ≡ n) (fits : n ≤ length bytes) (zeros : (c : ℕ) → n ≤ c → get_or bytes c 0 ≡ 0) where
  abbrev pub whole : List ℕ
  whole = cells ++ drop n bytes

  pub whole_length : length whole ≡ length bytes
  whole_length = omega (arith, length-append cells (drop n bytes), length-drop n bytes)

  pub whole_byte : (c : ℕ) → get_or whole c 0 ≡ get_or cells c 0
  whole_byte c = cases (ltb c n)
      (λ t. get_or-append cells (drop n bytes) 0 c (omega (arith, ltb→lt c n t)))
      (λ t.
      let l = nltb→le c n t in
      let e : length cells + (c - n) ≡ c = omega arith in
      ap (λ (i : ℕ). get_or whole i 0) (sym e) ∙ get_or-append-add cells (drop n bytes) (c - n) 0
      ∙ get_or-drop n bytes (c - n) 0 ∙ zeros (n + (c - n)) (omega arith) ∙ sym (get_or-eq_default cells 0 (rw size l)))

  pub whole_small : Small cells → Small whole
  whole_small small c = rw (whole_byte c) (small c)

  pub whole_present : (words : ℕ) → plane_of words (is_present whole) ≡ plane_of words (is_present cells)
  unfolding is_present absent
  whole_present words = plane_same words _ _ (λ c l. rw (whole_byte c))

  pub whole_refined : (words : ℕ) → plane_of words (refined whole) ≡ plane_of words (refined cells)
  unfolding refined
  whole_refined words = plane_same words _ _ (λ c l. rw (whole_byte c))

-- the largest plane
pub room_enough : (n : ℕ) → n ≤ most_cells → 64 * words_for n ≤ 21888
unfolding words_for
room_enough n l = omega arith

module _ {p : Plan} {P R fs : List ℕ} (h : Held p P R fs) where
  pub same_words : length R ≡ length P
  same_words = h.sizes.refined ∙ sym h.sizes.present

  pub held_within : Within P R
  held_within = ordered_within (cell_total p) P R h.sizes.present h.sizes.refined h.order

  pub held_room : 64 * length P ≤ 21888
  held_room = rw h.sizes.present (room_enough (cell_total p) h.sizes.small)

  pub held_cells : cell_total p ≤ 64 * length P
  held_cells = rw h.sizes.present (words_enough (cell_total p))

  -- the cells, in a room that holds the bytes
  pub cells_are : (n : ℕ) (bytes : List ℕ) → n ≡ cell_total p → bytes ≡ bytes_of (64 * length P) P R → take n bytes ≡ cells_of p P R
  cells_are n bytes e b = rw (e, b) (take_bytes (cell_total p) (64 * length P) P R held_cells)

  -- no spare bit is set, so the bytes after the cells are 0
  pub spare_zeros : (c : ℕ) → cell_total p ≤ c → get_or (bytes_of (64 * length P) P R) c 0 ≡ 0
  spare_zeros c l = cases (ltb c (64 * length P))
      (λ t. let m = ltb→lt c (64 * length P) t in byte_at (64 * length P) P R c m ∙ spare m)
      (λ t. byte_past (64 * length P) P R c (nltb→le c (64 * length P) t))
    where
      spare : c < 64 * length P → byte_of P R c ≡ 0
      spare m = unfold byte_of in rw (T_false (in_plane P c) (not_e (in_plane P c) ((ordered (cell_total p) P R h.order).no_present c l (rw h.sizes.present at m)))) refl
