-- A function's children get their sixteenths, row by row, and it keeps none. Assumes nothing.
use mathlib.Core.Path.{◌≡◌, refl, sym, ap, subst, ◌∙◌}
use mathlib.Core.Logic.{◌≢◌}
use mathlib.Core.Bool.{cond}
use mathlib.Core.List.{List}
use Prim.Native.Nat.{ℕ, ◌+◌, ◌-◌, ◌*◌, ◌/◌, ◌%◌, ◌≤◌, ◌<◌}
use native.Mathlib.Nat.{div-lt_iff_lt-mul, le-div_iff_mul-le, lt_of_lt_of_le, zero-mul, mul-zero, mul_assoc, mul-le-mul_left, mul-le-mul_right}
use native.Mathlib.Omega.{arith}
use lib.Arith.{digits_div, digits_mod}
use lib.Dec.{ltb, ltb→lt, nltb→le, eqb, eqb→eq}
use lib.IntN.{ℤ, pos, nat_abs, ◌+ℤ◌, ◌*ℤ◌, *ℤ-zero}
use lib.ListN.{length, set, length-set}
use lib.Seq.{get_or-set_same, get_or-set_other}
use mir.Syntax.{w32}
use mir.Val.{to_z, of_z}
use borrow.Author.Tests.{le-leb, lt-leb, eq-eqb, ne_eqb}
use Rattle.exact.proofs.Dyadic.{abs_mul}
use Rattle.exact.proofs.Integers.{times_times}
use Rattle.facts.proofs.Tests.{cases, differ}
use Rattle.twoscale.specs.declared.Children.{Children}
use Rattle.twoscale.specs.Passing.{quarters_of}
use Rattle.carry.specs.Carry.{at}
use Rattle.carry.specs.Steps.{most, RowRoom, row_passed, row_quarters, block_sixteenths, block_passed, BlockRoom}
use Rattle.carry.proofs.Lists.{heights_length, heights_is}
use Rattle.carry.proofs.Words.{read_small, product_small}
use Rattle.carry.proofs.Portions.{PassedTo, nothing, passed_none, passed_all}
use Rattle.carry.proofs.Rows.{quarters_before, quarters_behind, row_at, row_before, row_behind, row_passed_at}

-- ---- what a function gets

module _ (offset width : ℕ) (up across : Children) where
  abbrev sixteenths_of : ℕ → ℕ
  sixteenths_of = block_sixteenths offset width up across

  pub block_at : (row c : ℕ) → c < width → sixteenths_of (offset + row * width + c) ≡ quarters_of up row * quarters_of across c
  unfolding block_sixteenths
  block_at row c l =
      let e : offset + row * width + c - offset ≡ row * width + c = omega arith in
      rw (le-leb offset (offset + row * width + c) (omega arith), e, digits_div row l, digits_mod row l)

  pub block_before : (g : ℕ) → g < offset → sixteenths_of g ≡ 0
  unfolding block_sixteenths
  block_before g l = rw (lt-leb offset g l)

  -- a row that is none of the children's
  pub block_none : (g : ℕ) → quarters_of up ((g - offset) / width) ≡ 0 → sixteenths_of g ≡ 0
  unfolding block_sixteenths
  block_none g e = cases (ltb g offset) (λ t. block_before g (ltb→lt g offset t)) (λ t. rw (le-leb offset g (nltb→le g offset t), e) (zero-mul (quarters_of across ((g - offset) % width))))

  pub block_first : 0 < width → (g : ℕ) → g < offset + up.first * width → sixteenths_of g ≡ 0
  block_first w g l = cases (ltb g offset) (λ t. block_before g (ltb→lt g offset t)) (λ t.
      block_none g (quarters_before up ((g - offset) / width) ((div-lt_iff_lt-mul w).1 (omega (arith, nltb→le g offset t)))))

  pub block_behind : 0 < width → (row g : ℕ) → up.last < row → offset + row * width ≤ g → sixteenths_of g ≡ 0
  block_behind w row g l m = block_none g (quarters_behind up ((g - offset) / width) (lt_of_lt_of_le l ((le-div_iff_mul-le w).1 (omega arith))))

-- ---- row by row; h is the height of f

-- as a word
pub height_read : {f offset width : ℕ} {up across : Children} {heights : List ℤ} → BlockRoom f offset width up across heights → to_z w32 (of_z w32 (at heights f)) ≡ at heights f
height_read {f} {heights = heights} r = read_small (at heights f) (omega (arith, r.times))

module _ {f offset width : ℕ} {up across : Children} {heights : List ℤ} (r : BlockRoom f offset width up across heights) {h : ℤ} (is : h ≡ at heights f) where
  abbrev q : ℕ → ℕ
  q = block_sixteenths offset width up across

  wide : 0 < width
  wide = omega (arith, r.narrow)

  pub row_ends : (row : ℕ) → row ≤ up.last → offset + row * width + width ≤ length heights
  row_ends row l = omega (arith, mul-le-mul_right width l, r.within)

  pub up_room : (row : ℕ) → (quarters_of up row ≤ 4) × (nat_abs h * quarters_of up row ≤ most)
  up_room row = (r.up_few.quarters≤ row, rw is (omega (arith, r.times, mul-le-mul_left (nat_abs (at heights f)) (r.up_few.quarters≤ row))))

  -- a row's part, as a word
  pub part_read : (row : ℕ) {n : ℕ} {part : ℤ} → n ≡ quarters_of up row → part ≡ h *ℤ pos n → to_z w32 (of_z w32 part) ≡ h *ℤ pos (quarters_of up row)
  part_read row e k = rw (k, e) (read_small (h *ℤ pos (quarters_of up row)) (product_small h (quarters_of up row) (up_room row).1))

  -- v is left of it
  module _ (v : ℤ) {base : List ℤ} (b : base ≡ set heights f v) where
    base_length : length base ≡ length heights
    base_length = ap length b ∙ length-set heights f v

    others : (g : ℕ) → g ≢ f → at base g ≡ at heights g
    others g n = ap (λ xs. at xs g) b ∙ get_or-set_other heights f g v (pos 0) n

    pub blocks_none : PassedTo q h (offset + up.first * width) base base
    blocks_none = passed_none q h (offset + up.first * width) base (block_first offset width up across wide)

    module _ {row : ℕ} {new : List ℤ} (m : row ≤ up.last) (s : PassedTo q h (offset + row * width) base new) where
      abbrev begin : ℕ
      begin = offset + row * width

      abbrev part : ℤ
      part = h *ℤ pos (quarters_of up row)

      size : length new ≡ length heights
      size = s.size ∙ base_length

      kept : (j : ℕ) → at new (begin + j) ≡ at heights (begin + j)
      kept j = s.left (begin + j) (omega arith) ∙ others (begin + j) (omega (arith, r.behind))

      child_small : (j : ℕ) → nat_abs (at new (begin + j)) + nat_abs part * quarters_of across j ≤ most
      child_small j = rw (kept j, abs_mul h (pos (quarters_of up row)), mul_assoc (nat_abs h) (quarters_of up row) (quarters_of across j), is) (cases (ltb j width)
          (λ t. rw (← block_at offset width up across row j (ltb→lt j width t)) (r.small (begin + j)))
          (λ t. rw (quarters_behind across j (omega (arith, r.narrow, nltb→le j width t)), mul-zero, mul-zero) (omega (arith, r.small (begin + j)))))

      within : begin + across.last < length new
      within = omega (arith, size, row_ends row m, r.narrow)

      pub block_room : RowRoom begin across part new
      block_room = record { few = r.across_few; within = within; small = child_small }

      module _ {new' : List ℤ} (e : new' ≡ row_passed begin across part new) where
        after : (g : ℕ) → at new' g ≡ at new g +ℤ part *ℤ pos (row_quarters begin across g)
        after g = ap (λ xs. at xs g) e ∙ row_passed_at begin across part new within g

        -- a function of the row, and one of no row yet or of none at all
        inside : (c : ℕ) → c < width → at new' (begin + c) ≡ at base (begin + c) +ℤ h *ℤ pos (q (begin + c))
        inside c l = after (begin + c) ∙ rw (row_at begin across c, block_at offset width up across row c l, s.left (begin + c) (omega arith)) (ap (λ z. at base (begin + c) +ℤ z) (times_times h (quarters_of up row) (quarters_of across c)))

        outside : (g : ℕ) → row_quarters begin across g ≡ 0 → at new' g ≡ at new g
        outside g z = after g ∙ sym (nothing (at new g) part (row_quarters begin across g) z)

        pub block_next : PassedTo q h (offset + (row + 1) * width) base new'
        unfolding row_passed
        block_next = record {
          size = ap length e ∙ (heights_length (length new) _ ∙ s.size);
          done = λ g l. cases (ltb g begin)
              (λ t. outside g (row_before begin across g (ltb→lt g begin t)) ∙ s.done g (ltb→lt g begin t))
              (λ t.
              let n : begin ≤ g = nltb→le g begin t in
              let k : begin + (g - begin) ≡ g = omega arith in
              subst (λ g. at new' g ≡ at base g +ℤ h *ℤ pos (q g)) k (inside (g - begin) (omega arith)));
          left = λ g l. outside g (row_behind begin across g (omega (arith, r.narrow))) ∙ s.left g (omega arith);
        }

    pub blocks_all : {row : ℕ} {new : List ℤ} → v ≡ pos 0 → up.last < row → PassedTo q h (offset + row * width) base new → new ≡ block_passed f offset width up across heights
    unfolding block_passed
    blocks_all {row} z l s = heights_is (length heights) _ _ (s.size ∙ base_length) (λ g m. passed_all q h s (λ g n. block_behind offset width up across wide row g l n) g ∙ ends z g m)
      where
        own : f < length heights → at base f ≡ v
        own l = ap (λ xs. at xs f) b ∙ get_or-set_same heights f v (pos 0) l

        ends : v ≡ pos 0 → (g : ℕ) → g < length heights → at base g +ℤ h *ℤ pos (q g) ≡ cond (eqb g f) (pos 0) (at heights g +ℤ at heights f *ℤ pos (q g))
        ends z g m = cases (eqb g f)
            (λ t. rw (eqb→eq g f t, eq-eqb f f refl, own (rw (eqb→eq g f t) at m), z, block_before offset width up across f r.behind, *ℤ-zero h))
            (λ t. rw (ne_eqb g f (differ g f t), others g (differ g f t), is))
