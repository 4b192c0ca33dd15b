-- A row of children gets its quarters, one after the other. Assumes nothing.
use mathlib.Core.Path.{◌≡◌, sym, ap, ◌∙◌}
use mathlib.Core.Bool.{and-false}
use mathlib.Core.List.{List}
use Prim.Native.Nat.{ℕ, ◌+◌, ◌-◌, ◌*◌, ◌≤◌, ◌<◌}
use native.Mathlib.Omega.{arith}
use lib.Dec.{leb, ltb, ltb→lt, nltb→le}
use lib.IntN.{ℤ, pos, nat_abs, ◌+ℤ◌, ◌*ℤ◌}
use lib.ListN.{length, set}
use mir.Syntax.{w32}
use mir.Val.{to_z, of_z}
use borrow.Author.Tests.{le-leb, lt-leb}
use Rattle.facts.proofs.Tests.{cases}
use Rattle.twoscale.specs.declared.Children.{Children}
use Rattle.twoscale.specs.Passing.{quarters_of}
use Rattle.carry.specs.Carry.{at}
use Rattle.carry.specs.Steps.{most, row_quarters, row_passed, RowRoom}
use Rattle.carry.proofs.Lists.{heights_at, heights_none, heights_is, at_none}
use Rattle.carry.proofs.Words.{product_small, sum_small, add_read}
use Rattle.carry.proofs.Portions.{PassedTo, nothing, passed_none, passed_set, passed_all}

-- ---- who gets nothing

pub quarters_before : (a : Children) (j : ℕ) → j < a.first → quarters_of a j ≡ 0
unfolding quarters_of
quarters_before a j l = rw (lt-leb a.first j l)

pub quarters_behind : (a : Children) (j : ℕ) → a.last < j → quarters_of a j ≡ 0
unfolding quarters_of
quarters_behind a j l = rw (lt-leb j a.last l, and-false (leb a.first j))

module _ (begin : ℕ) (a : Children) where
  pub row_at : (j : ℕ) → row_quarters begin a (begin + j) ≡ quarters_of a j
  unfolding row_quarters
  row_at j = let e : begin + j - begin ≡ j = omega arith in rw (le-leb begin (begin + j) (omega arith), e)

  pub row_before : (g : ℕ) → g < begin → row_quarters begin a g ≡ 0
  unfolding row_quarters
  row_before g l = rw (lt-leb begin g l)

  pub row_first : (g : ℕ) → g < begin + a.first → row_quarters begin a g ≡ 0
  row_first g l = cases (ltb g begin) (λ t. row_before g (ltb→lt g begin t)) (λ t.
      let e : begin + (g - begin) ≡ g = omega (arith, nltb→le g begin t) in
      ap (row_quarters begin a) (sym e) ∙ (row_at (g - begin) ∙ quarters_before a (g - begin) (omega (arith, nltb→le g begin t))))

  pub row_behind : (g : ℕ) → begin + a.last < g → row_quarters begin a g ≡ 0
  row_behind g l =
      let e : begin + (g - begin) ≡ g = omega arith in
      ap (row_quarters begin a) (sym e) ∙ (row_at (g - begin) ∙ quarters_behind a (g - begin) (omega arith))

-- ---- the row, one child after the other

module _ {begin : ℕ} {a : Children} {h : ℤ} {old : List ℤ} (r : RowRoom begin a h old) where
  pub row_none : PassedTo (row_quarters begin a) h (begin + a.first) old old
  row_none = passed_none (row_quarters begin a) h (begin + a.first) old (row_first begin a)

  module _ {j : ℕ} {new : List ℤ} (m : j ≤ a.last) (s : PassedTo (row_quarters begin a) h (begin + j) old new) where
    pub row_in : begin + j < length new
    row_in = omega (arith, s.size, r.within)

    pub part_room : (quarters_of a j ≤ 4) × (nat_abs h * quarters_of a j ≤ most)
    part_room = (r.few.quarters≤ j, omega (arith, r.small j))

    abbrev here : ℤ
    here = at new (begin + j)

    here_small : nat_abs here + nat_abs h * quarters_of a j ≤ most
    here_small = rw (s.left (begin + j) (omega arith)) (r.small j)

    module _ {part : ℤ} (e : part ≡ h *ℤ pos (quarters_of a j)) where
      part_small : nat_abs part ≤ most
      part_small = rw e (product_small h (quarters_of a j) part_room.1)

      sum_is : nat_abs (here +ℤ part) ≤ most
      sum_is = rw e (sum_small here h (quarters_of a j) here_small)

      pub sum_read : to_z w32 (of_z w32 (to_z w32 (of_z w32 here) +ℤ to_z w32 (of_z w32 part))) ≡ here +ℤ h *ℤ pos (quarters_of a j)
      sum_read = add_read here part (omega (arith, here_small)) part_small sum_is ∙ ap (λ z. here +ℤ z) e

    pub row_next : {v : ℤ} → v ≡ here +ℤ h *ℤ pos (quarters_of a j) → PassedTo (row_quarters begin a) h (begin + (j + 1)) old (set new (begin + j) v)
    row_next e =
        let n : begin + (j + 1) ≡ begin + j + 1 = omega arith in
        rw n (passed_set (row_quarters begin a) h s (omega (arith, r.within)) (e ∙ ap (λ n. here +ℤ h *ℤ pos n) (sym (row_at begin a j))))

  pub row_all : {j : ℕ} {new : List ℤ} → a.last < j → PassedTo (row_quarters begin a) h (begin + j) old new → new ≡ row_passed begin a h old
  unfolding row_passed
  row_all l s = heights_is (length old) _ _ s.size (λ g m. passed_all (row_quarters begin a) h s (λ g n. row_behind begin a g (omega arith)) g)

-- what function g has after it
pub row_passed_at : (begin : ℕ) (a : Children) (h : ℤ) (old : List ℤ) → begin + a.last < length old → (g : ℕ) → at (row_passed begin a h old) g ≡ at old g +ℤ h *ℤ pos (row_quarters begin a g)
unfolding row_passed
row_passed_at begin a h old l g = cases (ltb g (length old))
    (λ t. heights_at (length old) _ g (ltb→lt g (length old) t))
    (λ t.
    let m : length old ≤ g = nltb→le g (length old) t in
    heights_none (length old) _ g m ∙ (sym (at_none old g m) ∙ nothing (at old g) h (row_quarters begin a g) (row_behind begin a g (omega arith))))
