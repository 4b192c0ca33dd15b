-- Where the levels of a numbering lie, and how they are passed one by one. Assumes nothing.
use mathlib.Core.Path.{◌≡◌, refl, ap}
use mathlib.Core.Logic.{◌⊎◌, inl, inr}
use mathlib.Core.Bool.{Bool, true, ◌&&◌}
use Prim.Native.Nat.{ℕ, ◌+◌, ◌*◌, ◌≤◌, ◌<◌}
use native.Mathlib.Nat.{eq-or-lt_of_le, le_of_eq}
use native.Mathlib.Numerals.{add-one}
use native.Mathlib.Omega.{arith}
use lib.Arith.{digits_lt}
use lib.Dec.{ltb, ltb→lt, nltb→le}
use Rattle.facts.specs.Ranges.{every_from}
use Rattle.facts.proofs.Tests.{cases}
use Rattle.facts.proofs.Ranges.{from_none}
use Rattle.facts.proofs.Rows.{row_ends, from_join}
use Rattle.grid.specs.Numbering.{Inside, offset, number, place}
use Rattle.grid.proofs.Numbering.{level_ends}

module _ (w h : ℕ → ℕ) where
  pub offset_zero : offset w h 0 ≡ 0
  unfolding offset
  offset_zero = refl

  pub offset_next : (k : ℕ) → offset w h (k + 1) ≡ offset w h k + h k * w k
  unfolding offset
  offset_next k = rw (add-one k)

  pub offset_mono : (j k : ℕ) → j ≤ k → offset w h j ≤ offset w h k
  offset_mono j k l = go (eq-or-lt_of_le l)
    where
      go : (j ≡ k) ⊎ (j < k) → offset w h j ≤ offset w h k
      go (inl e) = le_of_eq (ap (offset w h) e)
      go (inr m) = omega (arith, level_ends w h j k m)

  -- a number stands before a level's first just where its level is above that level
  module _ (L n : ℕ) (inside : Inside w h L (place w h L n)) (is : number w h (place w h L n) ≡ n) (k : ℕ) where
    abbrev on : ℕ
    on = (place w h L n).level

    pub level_before : n < offset w h k → on < k
    unfolding number
    level_before m = cases (ltb on k) (ltb→lt on k) (λ t. absurd (omega (arith, is, offset_mono k on (nltb→le on k t))))

    pub level_from : offset w h k ≤ n → k ≤ on
    unfolding number
    level_from m = cases (ltb on k)
        (λ t. absurd (omega (arith, is, digits_lt inside.row< inside.column<, level_ends w h on k (ltb→lt on k t))))
        (nltb→le on k)

-- the levels are passed one by one
pub levels_none : (w h : ℕ → ℕ) (p : ℕ → Bool) → every_from 0 (offset w h 0) p ≡ true
levels_none w h p = rw (offset_zero w h) (from_none 0 p)

pub levels_join : (w h : ℕ → ℕ) (p : ℕ → Bool) (k : ℕ) {x y : Bool} → x ≡ every_from 0 (offset w h k) p → y ≡ every_from (offset w h k) (h k * w k) p → x && y ≡ every_from 0 (offset w h (k + 1)) p
levels_join w h p k ex ey = rw (ex, ey, offset_next w h k) (from_join 0 p (offset w h k) (h k * w k) (offset w h k) (omega arith))

-- a row of a level ends before the table does
pub row_within : (w h : ℕ → ℕ) (k L r : ℕ) → k < L → r < h k → offset w h k + r * w k + w k ≤ offset w h L
row_within w h k L r l m = omega (arith, level_ends w h k L l, row_ends r (h k) (w k) m)
