-- A numbering level by level, row by row, by the levels' widths and heights. It serves cells and functions. Definitions only.
use Rattle.std.specs.Prelude.{cond, ℕ, zero, suc, ◌+◌, ◌-◌, ◌*◌, ◌/◌, ◌%◌, ◌<◌, ltb}
use Rattle.grid.specs.declared.Place.{Place}

module _ (w h : ℕ → ℕ) where
  -- a place of the levels below L
  pub record Inside (L : ℕ) (x : Place) : Type 0 where
    pub level< : x.level < L
    pub row< : x.row < h x.level
    pub column< : x.column < w x.level

  -- how many numbers stand below level k: where its part of a table begins
  unfoldable pub offset : ℕ → ℕ
  offset zero = 0
  offset (suc k) = offset k + h k * w k

  unfoldable pub number : Place → ℕ
  number x = offset x.level + x.row * w x.level + x.column

  -- the level of number n, of the levels below L
  unfoldable pub level_of : ℕ → ℕ → ℕ
  level_of zero n = 0
  level_of (suc k) n = cond (ltb n (offset k)) (level_of k n) k

  unfoldable pub place_on : ℕ → ℕ → Place
  place_on n k = record { level = k; row = (n - offset k) / w k; column = (n - offset k) % w k }

  -- the place of number n, of the levels below L
  unfoldable pub place : ℕ → ℕ → Place
  place L n = place_on n (level_of L n)
