-- A row of cells and the row of their parents: their numbers. Assumes nothing.
use mathlib.Core.Path.{◌≡◌, refl, sym, ap, subst, ◌∙◌}
use mathlib.Core.Bool.{Bool, ◌&&◌, ◌||◌}
use mathlib.Core.List.{List}
use Prim.Native.Nat.{ℕ, ◌+◌, ◌-◌, ◌*◌, ◌^◌, ◌≤◌, ◌<◌}
use native.Mathlib.Nat.{le_refl, mul_assoc, pow-suc, pow-zero}
use native.Mathlib.Numerals.{add-one}
use native.Mathlib.Omega.{arith}
use lib.Arith.{digits_div}
use lib.ListN.{length, get_or, take, drop}
use Rattle.std.proofs.lemmas.List.{length-take, get_or-take, get_or-drop}
use lib.Dec.{eqb}
use borrow.Author.Tests.{ne_eqb}
use Rattle.facts.specs.Ranges.{every_from}
use Rattle.facts.proofs.Ranges.{from_same}
use Rattle.hierarchy.specs.Hierarchy.{Cells}
use Rattle.grid.specs.declared.Plan.{Plan}
use Rattle.grid.specs.declared.Place.{Place}
use Rattle.grid.specs.Numbering.{offset, number}
use Rattle.grid.specs.Plan.{ratio, grown, widened, columns_at, rows_at, cell_offset, cell_total, cell_place, cell_number, cell_level, CellInside, above, parent, ancestor}
use Rattle.grid.specs.Range.{InRange}
use Rattle.grid.proofs.Direction.{grown_pos, grown_down}
use Rattle.grid.proofs.Levels.{offset_next, offset_mono, row_within}
use Rattle.grid.proofs.Small.{as_cells, offset_small}
use Rattle.grid.proofs.Laws.{ratio_pos, cell_number_lt, cell_place_number, parent_lt}
use Rattle.mesh.specs.Mesh.{refined}
use Rattle.nesting.specs.declared.Below.{Below}
use Rattle.nesting.specs.Table.{IsBelow, RowUnder}
use Rattle.nesting.specs.Nested.{cell_byte_fits, most_at, nested}
use Rattle.facts.proofs.Rows.{rows_join}

abbrev at : ℕ → ℕ → ℕ → Place
at k r c = record { level = k; row = r; column = c }

-- numbers of cells fit 32 bits
total_small : (p : Plan) → InRange p → cell_total p < 2 ^ 32
total_small p range =
    let b : offset (widened (columns_at p) 0) (widened (rows_at p) 0) p.levels ≤ 4397409 * p.levels = offset_small p range 0 0 (record { across≤ = omega arith; up≤ = omega arith }) p.levels (le_refl p.levels) in
    let c : cell_total p ≤ 4397409 * p.levels = subst (λ n. n ≤ 4397409 * p.levels) (as_cells p (λ w h. offset w h p.levels)) b in
    omega (arith, range.levels≤)

-- the cells of the levels below the first, and those of one level more
module _ (p : Plan) (k : ℕ) where
  pub first_before : cell_offset p 1 ≤ cell_offset p (k + 1)
  first_before = offset_mono (columns_at p) (rows_at p) 1 (k + 1) (omega arith)

  pub level_more : cell_offset p (k + 1 + 1) - cell_offset p 1 ≡ cell_offset p (k + 1) - cell_offset p 1 + rows_at p (k + 1) * columns_at p (k + 1)
  level_more = omega (arith, first_before, offset_next (columns_at p) (rows_at p) (k + 1))

power_one : (s : ℕ) → s ^ 1 ≡ s
power_one s = rw (pow-suc s 0, pow-zero s) (omega arith)

-- one level up, by ancestors
above_is : (p : Plan) (k r c : ℕ) → above p (at (k + 1) r c) ≡ at k (ancestor p 1 r) (ancestor p 1 c)
unfolding above ancestor
above_is p k r c = rw (power_one (ratio p), add-one k)

-- one direction: the columns of the next level on column x
module _ (p : Plan) (k x e : ℕ) (l : e < ratio p) where
  column_lt : x < columns_at p k → x * ratio p + e < columns_at p (k + 1)
  column_lt m = rw (add-one k) (grown_down (ratio p) (ratio_pos p) p.columns k x e m l)

  column_up : ancestor p 1 (x * ratio p + e) ≡ x
  unfolding ancestor
  column_up = rw (power_one (ratio p)) (digits_div x l)

pub columns_are : (p : Plan) (k : ℕ) → columns_at p k * ratio p ≡ columns_at p (k + 1)
unfolding grown
columns_are p k = rw (add-one k, pow-suc) (mul_assoc _ _ _)

-- one of the rows of a level
pub row_of : (p : Plan) (b : Below) (row : ℕ) → IsBelow p b → row < b.rows → RowUnder p b.level (b.at + row * b.columns) (b.over + ancestor p 1 row * b.width) b.width
row_of p b row i m = record {
  range = i.range;
  level< = i.level<;
  row = row;
  row< = rw i.rows≡ at m;
  at≡ = λ j. i.at≡ j + row * i.columns≡ j;
  over≡ = λ j. i.over≡ j + ancestor p 1 row * i.width≡ j;
  width≡ = i.width≡;
}

-- what a part of a table has where the table goes on
pub part_at : (a n : ℕ) (xs : List ℕ) (i : ℕ) → i < length (take (a + n - a) (drop a xs)) → get_or (take (a + n - a) (drop a xs)) i 0 ≡ get_or xs (a + i) 0
part_at a n xs i l = let m : i < a + n - a = omega (arith, length-take (a + n - a) (drop a xs)) in get_or-take (a + n - a) (drop a xs) i 0 m ∙ get_or-drop a xs i 0

module _ (p : Plan) (k start over width : ℕ) (u : RowUnder p k start over width) where
  pub row_width : width * ratio p ≡ columns_at p (k + 1)
  row_width = (λ j. u.width≡ j * ratio p) ∙ columns_are p k

  some_column : 0 < width
  some_column = rw u.width≡ (grown_pos (ratio p) (ratio_pos p) p.columns k u.range.columns≥)

  -- the child e of the cell in column x
  module _ (x e : ℕ) (l : x < width) (m : e < ratio p) where
    abbrev c : ℕ
    c = x * ratio p + e

    inside : CellInside p (at (k + 1) u.row c)
    inside = record { level< = u.level<; row< = u.row<; column< = column_lt p k x e m (rw u.width≡ at l) }

    number_is : start + c ≡ cell_number p (at (k + 1) u.row c)
    unfolding number
    number_is = rw u.at≡

    cell_lt : start + c < cell_total p
    cell_lt = rw number_is (cell_number_lt p u.range _ inside)

    place_is : cell_place p (start + c) ≡ at (k + 1) u.row c
    place_is = ap (cell_place p) number_is ∙ cell_place_number p u.range _ inside

    level_is : cell_level p (start + c) ≡ k + 1
    level_is = ap (λ (y : Place). y.level) place_is

    parent_is : parent p (start + c) ≡ over + x
    unfolding parent number
    parent_is = ap (λ y. cell_number p (above p y)) place_is ∙ (ap (cell_number p) (above_is p k u.row c) ∙ rw (u.over≡, column_up p k x e m) refl)

  module _ (x : ℕ) (l : x < width) where
    abbrev here : ℕ
    here = start + x * ratio p

    -- the cell and its children lie in the table
    pub parent_in : over + x < cell_total p
    parent_in = rw (← parent_is x 0 l (ratio_pos p)) (parent_lt p u.range _ (cell_lt x 0 l (ratio_pos p)) (omega (arith, level_is x 0 l (ratio_pos p))))

    pub children_in : here + ratio p ≤ cell_total p
    children_in = omega (arith, ratio_pos p, cell_lt x (ratio p - 1) l (omega (arith, ratio_pos p)))

    module _ (d : ℕ) (from : here ≤ d) (to : d < here + ratio p) where
      child_is : start + (x * ratio p + (d - here)) ≡ d
      child_is = omega arith

      pub parent_of : parent p d ≡ over + x
      parent_of = ap (parent p) (sym child_is) ∙ parent_is x (d - here) l (omega arith)

      level_of_lem : cell_level p d ≡ k + 1
      level_of_lem = ap (cell_level p) (sym child_is) ∙ level_is x (d - here) l (omega arith)

      -- it is present just where its parent is refined
      pub present_of_lem : (S : Cells) → eqb (cell_level p d) 0 || S (parent p d) ≡ S (over + x)
      present_of_lem S = rw (level_of_lem, parent_of, ne_eqb (k + 1) 0 (λ q. absurd (omega arith)))

      nested_of : (cells : List ℕ) → nested p cells d ≡ cell_byte_fits cells (most_at p (k + 1)) (eqb (get_or cells (over + x) 0) 2) d
      unfolding nested refined cell_byte_fits
      nested_of cells = λ i. cell_byte_fits cells (most_at p (level_of_lem i)) (present_of_lem (refined cells) i) d

    -- the children of one cell more
    pub row_more : (cells : List ℕ) {ok b : Bool} {at n most : ℕ} → at ≡ here → n ≡ ratio p → most ≡ most_at p (k + 1) → ok ≡ every_from start (x * ratio p) (nested p cells)
        → b ≡ every_from at n (cell_byte_fits cells most (eqb (get_or cells (over + x) 0) 2)) → ok && b ≡ every_from start ((x + 1) * ratio p) (nested p cells)
    row_more cells {n = n} ea en em e eb =
        rows_join start (nested p cells) (ratio p) x here refl refl e
        ((rw (ea, en, em) at eb) ∙ from_same here (ratio p) _ _ (λ d from to. sym (nested_of d from to cells)))

  -- both rows end and begin below 2 ^ 32
  pub row_in : start + columns_at p (k + 1) < 2 ^ 32
  row_in = omega (arith, total_small p u.range, u.at≡, row_within (columns_at p) (rows_at p) (k + 1) p.levels u.row u.level< u.row<)

  pub over_in : over < 2 ^ 32
  over_in = omega (arith, total_small p u.range, parent_in 0 some_column)
