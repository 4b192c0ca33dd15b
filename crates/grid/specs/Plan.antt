-- Document 01, "The plan": ranges, grids, numbering, supports, children and neighbourhoods. Definitions only.
use Rattle.std.specs.Prelude.{Bool, not, ◌&&◌, ◌||◌, cond, List, ℕ, pred, suc, ◌+◌, ◌-◌, ◌*◌, ◌/◌, ◌%◌, ◌^◌, leb, ltb, eqb, get_or}
use Rattle.facts.specs.Bounded.{some}
use Rattle.hierarchy.specs.Hierarchy.{Hierarchy}
use Rattle.grid.specs.declared.Plan.{Plan}
use Rattle.grid.specs.declared.Place.{Place}
use Rattle.grid.specs.declared.Side.{Side}
use Rattle.grid.specs.Numbering
use Rattle.grid.specs.Bounds.{most_cells}
use Rattle.grid.specs.Knots.{beyond, covers, together}

-- ---- the eight numbers

-- a plan of them, in document 01's order, A B L p q m, then Req 05's "edges across and up"; numbers left out are 0
abbrev pub plan_of : List ℕ → Plan
plan_of ns = record {
  columns = get_or ns 0 0;
  rows = get_or ns 1 0;
  levels = get_or ns 2 0;
  degree_across = get_or ns 3 0;
  degree_up = get_or ns 4 0;
  class = get_or ns 5 0;
  corners_across = get_or ns 6 0;
  corners_up = get_or ns 7 0;
}

-- x is one of lo to hi
unfoldable pub between : ℕ → ℕ → ℕ → Bool
between lo hi x = leb lo x && leb x hi

-- "columns A and rows B (1 to 16), levels L (1 to 8), degree p across and q up (1 to 4), class m (0, or 2 to 8)"
unfoldable pub numbers_in_range : Plan → Bool
numbers_in_range p =
    between 1 16 p.columns && (between 1 16 p.rows && (between 1 8 p.levels
    && (between 1 4 p.degree_across && (between 1 4 p.degree_up && (eqb p.class 0 || between 2 8 p.class)))))

-- Req 05, "a bit outside 1 to A-1 (or B-1) is set", is its opposite: of n columns (or rows), no bit from n on is set, and not bit 0
unfoldable pub corners_in_range : ℕ → ℕ → Bool
corners_in_range n bits = ltb bits (2 ^ n) && eqb (bits % 2) 0

unfoldable pub in_range : Plan → Bool
in_range p = numbers_in_range p && (corners_in_range p.columns p.corners_across && corners_in_range p.rows p.corners_up)

-- ---- levels

-- how many columns of the next level stand on one
unfoldable pub ratio : Plan → ℕ
ratio p = 2

-- one direction: b at level 0, s times as many on each next level
unfoldable pub grown : ℕ → ℕ → ℕ → ℕ
grown s b k = b * s ^ k

-- "Level k has A·2^k columns and B·2^k rows of cells"
abbrev pub columns_at : Plan → ℕ → ℕ
columns_at p = grown (ratio p) p.columns

abbrev pub rows_at : Plan → ℕ → ℕ
rows_at p = grown (ratio p) p.rows

-- d more on each level: 0 for cells
abbrev pub widened : (ℕ → ℕ) → ℕ → ℕ → ℕ
widened n d k = n k + d

-- "With n columns, a level has n + p functions across", and "p-1 (or q-1) functions" more "for each corner". "Up is the same with q"
abbrev pub beyond_across : Plan → ℕ
beyond_across p = beyond p.degree_across p.corners_across p.columns

abbrev pub beyond_up : Plan → ℕ
beyond_up p = beyond p.degree_up p.corners_up p.rows

abbrev pub function_columns_at : Plan → ℕ → ℕ
function_columns_at p k = columns_at p k + beyond_across p

abbrev pub function_rows_at : Plan → ℕ → ℕ
function_rows_at p k = rows_at p k + beyond_up p

-- a level's directions
abbrev pub across_at : Plan → ℕ → Side
across_at p k = record { cells = columns_at p k; degree = p.degree_across; base = p.columns; unit = grown (ratio p) 1 k; corners = p.corners_across }

abbrev pub up_at : Plan → ℕ → Side
up_at p k = record { cells = rows_at p k; degree = p.degree_up; base = p.rows; unit = grown (ratio p) 1 k; corners = p.corners_up }

-- ---- numbers and places: "numbered from 0, level by level, row by row"; functions "like cells, with n + p to a row"

abbrev pub cell_offset : Plan → ℕ → ℕ
cell_offset p = Numbering.offset (columns_at p) (rows_at p)

abbrev pub function_offset : Plan → ℕ → ℕ
function_offset p = Numbering.offset (function_columns_at p) (function_rows_at p)

-- T and F
abbrev pub cell_total : Plan → ℕ
cell_total p = cell_offset p p.levels

abbrev pub function_total : Plan → ℕ
function_total p = function_offset p p.levels

-- "T is at most 21,845"
unfoldable pub too_large : Plan → Bool
too_large p = ltb most_cells (cell_total p)

-- document 01's first two refusals, in order: 1, "a plan number is out of range"; 2, "T exceeds 21,845"; else n, which is what a call makes of
-- the rest of its input
abbrev pub plan_refusal_or : Plan → ℕ → ℕ
plan_refusal_or p n = cond (not (in_range p)) 1 (cond (too_large p) 2 n)

-- what a plan's numbers alone decide: 0 where they are taken
unfoldable pub plan_refusal : Plan → ℕ
plan_refusal p = plan_refusal_or p 0

abbrev pub cell_place : Plan → ℕ → Place
cell_place p = Numbering.place (columns_at p) (rows_at p) p.levels

abbrev pub cell_number : Plan → Place → ℕ
cell_number p = Numbering.number (columns_at p) (rows_at p)

abbrev pub function_place : Plan → ℕ → Place
function_place p = Numbering.place (function_columns_at p) (function_rows_at p) p.levels

abbrev pub function_number : Plan → Place → ℕ
function_number p = Numbering.number (function_columns_at p) (function_rows_at p)

-- a place of some cell, of some function
abbrev pub CellInside : Plan → Place → Type 0
CellInside p = Numbering.Inside (columns_at p) (rows_at p) p.levels

abbrev pub FunctionInside : Plan → Place → Type 0
FunctionInside p = Numbering.Inside (function_columns_at p) (function_rows_at p) p.levels

abbrev pub cell_level : Plan → ℕ → ℕ
cell_level p c = (cell_place p c).level

abbrev pub function_level : Plan → ℕ → ℕ
function_level p f = (function_place p f).level

-- "level L-1", which has no children
unfoldable pub last_level : Plan → ℕ → Bool
last_level p k = eqb (k + 1) p.levels

-- ---- parents and children: "columns 2c and 2c+1, rows 2r and 2r+1"

unfoldable pub above : Plan → Place → Place
above p x = record { level = pred x.level; row = x.row / ratio p; column = x.column / ratio p }

unfoldable pub below : Plan → Place → ℕ → ℕ → Place
below p x a b = record { level = suc x.level; row = x.row * ratio p + a; column = x.column * ratio p + b }

unfoldable pub parent : Plan → ℕ → ℕ
parent p c = cell_number p (above p (cell_place p c))

-- the child in row a and column b, each below the ratio, of the cell c
unfoldable pub child : Plan → ℕ → ℕ → ℕ → ℕ
child p c a b = cell_number p (below p (cell_place p c) a b)

-- ---- supports

-- "A function's support is the rectangle of both", of cells of its own level
unfoldable pub supported_at : Plan → Place → Place → Bool
supported_at p f c =
    eqb f.level c.level
    && (covers (across_at p f.level) f.column c.column && covers (up_at p f.level) f.row c.row)

-- the cell c lies in the support of the function f
unfoldable pub supported : Plan → ℕ → ℕ → Bool
supported p f c = supported_at p (function_place p f) (cell_place p c)

-- ---- neighbourhoods

-- x, d levels up
unfoldable pub ancestor : Plan → ℕ → ℕ → ℕ
ancestor p d x = x / ratio p ^ d

-- the cell at d and the one of its level in row y and column x are "covered by a common function of that level", across and up
unfoldable pub common_at : Plan → Place → ℕ → ℕ → Bool
common_at p d y x = together (across_at p d.level) d.column x && together (up_at p d.level) d.row y

-- "let a split cell have level j with j-m+1 at least 0" (document 01). Its neighbourhood is the "cells of level j-m+1 that have a child
-- covered, together with the split cell's ancestor at level j-m+2, by a common function of that level" (document 02, Req 12): the cell at c
-- is in that of the cell at q
unfoldable pub near_at : Plan → Place → Place → Bool
near_at p q c =
    not (eqb p.class 0)
    && (eqb (q.level + 1) (c.level + p.class)
    && some (ratio p) (λ a. some (ratio p) (λ b. common_at p (below p c a b) (ancestor p (p.class - 2) q.row) (ancestor p (p.class - 2) q.column))))

unfoldable pub near : Plan → ℕ → ℕ → Bool
near p q c = ltb c (cell_total p) && near_at p (cell_place p q) (cell_place p c)

-- what refining and coarsening see of the plan
abbrev pub hierarchy : Plan → Hierarchy
hierarchy p = record { size = cell_total p; depth = p.levels; level = cell_level p; parent = parent p; near = near p }
