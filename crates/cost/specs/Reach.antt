-- Document 02, Req 09: which cells a marked cell can reach, and how many these are at most. Definitions only.
use Rattle.std.specs.Prelude.{Bool, ◌||◌, ℕ, suc, ◌+◌, ◌-◌, ◌*◌, ◌/◌, eqb}
use Rattle.facts.specs.Bounded.{some}
use Rattle.grid.specs.declared.Plan.{Plan}
use Rattle.grid.specs.declared.Place.{Place}
use Rattle.grid.specs.declared.Span.{Span}
use Rattle.grid.specs.declared.Rectangle.{Rectangle}
use Rattle.grid.specs.Plan.{cell_place, cell_level, ancestor}
use Rattle.grid.specs.Spans.{in_rectangle}

-- the columns (or rows) at most g from x
unfoldable pub at_most : ℕ → ℕ → Span
at_most g x = record { first = x - g; end = x + g + 1 }

-- the window of the cell at c, d levels up: the cells at most p columns and q rows from its ancestor there
unfoldable pub window : Plan → ℕ → Place → Rectangle
window p d c = record {
  level = c.level - d;
  rows = at_most p.degree_up (ancestor p d c.row);
  columns = at_most p.degree_across (ancestor p d c.column);
}

-- "⌊j/(m-1)⌋": how many levels above its own a cell of level j reaches. In class 0 it is none, since a division by 0 is 0 here
abbrev pub levels_reached : Plan → ℕ → ℕ
levels_reached p j = j / (p.class - 1)

-- a mark on the cell c reaches c itself, and the cells of its windows m-1 levels up, 2·(m-1) levels up, and so on
unfoldable pub reaches : Plan → ℕ → ℕ → Bool
reaches p c x =
    eqb x c
    || some (levels_reached p (cell_level p c)) (λ i. in_rectangle (window p (suc i * (p.class - 1)) (cell_place p c)) (cell_place p x))

-- how many cells these are at most, of a marked cell of level j. Req 09 asks for "at most 1 + ⌊j/(m-1)⌋·(4p+1)·(4q+1) cells"; with the
-- neighbourhoods of Req 12 2p+1 and 2q+1 are enough
abbrev pub most_refined : Plan → ℕ → ℕ
most_refined p j = 1 + levels_reached p j * (2 * p.degree_across + 1) * (2 * p.degree_up + 1)
