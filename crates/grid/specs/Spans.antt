-- The support of a function, the children and the neighbourhood of a cell as rectangles of cells. Proofs say that these are the cells
-- that `supported` tests, that have the cell for a parent, and that `near` tests. Definitions only.
use Rattle.std.specs.Prelude.{Bool, ◌&&◌, ℕ, pred, ◌+◌, ◌-◌, ◌*◌, ◌/◌, leb, ltb, eqb}
use Rattle.grid.specs.declared.Plan.{Plan}
use Rattle.grid.specs.declared.Place.{Place}
use Rattle.grid.specs.declared.Span.{Span}
use Rattle.grid.specs.declared.Rectangle.{Rectangle}
use Rattle.grid.specs.Plan.{ratio, across_at, up_at, ancestor}
use Rattle.grid.specs.Side.{support_span, around_span}

-- x is one of the span's
unfoldable pub in_span : Span → ℕ → Bool
in_span s x = leb s.first x && ltb x s.end

unfoldable pub in_rectangle : Rectangle → Place → Bool
in_rectangle r c = eqb r.level c.level && (in_span r.columns c.column && in_span r.rows c.row)

-- "A function's support is the rectangle of both"
unfoldable pub support_of : Plan → Place → Rectangle
support_of p f = record {
  level = f.level;
  rows = support_span (up_at p f.level) f.row;
  columns = support_span (across_at p f.level) f.column;
}

-- one direction, s columns of the next level on one: those on x
unfoldable pub finer_span : ℕ → ℕ → Span
finer_span s x = record { first = x * s; end = x * s + s }

-- "four children one level down: columns 2c and 2c+1, rows 2r and 2r+1"
unfoldable pub children_of : Plan → Place → Rectangle
children_of p x = record {
  level = x.level + 1;
  rows = finer_span (ratio p) x.row;
  columns = finer_span (ratio p) x.column;
}

-- the cells of its own level that a function covers together with the cell at x
unfoldable pub around : Plan → Place → Rectangle
around p x = record {
  level = x.level;
  rows = around_span (up_at p x.level) x.row;
  columns = around_span (across_at p x.level) x.column;
}

-- the level of the neighbourhoods of the cells of level j
abbrev pub near_level : Plan → ℕ → ℕ
near_level p j = j - (p.class - 1)

-- the next finer one, on which their ancestors are: where there are neighbourhoods it is near_level p j + 1
abbrev pub ancestor_level : Plan → ℕ → ℕ
ancestor_level p j = j - (p.class - 2)

-- "the split cell's ancestor at level j-m+2"
unfoldable pub ancestor_of : Plan → Place → Place
ancestor_of p q = record {
  level = ancestor_level p q.level;
  row = ancestor p (p.class - 2) q.row;
  column = ancestor p (p.class - 2) q.column;
}

-- one direction, s columns of a level on one of the level before: those on which the span's stand
unfoldable pub coarser_span : ℕ → Span → Span
coarser_span s t = record { first = t.first / s; end = (t.end - 1) / s + 1 }

-- the parents of a rectangle's cells
unfoldable pub parents_of : Plan → Rectangle → Rectangle
parents_of p r = record {
  level = pred r.level;
  rows = coarser_span (ratio p) r.rows;
  columns = coarser_span (ratio p) r.columns;
}

unfoldable pub neighbourhood : Plan → Place → Rectangle
neighbourhood p q = parents_of p (around p (ancestor_of p q))
