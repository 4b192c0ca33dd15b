-- The closure as a function of tables: a cell is refined after its neighbourhood, and each of those after its own. It mirrors the
-- code, a loop being a fold and the recursion having fuel. What it gives is said in proofs/ by the definitions of mesh and outcomes.
-- Definitions only.
use Rattle.std.specs.Prelude.{Bool, ◌&&◌, cond, List, ℕ, zero, suc, ◌+◌, ◌-◌, ◌*◌, ◌/◌, ◌%◌, ◌≤◌, eqb, leb, set, get_or}
use Rattle.facts.specs.Mapped.{mapped}
use Rattle.grid.specs.declared.Plan.{Plan}
use Rattle.grid.specs.declared.Place.{Place}
use Rattle.grid.specs.declared.Span.{Span}
use Rattle.grid.specs.declared.Rectangle.{Rectangle}
use Rattle.closure.specs.declared.Pass.{Pass}
use Rattle.closure.specs.declared.Pass.TheVariants.{Refine, Activate, Close}
use Rattle.grid.specs.Plan.{columns_at, rows_at, cell_place, cell_number}
use Rattle.grid.specs.Spans.{in_span, in_rectangle, children_of, neighbourhood}
use Rattle.windows.specs.Near.{least_near, near_byte}

-- f at a, then at a + 1, and so on: n of them
unfoldable pub sweep : (ℕ → List ℕ → List ℕ) → ℕ → ℕ → List ℕ → List ℕ
sweep f a zero t = t
sweep f a (suc n) t = f (a + n) (sweep f a n t)

abbrev pub at : ℕ → ℕ → ℕ → Place
at k r c = record { level = k; row = r; column = c }

-- ---- one cell

-- v at the cells of a rectangle, the others stay
unfoldable pub fill_cells : Plan → Rectangle → ℕ → List ℕ → List ℕ
fill_cells p r v t = mapped (λ d b. cond (in_rectangle r (cell_place p d)) v b) t

-- v at the cell, and at its children one less: 2 refines the cell, 1 makes a cell without refined children active again
unfoldable pub write_cell : Plan → ℕ → Place → List ℕ → List ℕ
write_cell p v x t = fill_cells p (children_of p x) (v - 1) (set t (cell_number p x) v)

-- the same of the part of a table that begins at a level's offset and has `width` cells to a row: the entry j is in these rows and columns
unfoldable pub in_block : Span → Span → ℕ → ℕ → Bool
in_block rows columns width j = in_span rows (j / width) && in_span columns (j % width)

unfoldable pub fill_block : Span → Span → ℕ → ℕ → List ℕ → List ℕ
fill_block rows columns width v part = mapped (λ j b. cond (in_block rows columns width j) v b) part

-- a rectangle lies in such a part of n cells
pub record Block (r : Rectangle) (width n : ℕ) : Type 0 where
  pub rows≤ : r.rows.first ≤ r.rows.end
  pub columns≤ : r.columns.first ≤ r.columns.end
  pub wide : r.columns.end ≤ width
  pub tall : r.rows.end * width ≤ n

-- ---- the pair that call each other

-- f at each cell of a rectangle, row by row
abbrev pub over_row : (Place → List ℕ → List ℕ) → ℕ → ℕ → Span → List ℕ → List ℕ
over_row f k y columns = sweep (λ x. f (at k y x)) columns.first (columns.end - columns.first)

unfoldable pub over : (Place → List ℕ → List ℕ) → Rectangle → List ℕ → List ℕ
over f r = sweep (λ y. over_row f r.level y r.columns) r.rows.first (r.rows.end - r.rows.first)

-- f at each cell of the neighbourhood of the cell at x, which may have none
unfoldable pub walk_near : (Place → List ℕ → List ℕ) → Plan → Place → List ℕ → List ℕ
walk_near f p x t = cond (eqb p.class 0) t (cond (leb p.class (x.level + 1)) (over f (neighbourhood p x) t) t)

-- the cell at x is refined after f
unfoldable pub refine_after : (List ℕ → List ℕ) → Plan → Place → List ℕ → List ℕ
refine_after f p x t = cond (eqb (get_or t (cell_number p x) 0) 2) t (write_cell p 2 x (f t))

-- the table after the cell at x is refined with all that it needs; any n above its level gives the same
unfoldable pub refine_cell : ℕ → Plan → Place → List ℕ → List ℕ
refine_cell zero p x t = t
refine_cell (suc n) p x t = refine_after (walk_near (refine_cell n p) p x) p x t

-- ---- one pass, level by level

-- the cells of which the flag is 1
unfoldable pub flagged : List ℕ → ℕ → Bool
flagged flags c = eqb (get_or flags c 0) 1

-- the neighbourhood of the cell at x, which may have none, is refined in the table t
unfoldable pub settled : Plan → List ℕ → Place → Bool
settled p t x = eqb (least_near p t (cell_number p x)) 2

-- the same by the table of its level's neighbourhoods
unfoldable pub told : Plan → List ℕ → Place → Bool
told p near x = eqb (near_byte p near x) 2

-- the neighbourhood of the cell at x is refined with all that it needs, unless the test says that it is refined
unfoldable pub close_cell : (Place → Bool) → Plan → Place → List ℕ → List ℕ
close_cell test p x t = cond (test x) t (walk_near (refine_cell p.levels p) p x t)

-- what a pass does at the cell at x
unfoldable pub visit : Pass → Plan → List ℕ → (Place → Bool) → Place → List ℕ → List ℕ
visit Refine p flags test x t = cond (flagged flags (cell_number p x)) (refine_after (close_cell test p x) p x t) t
visit Activate p flags test x t = cond (flagged flags (cell_number p x)) (write_cell p 1 x t) t
visit Close p flags test x t = cond (eqb (get_or t (cell_number p x) 0) 2) (close_cell test p x t) t

-- all cells of level k
abbrev pub level_cells : Plan → ℕ → Rectangle
level_cells p k = record { level = k; rows = record { first = 0; end = rows_at p k }; columns = record { first = 0; end = columns_at p k } }

-- the test is made when a level is entered: a cell that is refined then stays so
unfoldable pub pass_level : Pass → Plan → List ℕ → ℕ → List ℕ → List ℕ
pass_level w p flags k t = over (visit w p flags (settled p t)) (level_cells p k) t

-- all levels but the last, whose cells have no children
unfoldable pub pass : Pass → Plan → List ℕ → List ℕ → List ℕ
pass w p flags = sweep (pass_level w p flags) 0 (p.levels - 1)
