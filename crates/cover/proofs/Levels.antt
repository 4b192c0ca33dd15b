-- A level by itself is that level of the plan: its functions with their supports, its cells under them. Assumes nothing.
use mathlib.Core.Path.{◌≡◌, ap, ◌∙◌}
use mathlib.Core.Bool.{◌&&◌, cond}
use mathlib.Core.List.{List}
use Prim.Native.Nat.{ℕ, ◌+◌, ◌-◌, ◌*◌, ◌/◌, ◌%◌, ◌≤◌, ◌<◌}
use native.Mathlib.Nat.{div-lt_iff_lt-mul, div-add-mod', mod-lt}
use native.Mathlib.Omega.{arith}
use lib.Arith.{digits_div, digits_mod}
use lib.Dec.{eqb}
use lib.ListN.{length, get_or}
use borrow.Rule.Slice.PartMut.{mid_of}
use Rattle.facts.specs.Mapped.{filled}
use Rattle.facts.proofs.Mapped.{part_at}
use Rattle.grid.specs.declared.Plan.{Plan}
use Rattle.grid.specs.declared.Side.{Side}
use Rattle.grid.specs.Numbering.{number}
use Rattle.grid.specs.Range.{InRange}
use Rattle.grid.specs.Side.{first_over, firsts}
use Rattle.grid.specs.Plan.{columns_at, rows_at, function_columns_at, function_rows_at, cell_offset, function_offset, cell_total, function_total, across_at, up_at}
use Rattle.grid.proofs.Numbering.{level_ends}
use Rattle.grid.proofs.Sides.{across_in}
use Rattle.mesh.specs.Mesh.{refined}
use Rattle.windows.specs.Level.{level_least, wide, high, least_value, ValueTable}
use Rattle.windows.proofs.Levels.{level_entry}
use Rattle.windows.proofs.Under.{support_one, part_size, part_ends, level_support}
use Rattle.cover.specs.Level.{picked, row_read, level_read}
use Rattle.cover.specs.Cover.{coarsenable_byte, NonZero}

module _ (p : Plan) (range : InRange p) (k : ℕ) (l : k < p.levels) where
  abbrev W : ℕ
  W = columns_at p k

  abbrev H : ℕ
  H = rows_at p k

  abbrev here : ℕ
  here = cell_offset p k

  pub cells_in : here + H * W ≤ cell_total p
  cells_in = level_ends (columns_at p) (rows_at p) k p.levels l

  -- ---- functions

  -- what is picked by the least bytes of the supports
  pub picked_at : (functions reactivables found start : List ℕ) → NonZero p reactivables → function_total p ≤ length start
      → found ≡ filled 0 (high p k p.degree_up * wide p k p.degree_across) (level_least p reactivables k p.degree_across p.degree_up) start
      → (j : ℕ) → j < function_rows_at p k * function_columns_at p k
      → picked (mid_of (function_offset p k) (length functions - function_offset p k) functions) found j ≡ coarsenable_byte p functions reactivables (function_offset p k + j)
  unfolding picked coarsenable_byte refined
  picked_at functions reactivables found start kinds room e j m =
      let ends = part_ends p range reactivables k l in
      let size = part_size p range reactivables k l in
      let b : function_offset p k + j < function_total p = omega arith in
      rw (part_at (function_offset p k) functions j)
      (ap (λ z. cond (eqb (get_or functions (function_offset p k + j) 0) 2 && z) 1 0)
      (ap (λ z. eqb z 1) (level_entry p reactivables found start k p.degree_across p.degree_up e (rw size (omega arith)) j (rw size m) ∙ level_support p range reactivables k l j m)
      ∙ support_one p range reactivables (function_offset p k + j) b kinds.some))

  -- ---- cells under functions

  pub read_at : (values table : List ℕ) → ValueTable p values table k → (j : ℕ) → j < H * W → level_read (across_at p k) (up_at p k) table j ≡ least_value p values (here + j)
  unfolding level_read number
  read_at values table t j m =
      let w : 0 < W = (across_in p range k l).cells≥ in
      let q = div-add-mod' j W in
      t.made (j / W) (j % W) ((div-lt_iff_lt-mul w).1 m) (mod-lt j w) ∙ ap (least_value p values) (omega arith)

-- a row of the level
pub read_row : (across up : Side) (table : List ℕ) (row at to : ℕ) → to ≡ row * across.cells
    → at ≡ (first_over up row + up.degree) * (firsts across + 2 * across.degree) + across.degree → (x : ℕ) → x < across.cells
    → row_read across (mid_of at (length table - at) table) x ≡ level_read across up table (to + x)
unfolding row_read level_read
read_row across up table row at to e f x l =
    let d : (to + x) / across.cells ≡ row = ap (λ z. (z + x) / across.cells) e ∙ digits_div row l in
    let m : (to + x) % across.cells ≡ x = ap (λ z. (z + x) % across.cells) e ∙ digits_mod row l in
    rw (part_at at table (first_over across x), d, m) (ap (λ z. get_or table z 0) (omega arith))
