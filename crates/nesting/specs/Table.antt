-- Tables of cells of a plan, and rows of their cells: what the loops over them require. Definitions only.
use Rattle.std.specs.Prelude.{◌≡◌, true, List, ℕ, ◌+◌, ◌*◌, ◌<◌, length}
use Rattle.grid.specs.declared.Plan.{Plan}
use Rattle.grid.specs.Plan.{columns_at, rows_at, cell_offset, cell_total, ancestor}
use Rattle.grid.specs.Range.{InRange}
use Rattle.mesh.specs.Mesh.{is_mesh}
use Rattle.nesting.specs.declared.Below.{Below}

-- the table has a byte for each cell of the plan
pub record CellTable (p : Plan) (cells : List ℕ) : Type 0 where
  pub range : InRange p
  pub size : length cells ≡ cell_total p

-- and its bytes are a mesh
pub record MeshTable (p : Plan) (cells : List ℕ) : Type 0 where
  pub sized : CellTable p cells
  pub mesh : is_mesh p cells ≡ true

-- a row of level k + 1: its cells are numbered from `at` on, and the row of their parents, `width` of them, from `over` on
pub record RowUnder (p : Plan) (k at over width : ℕ) : Type 0 where
  pub range : InRange p
  pub level< : k + 1 < p.levels
  pub row : ℕ
  pub row< : row < rows_at p (k + 1)
  pub at≡ : at ≡ cell_offset p (k + 1) + row * columns_at p (k + 1)
  pub over≡ : over ≡ cell_offset p k + ancestor p 1 row * columns_at p k
  pub width≡ : width ≡ columns_at p k

-- the level below level b.level: its rows and columns and where it begins, and the same of the level itself
pub record IsBelow (p : Plan) (b : Below) : Type 0 where
  pub range : InRange p
  pub level< : b.level + 1 < p.levels
  pub rows≡ : b.rows ≡ rows_at p (b.level + 1)
  pub columns≡ : b.columns ≡ columns_at p (b.level + 1)
  pub at≡ : b.at ≡ cell_offset p (b.level + 1)
  pub width≡ : b.width ≡ columns_at p b.level
  pub over≡ : b.over ≡ cell_offset p b.level
