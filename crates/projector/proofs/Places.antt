-- The corners of a cell lie on the mesh, and code computes them. Assumes nothing.
use mathlib.Core.Path.{◌≡◌}
use Prim.Native.Nat.{ℕ, ◌+◌, ◌-◌, ◌*◌, ◌^◌, ◌≤◌, ◌<◌}
use native.Mathlib.Nat.{lt_of_le_of_lt, mul-le-mul_right}
use native.Mathlib.Omega.{arith}
use lib.Dec.{T, leb, le→leb, lit<}
use lib.IntN.{ℤ, pos}
use lib.Ieee.{Float, binary64, of_int}
use mathlib.Core.List.{List}
use Rattle.facts.proofs.Tests.{and_i}
use Rattle.exact.specs.Dyadic.{dyadic}
use Rattle.exact.proofs.Dyadic.{cast, is_number}
use Rattle.grid.specs.declared.Plan.{Plan}
use Rattle.grid.specs.declared.Place.{Place}
use Rattle.grid.specs.Plan.{ratio, grown, columns_at, rows_at, CellInside}
use Rattle.grid.specs.Range.{InRange}
use Rattle.grid.proofs.Small.{grown_small}
use Rattle.heights.specs.Heights.{eighths, on_mesh, height_sum, places}
use Rattle.heights.proofs.Points.{far_edge}
use Rattle.projector.specs.declared.Corner.{Corner}
use Rattle.projector.specs.Projector.{line_at, corner_at, corner_of}
use Rattle.projector.specs.Steps.{Numbers}

-- ---- a line of a level, among those of the last

pub line_le : (p : Plan) (b k x : ℕ) → k < p.levels → x ≤ grown (ratio p) b k → line_at p k x ≤ grown (ratio p) b (p.levels - 1)
unfolding line_at grown eighths
line_le p b k x l h = omega (arith, far_edge p k b l, mul-le-mul_right (8 * ratio p ^ (p.levels - 1 - k)) h)

-- ---- the corners of a cell: a is 0 for its left line and 1 for its right, b 0 for the lower and 1 for the upper

pub record OnLines (p : Plan) (c : Place) (a b : ℕ) : Type 0 where
  pub column≤ : c.column + a ≤ 2048
  pub row≤ : c.row + b ≤ 2048
  pub across≤ : line_at p c.level (c.column + a) ≤ 2048
  pub up≤ : line_at p c.level (c.row + b) ≤ 2048
  pub inside : T (on_mesh p (line_at p c.level (c.column + a) * 8) (line_at p c.level (c.row + b) * 8))

pub on_lines : (p : Plan) (c : Place) {a b : ℕ} → InRange p → CellInside p c → a ≤ 1 → b ≤ 1 → OnLines p c a b
unfolding on_mesh
on_lines p c {a} {b} range i ha hb =
    let k = c.level in
    let l : k < 8 = omega (arith, i.level<, range.levels≤) in
    let m : p.levels - 1 < 8 = omega (arith, range.levels≤) in
    let x : line_at p k (c.column + a) ≤ columns_at p (p.levels - 1) = line_le p p.columns k (c.column + a) i.level< (omega (arith, i.column<)) in
    let y : line_at p k (c.row + b) ≤ rows_at p (p.levels - 1) = line_le p p.rows k (c.row + b) i.level< (omega (arith, i.row<)) in
    record {
      column≤ = omega (arith, i.column<, grown_small p {k = k} range.columns≤ l);
      row≤ = omega (arith, i.row<, grown_small p {k = k} range.rows≤ l);
      across≤ = omega (arith, x, grown_small p {k = p.levels - 1} range.columns≤ m);
      up≤ = omega (arith, y, grown_small p {k = p.levels - 1} range.rows≤ m);
      inside = and_i (leb (line_at p k (c.column + a) * 8) (columns_at p (p.levels - 1) * 8)) _ (le→leb _ _ (mul-le-mul_right 8 x)) (le→leb (line_at p k (c.row + b) * 8) _ (mul-le-mul_right 8 y));
    }

pub on_mesh_lem : {p : Plan} {c : Place} {a b x y : ℕ} → OnLines p c a b → x ≡ line_at p c.level (c.column + a) * 8 → y ≡ line_at p c.level (c.row + b) * 8
    → T (on_mesh p x y)
on_mesh_lem o ex ey = rw (ex, ey) o.inside

-- a small number as a float
whole : (n : ℕ) → n ≤ 2048 → of_int binary64 (pos n) ≡ dyadic 0 (pos n)
whole n h = cast (pos n) (lt_of_le_of_lt h (lit< tt))

pub corner_is : (p : Plan) (functions : List ℕ) (heights : List ℤ) (c : Place) (a b : ℕ) {x y : ℕ} {h : Float} → OnLines p c a b
    → x ≡ line_at p c.level (c.column + a) → y ≡ line_at p c.level (c.row + b)
    → h ≡ dyadic (places p.levels) (height_sum p functions heights (x * 8) (y * 8))
    → ◌≡◌ {A = Corner} (record { across = of_int binary64 (pos x); up = of_int binary64 (pos y); height = h }) (corner_of p functions heights c a b)
unfolding corner_of corner_at
corner_is p functions heights c a b {x} {y} o ex ey eh =
    rw (eh, whole x (rw ex o.across≤), whole y (rw ey o.up≤), ex, ey)

-- ---- none of its floats is a NaN

pub numbers : (p : Plan) (functions : List ℕ) (heights : List ℤ) (c : Place) (a b : ℕ) {k : Corner} → k ≡ corner_of p functions heights c a b → Numbers k
unfolding corner_of corner_at
numbers p functions heights c a b e = rw e (record { across = is_number 0 _; up = is_number 0 _; height = is_number _ _ })
