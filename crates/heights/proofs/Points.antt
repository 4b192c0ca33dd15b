-- Points of a mesh are points of each level's sides; what makes a millimetre. Assumes nothing.
use mathlib.Core.Path.{◌≡◌, refl, sym, ap, ◌∙◌}
use Prim.Native.Nat.{ℕ, zero, suc, ◌+◌, ◌-◌, ◌*◌, ◌^◌, ◌≤◌, ◌<◌}
use native.Mathlib.Nat.{add_assoc, mul-le-mul_left, pow-suc}
use native.Mathlib.Omega.{arith}
use lib.Dec.{leb, leb→le}
use lib.Pow.{pow-add, pow_pos, pow_mono}
use Rattle.facts.proofs.Tests.{and_l, and_r}
use Rattle.grid.specs.declared.Plan.{Plan}
use Rattle.grid.specs.declared.Place.{Place}
use Rattle.grid.specs.Numbering.{number}
use Rattle.grid.specs.Plan.{ratio, grown, columns_at, rows_at, across_at, up_at, function_columns_at, function_rows_at, function_offset, function_place, function_number, FunctionInside}
use Rattle.grid.specs.Range.{InRange}
use Rattle.grid.proofs.Laws.{function_place_number}
use Rattle.grid.proofs.Sides.{across_in, up_in}
use Rattle.splines.specs.Claims.{OnSide}
use Rattle.splines.specs.Room.{InRoom}
use Rattle.heights.specs.Heights.{eighths, on_mesh, one_at, places}
use Rattle.heights.specs.Steps.{Point}

-- ---- the points of a cell

module _ (p : Plan) (k : ℕ) where
  pub eighths_pos : 1 ≤ eighths p k
  unfolding eighths ratio
  eighths_pos = omega (arith, pow_pos (p.levels - 1 - k))

  pub eighths_small : p.levels ≤ 4 → eighths p k ≤ 64
  unfolding eighths ratio
  eighths_small l = mul-le-mul_left 8 (pow_mono {i = p.levels - 1 - k} {j = 3} (omega arith))

  -- from the last level up
  pub eighths_up : 1 ≤ k → k < p.levels → eighths p k * ratio p ≡ eighths p (k - 1)
  unfolding eighths
  eighths_up g l = let z : p.levels - 1 - (k - 1) ≡ suc (p.levels - 1 - k) = omega arith in rw (z, pow-suc) (omega arith)

  -- a side of b cells on level 0 is as long on level k as on the last
  pub far_edge : (b : ℕ) → k < p.levels → grown (ratio p) b (p.levels - 1) * 8 ≡ grown (ratio p) b k * eighths p k
  unfolding grown eighths
  far_edge b l =
      let e : p.levels - 1 ≡ k + (p.levels - 1 - k) = omega arith in
      ap (λ z. b * ratio p ^ z * 8) e ∙ rw (pow-add (ratio p) k (p.levels - 1 - k)) (omega arith)

-- ---- both sides of a level

module _ (p : Plan) (x y : ℕ) (s : Point p x y) (k : ℕ) (l : k < p.levels) where
  across_le : x ≤ columns_at p (p.levels - 1) * 8
  unfolding on_mesh
  across_le = leb→le x _ (and_l (leb x (columns_at p (p.levels - 1) * 8)) _ s.inside)

  up_le : y ≤ rows_at p (p.levels - 1) * 8
  unfolding on_mesh
  up_le = leb→le y _ (and_r (leb x (columns_at p (p.levels - 1) * 8)) (leb y (rows_at p (p.levels - 1) * 8)) s.inside)

  pub on_across : OnSide (across_at p k) (eighths p k) x
  on_across = record {
    sized = (across_in p s.range k l).sized;
    degree≤ = s.across≤;
    parts≥ = eighths_pos p k;
    point≤ = omega (arith, across_le, far_edge p k p.columns l);
  }

  pub on_up : OnSide (up_at p k) (eighths p k) y
  on_up = record {
    sized = (up_in p s.range k l).sized;
    degree≤ = s.up≤;
    parts≥ = eighths_pos p k;
    point≤ = omega (arith, up_le, far_edge p k p.rows l);
  }

  pub across_room : InRoom (across_at p k) (eighths p k)
  across_room = record { side = across_in p s.range k l; parts≤ = eighths_small p k s.levels≤ }

  pub up_room : InRoom (up_at p k) (eighths p k)
  up_room = record { side = up_in p s.range k l; parts≤ = eighths_small p k s.levels≤ }

-- ---- the functions of a level, by row and column

module _ (p : Plan) (range : InRange p) (k : ℕ) (l : k < p.levels) where
  abbrev pub at : ℕ → ℕ → Place
  at r c = record { level = k; row = r; column = c }

  pub number_at : (r c : ℕ) → function_number p (at r c) ≡ function_offset p k + (r * function_columns_at p k + c)
  unfolding number
  number_at r c = add_assoc (function_offset p k) (r * function_columns_at p k) c

  module _ (r c : ℕ) (m : r < function_rows_at p k) (n : c < function_columns_at p k) where
    pub at_inside : FunctionInside p (at r c)
    at_inside = record { level< = l; row< = m; column< = n }

    pub place_at : function_place p (function_offset p k + (r * function_columns_at p k + c)) ≡ at r c
    place_at = ap (function_place p) (sym (number_at r c)) ∙ function_place_number p range (at r c) at_inside

-- ---- millimetres

sixteen : (k : ℕ) → 16 ^ k ≡ 2 ^ (4 * k)
sixteen zero = refl
sixteen (suc k) = let e : 4 * suc k ≡ 4 * k + 4 = omega arith in rw (pow-suc 16 k, e, pow-add 2 (4 * k) 4, sixteen k)

-- 8 * x parts to a cell
fourth : (x : ℕ) → 2 * (8 * x) * (8 * x) * (2 * (8 * x) * (8 * x)) ≡ 2 ^ 14 * (x * x * (x * x))
fourth x = omega arith

pub millimetre : (p : Plan) (k : ℕ) → k < p.levels → 16 ^ k * one_at p k ≡ 2 ^ places p.levels
unfolding one_at eighths ratio
millimetre p k l =
    let d = p.levels - 1 - k in
    let e : 4 * k + (14 + (d + d + (d + d))) ≡ 10 + 4 * p.levels = omega arith in
    rw (sixteen k, fourth (2 ^ d), ← pow-add 2 d d, ← pow-add 2 (d + d) (d + d), ← pow-add 2 14 (d + d + (d + d)), ← pow-add 2 (4 * k) (14 + (d + d + (d + d))), e)
