-- What code finds of a point is where it lies. Assumes nothing.
use mathlib.Core.Path.{◌≡◌, refl, ◌∙◌}
use Prim.Native.Nat.{ℕ, suc, ◌+◌, ◌-◌, ◌*◌, ◌<◌, ◌≤◌}
use native.Mathlib.Nat.{mul-le-mul, le_trans}
use native.Mathlib.Numerals.{add-one}
use native.Mathlib.Omega.{arith}
use lib.Dec.{ltb}
use Rattle.grid.specs.declared.Side.{Side}
use Rattle.grid.specs.Knots.{times}
use Rattle.grid.proofs.Knots.{some_cells}
use Rattle.splines.specs.Values.{cell_of}
use Rattle.splines.specs.Local.{outer, local_of}
use Rattle.splines.specs.Claims.{OnSide}
use Rattle.splines.proofs.Local.{Point}
use Rattle.splines.proofs.Cells.{cell_inside, cell_point}
use Rattle.splines.proofs.Sides.{outers}

-- products are small
pub small : {h v : ℕ} → v ≤ h → h ≤ 64 → h * v ≤ 4096
small a b = mul-le-mul b (le_trans a b)

pub square : {h v : ℕ} → v ≤ h → h ≤ 64 → v * v ≤ 4096
square a b = mul-le-mul (le_trans a b) (le_trans a b)

module _ {s : Side} {h x c : ℕ} (on : OnSide s h x) (e : c ≡ cell_of h s.cells x) where
  pub inside : c < s.cells
  inside = rw e (cell_inside h s.cells x (some_cells s on.sized))

  pub point : Point h c x (x - c * h) (suc c * h - x)
  point = rw e (cell_point h s.cells x on.parts≥ (some_cells s on.sized) on.point≤)

  pub starts : c * h ≤ x
  starts = omega (arith, point.place)

  pub ends : x ≤ suc c * h
  ends = omega (arith, point.place, point.parts)

  pub before_le : x - c * h ≤ h
  before_le = omega (arith, point.parts)

  behind_is : h - (x - c * h) ≡ suc c * h - x
  behind_is = omega (arith, point.parts)

  module _ {low high t t' : ℕ} (k : t ≡ times s c) (a : low ≡ outer s.degree (ltb 1 t) h (h - (x - c * h))) (k' : t' ≡ times s (c + 1)) (b : high ≡ outer s.degree (ltb 1 t') h (x - c * h)) where
    low_is : low ≡ (local_of s h x).low
    unfolding local_of
    low_is = a ∙ rw (behind_is, k, e)

    high_is : high ≡ (local_of s h x).high
    unfolding local_of
    high_is = b ∙ rw (k', add-one, e)

    pub rest : low + high ≤ 2 * h * h
    unfolding local_of
    rest = omega (arith, low_is, high_is, outers s h x on)

    pub located : record { degree = s.degree; cell = c; low = low; middle = 2 * h * h - low - high; high = high } ≡ local_of s h x
    located = rw (low_is, high_is, e) (unfold local_of in refl)
