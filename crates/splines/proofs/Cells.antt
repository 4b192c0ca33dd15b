-- The cell of a point. Assumes nothing.
use mathlib.Core.Path.{◌≡◌, ap}
use Prim.Native.Nat.{ℕ, suc, min, ◌-◌, ◌*◌, ◌/◌, ◌<◌, ◌≤◌}
use native.Mathlib.Nat.{mul-div_cancel, lt-div-mul-add, div-mul-le_self, mul-le-mul_right}
use native.Mathlib.Omega.{arith}
use lib.Dec.{leb, leb→le, nleb→lt}
use Rattle.facts.proofs.Tests.{cases}
use Rattle.splines.specs.Values.{cell_of}
use Rattle.splines.proofs.Local.{Point}

-- a point of the level is a point of its cell
pub cell_inside : (h n x : ℕ) → 1 ≤ n → cell_of h n x < n
unfolding cell_of
cell_inside h n x g = omega arith

-- on a line it is the one behind it
pub cell_line : (h n c : ℕ) → 1 ≤ h → c < n → cell_of h n (c * h) ≡ c
unfolding cell_of
cell_line h n c g l = rw (mul-div_cancel c {n = h} g) (omega arith)

point_of : (h c x : ℕ) → c * h ≤ x → x ≤ suc c * h → Point h c x (x - c * h) (suc c * h - x)
point_of h c x a b = record { place = omega arith; parts = omega arith }

pub cell_point : (h n x : ℕ) → 1 ≤ h → 1 ≤ n → x ≤ n * h → Point h (cell_of h n x) x (x - cell_of h n x * h) (suc (cell_of h n x) * h - x)
unfolding cell_of
cell_point h n x g k b =
    cases (leb (x / h) (n - 1))
    (λ y. let e : min (x / h) (n - 1) ≡ x / h = omega (arith, leb→le (x / h) (n - 1) y) in
    rw e (point_of h (x / h) x (div-mul-le_self x h) (omega (arith, lt-div-mul-add {a = x} {b = h} g))))
    (λ y. let l = nleb→lt (x / h) (n - 1) y in
    let e : min (x / h) (n - 1) ≡ n - 1 = omega arith in
    let w : n - 1 ≤ x / h = omega arith in
    let z : suc (n - 1) ≡ n = omega arith in
    rw e (point_of h (n - 1) x (omega (arith, div-mul-le_self x h, mul-le-mul_right h w)) (omega (arith, ap (λ k. k * h) z))))
