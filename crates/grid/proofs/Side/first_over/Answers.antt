-- `Side::first_over` meets its contract. Assumes nothing.
use mathlib.Core.Path.{refl, sym}
use Prim.Native.Nat.{◌-◌, ◌*◌, ◌/◌, ◌≤◌}
use native.Mathlib.Omega.{arith}
use Rattle.grid.specs.Knots.{corners_to, first_over}
use Rattle.grid.proofs.Knots.{plain_first}
use Rattle.grid.proofs.Sides.{extra_small, quotient}
use Rattle.grid.proofs.Side.first_over.Goals as goal

pub returns-then-self-eq0 : goal.returns-then-self-eq0
returns-then-self-eq0 c = sym (plain_first c.args.self c.if-self-eq0.true c.args.x)

extra : (c : goal.After-corners_to) → let a = c.args in (a.self.degree - 1) * corners_to a.self.corners (a.x / a.self.unit) ≤ 45
extra c = let s = c in
    extra_small s.args.self s.requires.side_in _ (quotient s.args.self s.requires.side_in s.args.x s.requires.x_lt_cells)

pub overflow_mul-result : goal.overflow_mul-result
overflow_mul-result c = rw c.corners_to.ensures (omega (arith, extra c))

pub overflow_add-result : goal.overflow_add-result
overflow_add-result c = let s = c in rw c.corners_to.ensures (omega (arith, extra c, s.requires.x_lt_cells, s.requires.side_in.cells≤))

pub returns : goal.returns
unfolding first_over
returns c = rw c.corners_to.ensures refl
