-- `Side::columns_before` meets its contract: the corners so far are passed. Assumes nothing.
use mathlib.Core.Path.{◌≡◌, sym, subst}
use Prim.Native.Nat.{◌-◌}
use native.Mathlib.Omega.{arith}
use Rattle.grid.specs.Side.{before}
use Rattle.grid.proofs.Turns.{before_none, before_next, before_plain}
use Rattle.grid.proofs.Side.columns_before.Goals as goal

pub loop-c-init : goal.loop-c-init
loop-c-init c = before_none _ _ _ _

pub loop-c-preserved : goal.loop-c-preserved
loop-c-preserved c = let s = c.args in
    let l = c.loop-c in
    rw (c.passed-line.ensures, l.invariant) (before_next s.self.corners (s.self.degree - 1) s.self.unit l.c s.j (omega arith))

pub returns-then-self-eq0 : goal.returns-then-self-eq0
returns-then-self-eq0 c = let s = c.args in
    let e : s.self.corners ≡ 0 = omega arith in
    subst (λ b. s.j ≡ before b (s.self.degree - 1) s.self.unit (s.self.base - 1) s.j) (sym e) (before_plain _ _ _ _)
