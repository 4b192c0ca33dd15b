-- `Side::columns_before` meets its contract: the corners so far are passed. Assumes nothing.
use mathlib.Core.Path.{◌≡◌}
use Prim.Native.Nat.{◌-◌}
use Rattle.grid.specs.Side.{before}
use Rattle.grid.proofs.Side.columns_before.Given as goal

abbrev pub invariant-loop-c : goal.invariant-loop-c
invariant-loop-c l = l.line ≡ before l.self.corners l.more l.self.unit (l.c - 1) l.j
