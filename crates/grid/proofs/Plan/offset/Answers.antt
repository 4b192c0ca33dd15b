-- `Plan::offset` meets its contract. The invariant: the sum is the offset of level k. Assumes nothing.
use mathlib.Core.Path.{◌≡◌, sym}
use Prim.Native.Nat.{◌+◌, ◌*◌, ◌≤◌}
use native.Mathlib.Omega.{arith}
use Rattle.grid.specs.Plan.{widened, columns_at, rows_at}
use Rattle.grid.specs.Numbering.{offset}
use Rattle.grid.proofs.Small.{offset_small}
use Rattle.grid.proofs.Levels.{offset_zero, offset_next}
use Rattle.grid.proofs.Plan.offset.Goals as goal

pub loop-k-init : goal.loop-k-init
loop-k-init c = sym (offset_zero (widened (columns_at c.args.self) c.args.across) (widened (rows_at c.args.self) c.args.up))

-- what one turn adds
turn : (c : goal.After-area-sum) → let d = c in let a = d.args in let o = offset (widened (columns_at a.self) a.across) (widened (rows_at a.self) a.up) in (d.loop-k.sum + c.area-sum.result ≡ o (d.loop-k.k + 1)) × (o (d.loop-k.k + 1) ≤ 4397409 * (d.loop-k.k + 1))
turn c = let d = c in let s = d in let a = s.args in (
  rw (d.loop-k.invariant, c.area-sum.ensures) (sym (offset_next (widened (columns_at a.self) a.across) (widened (rows_at a.self) a.up) d.loop-k.k)),
  offset_small a.self s.requires.in_range a.across a.up s.requires.beyond (d.loop-k.k + 1) (omega arith),
)

pub overflow_add-sum : goal.overflow_add-sum
overflow_add-sum c = omega (arith, turn c)

pub loop-k-preserved : goal.loop-k-preserved
loop-k-preserved c = (turn c).0
