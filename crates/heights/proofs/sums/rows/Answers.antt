-- `rows` meets its contract: row by row. Assumes nothing.
use mathlib.Core.Path.{◌≡◌}
use Prim.Native.Nat.{◌+◌}
use native.Mathlib.Omega.{arith}
use lib.Ieee.{of_bits}
use Rattle.exact.specs.Dyadic.{dyadic}
use Rattle.exact.specs.Sums.{sumℤ}
use Rattle.heights.specs.Steps.{level_sum}
use Rattle.heights.proofs.Turns.{turn_row}
use borrow.Author.Rules.{rules}
use Rattle.heights.proofs.sums.rows.Goals as goal

pub loop-i-init : goal.loop-i-init
unfolding of_bits dyadic sumℤ
loop-i-init c = search rules

pub loop-i-preserved : goal.loop-i-preserved
loop-i-preserved c = let s = c in turn_row s.requires.rows s.args.part.is_unit.levels≤ (omega arith) c.loop-i.invariant (rw c.value.ensures at c.row-sum.ensures)

pub returns : goal.returns
unfolding level_sum
returns c = let k : c.loop-i.i ≡ c.args.up.degree + 1 = omega arith in rw k at c.loop-i.invariant
