-- `pass_row` meets its contract: child by child. Assumes nothing.
use Prim.Native.Nat.{◌+◌}
use Rattle.carry.specs.Steps.{row_quarters}
use Rattle.carry.proofs.Portions.{PassedTo}
use Rattle.carry.proofs.pass_row.Given as goal

abbrev pub invariant-loop-j : goal.invariant-loop-j
invariant-loop-j l = PassedTo (row_quarters l.begin l.children) l.height (l.begin + l.j) l.initial.heights l.heights
