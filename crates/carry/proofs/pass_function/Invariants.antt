-- `pass_function` meets its contract: row by row. Assumes nothing.
use Prim.Native.Nat.{◌+◌, ◌*◌}
use Rattle.carry.specs.Steps.{block_sixteenths}
use Rattle.carry.proofs.Portions.{PassedTo}
use Rattle.carry.proofs.pass_function.Given as goal

abbrev pub invariant-loop-row : goal.invariant-loop-row
invariant-loop-row l = PassedTo (block_sixteenths l.offset l.width l.up l.across) l.height (l.offset + l.row * l.width) l.initial.heights l.heights
