-- `only_active` meets its contract: function by function. Assumes nothing.
use Rattle.carry.proofs.Starts.{ActiveTo}
use Rattle.carry.proofs.only_active.Given as goal

abbrev pub invariant-loop-i : goal.invariant-loop-i
invariant-loop-i l = ActiveTo l.functions l.heights l.i l.out
