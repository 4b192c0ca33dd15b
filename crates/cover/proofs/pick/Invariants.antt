-- `cover::pick` meets its contract. The invariant: the entries so far. Assumes nothing.
use mathlib.Core.Path.{◌≡◌}
use Rattle.facts.specs.Mapped.{filled}
use Rattle.cover.specs.Level.{picked}
use Rattle.cover.proofs.pick.Given as goal

abbrev pub invariant-loop-i : goal.invariant-loop-i
invariant-loop-i l = l.out ≡ filled 0 l.i (picked l.functions l.least) l.initial.out
