-- `cover::read_level` meets its contract. The invariant: the rows so far, and where the next begins. Assumes nothing.
use mathlib.Core.Path.{◌≡◌}
use Prim.Native.Nat.{◌*◌}
use Rattle.facts.specs.Mapped.{filled}
use Rattle.cover.specs.Level.{level_read}
use Rattle.cover.proofs.read_level.Given as goal

abbrev pub invariant-loop-row : goal.invariant-loop-row
invariant-loop-row l = (l.to ≡ l.row * l.across.cells) × (l.out ≡ filled 0 l.to (level_read l.across l.up l.table) l.initial.out)
