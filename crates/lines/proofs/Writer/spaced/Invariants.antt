-- `spaced` meets its contract: whoever writes what is left has written all the items. Assumes nothing.
use mathlib.Core.Path.{◌≡◌}
use Prim.Native.Nat.{ℕ, ◌+◌, ◌≤◌}
use mathlib.Core.List.{List}
use lib.ListN.{length, drop}
use Rattle.lines.specs.Writing.{spaced}
use Rattle.facts.specs.Writing.{Writes}
use Rattle.lines.proofs.Writer.spaced.Given as goal

abbrev pub invariant-loop-item : goal.invariant-loop-item
invariant-loop-item l = (l.self.out.ghost_name ≡ l.initial.self.out.ghost_name) × (l.self.at + length (spaced (drop l.item-index l.list)) ≤ length l.self.out.now)
    × ((f : ℕ) (new : List ℕ) → Writes l.self.out.now l.self.at (spaced (drop l.item-index l.list)) f new → Writes l.initial.self.out.now l.initial.self.at (spaced l.list) f new)
