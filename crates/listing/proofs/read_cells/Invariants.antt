-- `read_cells` meets its contract: the differences that are left, behind the last cell so far, say how it ends. Assumes nothing.
use mathlib.Core.Path.{◌≡◌}
use Prim.Native.Nat.{◌+◌, ◌-◌, ◌*◌, ◌≤◌, ◌<◌}
use lib.ListN.{length, drop}
use Rattle.codec.specs.Fitting.{number_limit}
use Rattle.listing.specs.Judged.{judge_behind}
use Rattle.listing.proofs.read_cells.Given as goal

abbrev pub invariant-loop : goal.invariant-loop
invariant-loop l = (judge_behind (l.count - 1) l.cell (drop l.initial.at l.s) ≡ judge_behind (l.count - l.counter) l.last (drop l.at l.s)) × (l.at ≤ length l.s)
    × (l.last + number_limit * (l.count - l.counter) < number_limit * l.count)
