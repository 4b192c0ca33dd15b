-- `mark_cells` meets its contract: what is left to mark, on the table so far, is what was to be marked. Assumes nothing.
use mathlib.Core.Path.{◌≡◌}
use Prim.Native.Nat.{◌-◌}
use lib.ListN.{drop}
use Rattle.codec.specs.Numbers.{decode_behind, decode_rising}
use Rattle.listing.specs.Judged.{ends_of, judge_behind}
use Rattle.listing.specs.Cells.{marked_by}
use Rattle.listing.proofs.mark_cells.Given as goal

abbrev pub invariant-loop : goal.invariant-loop
invariant-loop l = (judge_behind (l.count - l.counter) l.last (drop l.at l.s) ≡ ends_of 0 (decode_rising l.count (drop l.first l.s)))
    × (marked_by (decode_behind (l.count - l.counter) l.last (drop l.at l.s)) l.table ≡ marked_by (decode_rising l.count (drop l.first l.s)) l.fn.table)
