-- `rows` meets its contract: row by row. Assumes nothing.
use mathlib.Core.Path.{◌≡◌}
use Prim.Native.Nat.{◌+◌, ◌*◌}
use Rattle.exact.specs.Dyadic.{dyadic}
use Rattle.exact.specs.Sums.{sumℤ}
use Rattle.splines.specs.Local.{piece_of}
use Rattle.heights.specs.Heights.{places}
use Rattle.heights.specs.Steps.{row_sum}
use Rattle.heights.proofs.sums.rows.Given as goal

abbrev pub invariant-loop-i : goal.invariant-loop-i
invariant-loop-i l = l.sum ≡ dyadic (places l.part.levels) (sumℤ l.i (λ n. row_sum l.functions l.heights (l.first + n * l.width) l.across (piece_of l.up n)))
