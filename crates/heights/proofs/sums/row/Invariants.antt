-- `row` meets its contract: function by function, those that are active. Assumes nothing.
use mathlib.Core.Path.{◌≡◌}
use Prim.Native.Nat.{◌+◌, ◌*◌}
use Rattle.exact.specs.Dyadic.{dyadic}
use Rattle.exact.specs.Sums.{sumℤ}
use Rattle.splines.specs.Local.{piece_of}
use Rattle.heights.specs.Heights.{places, product_of}
use Rattle.heights.proofs.sums.row.Given as goal

abbrev pub invariant-loop-j : goal.invariant-loop-j
invariant-loop-j l = l.sum ≡ dyadic (places l.part.levels) (sumℤ l.j (λ i. product_of l.functions l.heights (l.first + i) (piece_of l.across i * l.value)))
