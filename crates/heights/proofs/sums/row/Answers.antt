-- `row` meets its contract: function by function, those that are active. Assumes nothing.
use mathlib.Core.Path.{◌≡◌, ◌∙◌}
use Prim.Native.Nat.{◌+◌, ◌≤◌}
use native.Mathlib.Omega.{arith}
use lib.Ieee.{of_bits}
use lib.IntN.{pos}
use lib.ListN.{get_or}
use Rattle.exact.specs.Dyadic.{dyadic}
use Rattle.exact.specs.Sums.{sumℤ}
use Rattle.heights.specs.Steps.{row_sum}
use Rattle.heights.proofs.Turns.{element, active_size, turn_active, turn_idle}
use borrow.Author.Rules.{rules}
use Rattle.heights.proofs.sums.row.Goals as goal
use Rattle.heights.proofs.sums.row.Goals.{then-functions-at-eq1, else-functions-at-eq1}

pub loop-j-init : goal.loop-j-init
unfolding of_bits dyadic sumℤ
loop-j-init c = search rules

pub product-sum-requires : goal.product-sum-requires
product-sum-requires c = let s = c in
    let at = s.args.first + c.loop-j.j in
    let is_active : get_or s.args.functions.now at 0 ≡ 1 = omega (arith, c.if-functions-at-eq1.true) in record { value_bound = rw (element (get_or s.args.heights.now at (pos 0)) c.product-arg-1.given, c.value.ensures) (active_size {levels = s.args.part.levels} s.requires.row s.args.part.is_unit.levels≤ (omega arith) is_active) }

pub loop-j-preserved : goal.loop-j-preserved
loop-j-preserved c = let s = c in
    let l = c.loop-j in
    let at = s.args.first + l.j in
    let m : l.j ≤ s.args.across.degree = omega arith in
    elim c.if-functions-at-eq1.branch [
      | then-functions-at-eq1 w ↦
          w.sum-is ∙ turn_active s.requires.row s.args.part.is_unit.levels≤ m w.if-functions-at-eq1.true l.invariant
          (rw (element (get_or s.args.heights.now at (pos 0)) w.product-arg-1.given, w.value.ensures) at w.product-sum.ensures)
      | else-functions-at-eq1 w ↦ w.sum-is ∙ turn_idle s.requires.row s.args.part.is_unit.levels≤ m w.if-functions-at-eq1.false l.invariant
    ]

pub returns : goal.returns
unfolding row_sum
returns c = let k : c.loop-j.j ≡ c.args.across.degree + 1 = omega arith in rw k at c.loop-j.invariant
