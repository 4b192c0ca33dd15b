-- `read_corners` meets its contract: two numbers, and not both 0. Assumes nothing.
use mathlib.Core.Path.{sym, ◌∙◌}
use Rattle.files.proofs.CornerNumbers.{none_left, first_bad, second_bad, both_zeros, both_found}
use Rattle.files.proofs.read_corners.Goals as goal

pub returns-then-s-from : goal.returns-then-s-from
returns-then-s-from c = none_left c.args.s.now c.args.from c.requires c.if-s-from.true

pub returns-in_err-across : goal.returns-in_err-across
returns-in_err-across c = let a = c.args in
    rw c.from_residual.ensures (first_bad a.s.now a.from c.if-s-from.false c.in_err-across.ensures)

pub returns-in_err-up : goal.returns-in_err-up
returns-in_err-up c = let a = c.args in
    rw c.from_residual-in_err-up.ensures (second_bad a.s.now a.from c.if-s-from.false c.in_ok-across.ensures c.in_err-up.ensures)

pub returns-then-zeros : goal.returns-then-zeros
returns-then-zeros c = let a = c.args in
    both_zeros a.s.now a.from c.if-s-from.false c.in_ok-across.ensures c.in_ok-up.ensures (sym c.no_corners-zeros.ensures ∙ c.if-zeros.true)

-- what is accepted has a corner
pub returns : goal.returns
returns c = let a = c.args in
    both_found a.s.now a.from c.if-s-from.false c.in_ok-across.ensures c.in_ok-up.ensures (sym c.no_corners-zeros.ensures ∙ c.if-zeros.false)
