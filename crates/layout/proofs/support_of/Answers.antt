-- `layout::support_of` meets its contract: the rectangle in closed form lies between the knots. Assumes nothing.
use mathlib.Core.Path.{sym, ap, ◌∙◌}
use native.Mathlib.Omega.{arith}
use Rattle.grid.specs.Spans.{support_of}
use Rattle.grid.proofs.Laws.{function_inside}
use Rattle.layout.specs.Layout.{answered}
use Rattle.layout.proofs.Found.{functions_below, support_found, support_none, support_is}
use Rattle.layout.proofs.support_of.Goals as goal

pub function_place-requires : goal.function_place-requires
function_place-requires c = let (r, l) = functions_below c.args.plan c.args.function (omega arith) in record { in_range = r; function_bound = l }

pub support_of-requires : goal.support_of-requires
support_of-requires c = let (r, l) = functions_below c.args.plan c.args.function (omega arith) in
    record { in_range = r; function_inside = rw c.function_place.ensures (function_inside _ r _ l) }

pub returns-then-function-functions_len : goal.returns-then-function-functions_len
returns-then-function-functions_len c = let (r, l) = functions_below c.args.plan c.args.function (omega arith) in
    c.into.ensures
    ∙ (ap answered (c.support_of.ensures ∙ ap (support_of c.args.plan) c.function_place.ensures)
    ∙ sym (support_found c.args.plan c.args.function (omega arith) ∙ support_is _ r _ (function_inside _ r _ l)))

pub returns-else-function-functions_len : goal.returns-else-function-functions_len
returns-else-function-functions_len c = rw (support_none c.args.plan c.args.function (omega arith)) (λ j. record {
  found = c.default.ensures.0 j;
  level = c.default.ensures.1.0 j;
  first_row = c.default.ensures.1.1.0 j;
  end_row = c.default.ensures.1.1.1.0 j;
  first_column = c.default.ensures.1.1.1.1.0 j;
  end_column = c.default.ensures.1.1.1.1.1 j;
})
