-- `open` meets its contract: a wall is opened, or the one in hand kept. Assumes nothing.
use mathlib.Core.Path.{refl, sym, ◌∙◌}
use native.Mathlib.Omega.{arith}
use Rattle.refusals.proofs.Refused.{refused}
use Rattle.grid.proofs.Laws.{taken_range}
use Rattle.grid.proofs.Totals.{session_functions_bound}
use Rattle.lines.specs.Writing.{large}
use Rattle.script.proofs.Replies.{kept, opening_refused, opening_large, fresh}
use Rattle.script.proofs.open.Goals as goal

pub returns-in-Err : goal.returns-in-Err
returns-in-Err c =
    let e = c.in-Err in
    kept _ _ _ _ _ _ (opening_refused _ c.args.plan (λ z. refused e.refusal (e.ensures ∙ z)) ∙ rw (sym e.ensures) refl) c.say_answer-count.ensures

pub cell_total-total-requires : goal.cell_total-total-requires
cell_total-total-requires c = taken_range _ (sym c.in_default.ensures)

pub returns-then-total-gt-WALL_CELLS : goal.returns-then-total-gt-WALL_CELLS
returns-then-total-gt-WALL_CELLS c = kept _ _ _ _ _ large (opening_large c.args.plan (sym c.in_default.ensures) _ (omega (arith, c.if-total-gt-WALL_CELLS.true, c.cell_total-total.ensures))) c.say_large-count.ensures

pub function_total-labels-requires : goal.function_total-labels-requires
function_total-labels-requires c = taken_range _ (sym c.in_default.ensures)

pub slice_bounds-open-end-3 : goal.slice_bounds-open-end-3
slice_bounds-open-end-3 c = omega (arith, session_functions_bound c.args.plan (taken_range _ (sym c.in_default.ensures)) (omega (arith, c.if-total-gt-WALL_CELLS.false)))

pub returns : goal.returns
returns c =
    let tables = c.open-opened in
    fresh _ _ _ _ c.args.cells.now c.args.functions.now _ _ _ refl (sym c.in_default.ensures) (omega arith) (omega arith)
    tables.ensures.number tables.ensures.cells tables.ensures.functions tables.auto.cells tables.auto.functions c.say_answer-count-2.ensures
