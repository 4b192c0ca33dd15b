-- `refine` meets its contract: each refusal is the outcome's, and so is what is written. Assumes nothing.
use mathlib.Core.Path.{◌≡◌, refl, sym, ap, ◌∙◌}
use Prim.Native.Nat.{◌≤◌}
use native.Mathlib.Omega.{arith}
use Rattle.refusals.specs.Numbers.{number_of}
use Rattle.refusals.proofs.Refused.{refused, handed_on}
use Rattle.facts.proofs.Zeros.{zeros, part_length}
use Rattle.grid.specs.Bounds.{most_cells, most_functions}
use Rattle.grid.specs.Plan.{function_total}
use Rattle.grid.proofs.Totals.{functions_bound}
use Rattle.mesh.specs.Mesh.{check}
use Rattle.mesh.proofs.Bridge.{Passed, check_passed}
use Rattle.calls.specs.Parts.{by_of}
use Rattle.refining.specs.Refining.{tables_refusal}
use Rattle.refining.proofs.Outcomes.{tables_none}
use Rattle.refining.proofs.Whole.{tables_refused, make_refused, ready, finished_is}
use Rattle.refining.proofs.refine.Goals as goal
use Rattle.refining.proofs.refine.Goals.{In_ok-checked}

pub returns-in_err-checked : goal.returns-in_err-checked
returns-in_err-checked c = let e = c.in_err-checked in
    rw (handed_on _ c.from_residual.ensures.1)
    (tables_refused (by_of c.args.by) c.args.plan _ _ _ _ _ _ refl (refused e.field-0.0) (ap number_of (sym e.was) ∙ c.requires))

-- past the first test neither the tables nor the heights are refused
fine : (c : In_ok-checked) → let a = c.args in tables_refusal a.plan a.cells.now a.functions.now a.heights.now ≡ 0
fine c = sym (ap number_of (sym c.in_ok-checked.was) ∙ c.requires)

passes : (c : In_ok-checked) → let a = c.args in check a.plan a.cells.now a.functions.now ≡ 0
passes c = (tables_none _ _ _ _ (fine c)).0

passed : (c : In_ok-checked) → let a = c.args in Passed a.plan a.cells.now a.functions.now
passed c = check_passed _ _ _ (passes c)

few : (c : In_ok-checked) → function_total c.args.plan ≤ most_functions
few c = functions_bound _ (passed c).range (passed c).small

pub cell_total-total-requires : goal.cell_total-total-requires
cell_total-total-requires c = (passed (c)).range

pub function_total-count-requires : goal.function_total-count-requires
function_total-count-requires c = (passed (goal.at.function_total-count-requires c).In_ok-checked).range

pub slice_bounds-cell_room-end : goal.slice_bounds-cell_room-end
slice_bounds-cell_room-end c = omega (arith, (passed (goal.at.slice_bounds-cell_room-end c).In_ok-checked).small)

pub slice_bounds-new_cells-end : goal.slice_bounds-new_cells-end
slice_bounds-new_cells-end c = zeros most_cells c.cell_total-total.result (omega (arith, (passed (goal.at.slice_bounds-new_cells-end c).In_ok-checked).small))

pub slice_bounds-function_room-end : goal.slice_bounds-function_room-end
slice_bounds-function_room-end c = omega (arith, few (goal.at.slice_bounds-function_room-end c).In_ok-checked)

pub slice_bounds-new_functions-end : goal.slice_bounds-new_functions-end
slice_bounds-new_functions-end c = zeros most_functions c.function_total-count.result (omega (arith, few (goal.at.slice_bounds-new_functions-end c).In_ok-checked))

pub make-requires : goal.make-requires
make-requires c = let k = c in
    record { functions_value = passes (goal.at.make-requires c).In_ok-checked; new_cells_len = (part_length most_cells _ c.cell_total-total.ensures (passed (goal.at.make-requires c).In_ok-checked).small, part_length most_functions _ c.function_total-count.ensures (few (goal.at.make-requires c).In_ok-checked)) }

pub returns-in_err-make : goal.returns-in_err-make
returns-in_err-make c = let a = c.args in
    let e = c.in_err-make in
    rw (handed_on _ c.from_residual-in_err-make.ensures.1)
    (make_refused (by_of a.by) a.plan _ _ _ _ _ _ refl (refused e.field-0.0) (fine (goal.at.returns-in_err-make c).In_ok-checked) e.ensures.is)

pub finish-requires : goal.finish-requires
finish-requires c = let a = c.args in
    ready (by_of a.by) a.plan a.cells.now a.functions.now a.heights.now a.marks.now a.cell_list.now a.function_list.now (fine (goal.at.finish-requires c).In_ok-checked) c.in_ok-make.ensures refl

pub returns : goal.returns
returns c = let a = c.args in
    c.finish.ensures
    ∙ finished_is (by_of a.by) a.plan a.cells.now a.functions.now a.heights.now a.marks.now a.cell_list.now a.function_list.now (fine (goal.at.returns c).In_ok-checked) c.in_ok-make.ensures refl
