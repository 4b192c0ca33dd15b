-- `change` meets its contract: each refusal is the outcome's, and so are the two steps. Assumes nothing.
use mathlib.Core.Path.{◌≡◌, refl, sym, ap, ◌∙◌}
use Prim.Native.Nat.{◌≤◌}
use native.Mathlib.Omega.{arith}
use Rattle.refusals.specs.Numbers.{number_of}
use Rattle.refusals.proofs.Refused.{refused, handed_on}
use Rattle.facts.proofs.Zeros.{zeros, part_length}
use Rattle.grid.specs.Bounds.{most_cells, most_functions}
use Rattle.grid.specs.Plan.{function_total}
use Rattle.grid.proofs.Totals.{functions_bound}
use Rattle.mesh.specs.Mesh.{check}
use Rattle.mesh.proofs.Bridge.{Passed, check_passed}
use Rattle.calls.specs.Parts.{direction_of, by_of}
use Rattle.calls.proofs.Outcomes.{check_refused, mark_refused_lem, applicable, steps_are}
use Rattle.calls.proofs.change.Goals as goal
use Rattle.calls.proofs.change.Goals.{In_ok-checked}

pub returns-in_err-checked : goal.returns-in_err-checked
returns-in_err-checked c = let s = c in
    rw (handed_on _ c.from_residual.ensures.1)
    (check_refused (direction_of s.args.call.0) (by_of s.args.call.1) _ _ _ _ _ _ _ _ refl (refused c.in_err-checked.field-0.0) (ap number_of (sym c.in_err-checked.was) ∙ s.requires))

-- past the first test the tables pass check
passes : (c : In_ok-checked) → let a = c.args in check a.plan a.cells.now a.functions.now ≡ 0
passes c = sym (ap number_of (sym c.in_ok-checked.was) ∙ c.requires)

passed : (c : In_ok-checked) → let a = c.args in Passed a.plan a.cells.now a.functions.now
passed c = check_passed _ _ _ (passes c)

few : (c : In_ok-checked) → function_total c.args.plan ≤ most_functions
few c = functions_bound _ (passed c).range (passed c).small

pub cell_total-total-requires : goal.cell_total-total-requires
cell_total-total-requires c = (passed (goal.at.cell_total-total-requires c).In_ok-checked).range

pub function_total-count-requires : goal.function_total-count-requires
function_total-count-requires c = (passed (goal.at.function_total-count-requires c).In_ok-checked).range

pub slice_bounds-cell_room-end : goal.slice_bounds-cell_room-end
slice_bounds-cell_room-end c = omega (arith, (passed (goal.at.slice_bounds-cell_room-end c).In_ok-checked).small)

pub slice_bounds-flags-end : goal.slice_bounds-flags-end
slice_bounds-flags-end c = zeros most_cells c.cell_total-total.result (omega (arith, (passed (goal.at.slice_bounds-flags-end c).In_ok-checked).small))

pub slice_bounds-function_room-end : goal.slice_bounds-function_room-end
slice_bounds-function_room-end c = omega (arith, few (goal.at.slice_bounds-function_room-end c).In_ok-checked)

pub slice_bounds-values-end : goal.slice_bounds-values-end
slice_bounds-values-end c = zeros most_functions c.function_total-count.result (omega (arith, few (goal.at.slice_bounds-values-end c).In_ok-checked))

pub flag_marks-requires : goal.flag_marks-requires
flag_marks-requires c = let k = c in record {
  functions_value = passes (goal.at.flag_marks-requires c).In_ok-checked;
  scratch = record {
    flags_are = part_length most_cells _ c.cell_total-total.ensures (passed (goal.at.flag_marks-requires c).In_ok-checked).small;
    values_are = part_length most_functions _ c.function_total-count.ensures (few (goal.at.flag_marks-requires c).In_ok-checked);
  };
}

pub returns-in_err-flag_marks : goal.returns-in_err-flag_marks
returns-in_err-flag_marks c = let a = c.args in
    let e = c.in_err-flag_marks in
    rw (handed_on _ c.from_residual-in_err-flag_marks.ensures.1)
    (mark_refused_lem (direction_of a.call.0) (by_of a.call.1) _ _ _ _ _ _ _ _ refl (refused e.field-0.0) (passes (goal.at.returns-in_err-flag_marks c).In_ok-checked) e.ensures.number)

pub in_steps-requires : goal.in_steps-requires
in_steps-requires c = let a = c.args in
    applicable (direction_of a.call.0) (by_of a.call.1) a.plan _ _ _ _ (passes (goal.at.in_steps-requires c).In_ok-checked) c.in_ok-flag_marks.ensures refl _ (passed (goal.at.in_steps-requires c).In_ok-checked).functions
    (c.flag_marks.auto.values ∙ part_length most_functions _ c.function_total-count.ensures (few (goal.at.in_steps-requires c).In_ok-checked))

pub returns : goal.returns
returns c = let a = c.args in
    c.in_steps.ensures
    ∙ steps_are (direction_of a.call.0) (by_of a.call.1) a.plan _ _ _ _ (passes (goal.at.returns c).In_ok-checked) c.in_ok-flag_marks.ensures refl _ _
