-- `flag_functions` meets its contract: the marks are judged by a table of kinds, and the flags say what the marks mean. Assumes nothing.
use mathlib.Core.Path.{◌≡◌, sym, ap, ◌∙◌}
use Prim.Native.Nat.{ℕ}
use lib.ListN.{length}
use Rattle.refusals.proofs.Refused.{refused, handed_on}
use Rattle.facts.specs.Numbers.{first}
use Rattle.facts.proofs.Numbers.{length_tabulate}
use Rattle.grid.specs.Plan.{function_total}
use Rattle.marks.specs.Marks.{weighed}
use Rattle.outcomes.specs.Calls.{functions, mark_refusal}
use Rattle.mesh.proofs.Bridge.{check_passed}
use Rattle.calls.specs.Parts.{direction_of}
use Rattle.calls.proofs.Eligible.{judged_is, marks_below}
use Rattle.calls.proofs.Flags.{functions_flags}
use Rattle.calls.proofs.flag_functions.Goals as goal
use Rattle.calls.proofs.flag_functions.Goals.{After-weigh, In_ok-judge}

pub eligible_functions-deep-requires : goal.eligible_functions-deep-requires
eligible_functions-deep-requires c = let s = c in
    let P = check_passed _ _ _ s.requires.functions_value in
    record { in_range = (P.range, P.small); cells_len = (P.cells, P.functions); scratch = s.requires.scratch }

pub returns-in_err-judge : goal.returns-in_err-judge
returns-in_err-judge c = let e = c.in_err-judge in
    let K = c.eligible_functions-deep in
    rw (handed_on _ c.from_residual.ensures.1)
    (record { number = e.ensures ∙ judged_is K.ensures c.args.marks.now; sized = K.auto.scratch ∙ c.requires.scratch.flags_are; says = λ z. absurd (refused e.field-0.0 z) })

-- past the test the marks pass
fine : (c : In_ok-judge) → let a = c.args in first (mark_refusal (direction_of a.direction) functions a.plan a.cells.now a.functions.now) a.marks.now ≡ 0
fine c = sym (c.in_ok-judge.ensures ∙ judged_is c.eligible_functions-deep.ensures c.args.marks.now)

pub weigh-requires : goal.weigh-requires
weigh-requires c = let s = c in
    let K = c.eligible_functions-deep.ensures in
    record { table_len = (check_passed _ _ _ s.requires.functions_value).functions ∙ sym K.sized; marks_below = marks_below K s.args.marks.now (fine (goal.at.weigh-requires c).In_ok-judge) }

-- what the functions weigh
weights : (c : After-weigh) → let a = c.args in c.weigh.new.out ≡ weighed (function_total a.plan) a.functions.now a.marks.now
weights c = let a = c.args in
    c.weigh.ensures ∙ ap (λ (n : ℕ). weighed n a.functions.now a.marks.now) c.eligible_functions-deep.ensures.sized

pub cover-requires : goal.cover-requires
cover-requires c = let s = c in
    let P = check_passed _ _ _ s.requires.functions_value in
    record { in_range = (P.range, P.small); values_len = (ap length (weights (goal.at.cover-requires c).After-weigh) ∙ length_tabulate _ _, c.eligible_functions-deep.auto.scratch ∙ s.requires.scratch.flags_are) }

pub keep_eligible-requires : goal.keep_eligible-requires
keep_eligible-requires c = let P = check_passed _ _ _ c.requires.functions_value in
    record { in_range = (P.range, P.small); cells_len = (P.cells, ap length c.cover.ensures ∙ length_tabulate _ _) }

pub returns : goal.returns
returns c = let s = c in
    let K = c.keep_eligible.ensures in
    record {
      number = sym (fine (goal.at.returns c).In_ok-judge);
      sized = K.sized;
      says = λ z. functions_flags (direction_of s.args.direction) s.args.plan _ _ _ _ _ _ s.requires.functions_value (weights (goal.at.returns c).After-weigh) c.cover.ensures K;
    }
