-- `flag_cells` meets its contract: the marks are judged by a table of kinds, and flagged. Assumes nothing.
use mathlib.Core.Path.{◌≡◌, sym, ap, ◌∙◌}
use mathlib.Core.List.{List}
use Prim.Native.Nat.{ℕ}
use lib.ListN.{length}
use Rattle.refusals.proofs.Refused.{refused, handed_on}
use Rattle.facts.specs.Numbers.{first}
use Rattle.facts.proofs.Numbers.{length_tabulate}
use Rattle.marks.specs.Marks.{weighed}
use Rattle.outcomes.specs.Calls.{cells, mark_refusal}
use Rattle.calls.specs.Parts.{direction_of}
use Rattle.calls.proofs.Eligible.{judged_is, marks_below}
use Rattle.calls.proofs.Flags.{cells_flags}
use Rattle.calls.proofs.flag_cells.Goals as goal
use Rattle.calls.proofs.flag_cells.Goals.{In_ok-judge}

pub returns-in_err-judge : goal.returns-in_err-judge
returns-in_err-judge c = let e = c.in_err-judge in
    let K = c.eligible_cells-deep.ensures in
    λ fs. rw (handed_on _ c.from_residual.ensures.1)
    (record { number = e.ensures ∙ judged_is (K fs) c.args.marks.now; sized = (K fs).sized; says = λ z. absurd (refused e.field-0.0 z) })

-- past the test the marks pass, whatever the functions
fine : (c : In_ok-judge) → let a = c.args in
    (fs : List ℕ) → first (mark_refusal (direction_of a.direction) cells a.plan a.cells.now fs) a.marks.now ≡ 0
fine c fs = sym (c.in_ok-judge.ensures ∙ judged_is (c.eligible_cells-deep.ensures fs) c.args.marks.now)

pub weigh-requires : goal.weigh-requires
weigh-requires c = let s = c in
    let fs = s.args.cells.now in
    let K = c.eligible_cells-deep.ensures fs in
    record { table_len = s.requires.cells_len.0 ∙ sym K.sized; marks_below = marks_below K s.args.marks.now (fine (goal.at.weigh-requires c).In_ok-judge fs) }

pub returns : goal.returns
returns c = let a = c.args in λ fs.
    let e = c.weigh.ensures ∙ ap (λ (n : ℕ). weighed n a.cells.now a.marks.now) (c.eligible_cells-deep.ensures fs).sized in
    record { number = sym (fine (goal.at.returns c).In_ok-judge fs); sized = ap length e ∙ length_tabulate _ _; says = λ z. cells_flags (direction_of a.direction) a.plan _ fs _ _ e }
