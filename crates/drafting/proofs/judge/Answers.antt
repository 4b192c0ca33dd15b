-- `judge` meets its contract: refining, the cell table has byte 1 at the cells that a mark may be. Assumes nothing.
use mathlib.Core.Path.{ap, ◌∙◌}
use Prim.Native.Nat.{ℕ}
use Rattle.facts.specs.Numbers.{first}
use Rattle.marks.specs.Marks.{verdict}
use Rattle.mesh.proofs.Bridge.{check_passed}
use Rattle.calls.proofs.Eligible.{judged_is, refine_eligible_cells}
use Rattle.drafting.proofs.judge.Goals as goal

pub overflow_sub-plan : goal.overflow_sub-plan
overflow_sub-plan c = (check_passed _ _ _ c.requires).range.levels≥

pub cell_offset-deep-requires-clause-in_range : goal.cell_offset-deep-requires-clause-in_range
cell_offset-deep-requires-clause-in_range c = (check_passed _ _ _ c.requires).range

pub returns : goal.returns
returns c = let a = c.args in
    let P = check_passed _ _ _ c.requires in
    c.judge.ensures ∙ ap (λ (n : ℕ). first (verdict a.cells.now n) a.marks.now) c.cell_offset-deep.ensures
    ∙ judged_is (refine_eligible_cells a.plan P.range a.cells.now a.functions.now P.cells) a.marks.now
