-- `pass_row` meets its contract: child by child. Assumes nothing.
use mathlib.Core.Path.{ap, ◌∙◌}
use Prim.Native.Nat.{◌+◌, ◌≤◌}
use native.Mathlib.Omega.{arith}
use mir.Syntax.{w32}
use mir.Val.{to_z, of_z}
use mir.ValLaws.{to_z-of_z}
use Rattle.carry.specs.Steps.{row_passed, RowRoom}
use Rattle.carry.proofs.Rows.{row_none, sum_read, row_next, row_all}
use Rattle.carry.proofs.pass_row.Goals as goal
use Rattle.carry.proofs.pass_row.Goals.{Start}

-- the row's room, of the height as a word
room : (c : Start) → RowRoom c.args.begin c.args.children (to_z w32 (of_z w32 c.args.height)) c.args.heights.now
room c = rw (to_z-of_z w32 c.args.height c.ranges.height) c.requires

pub loop-j-init : goal.loop-j-init
loop-j-init c = row_none (room (goal.at.loop-j-init c).Start)

-- what a child has is its own height and its part
pub loop-j-preserved : goal.loop-j-preserved
loop-j-preserved c = let r = room (goal.at.loop-j-preserved c).Start in
    let l = c.loop-j in
    let m : l.j ≤ c.args.children.last = omega arith in
    row_next r m l.invariant (sum_read r m l.invariant (rw c.quarters.ensures at c.part_of.ensures))

pub returns : goal.returns
returns c = let s = c in row_all (room (goal.at.returns c).Start) (omega arith) c.loop-j.invariant ∙ ap (λ h. row_passed s.args.begin s.args.children h s.args.heights.now) (to_z-of_z w32 s.args.height s.ranges.height)

-- the last child
pub returns-2 : goal.returns-2
returns-2 c = let r = room (goal.at.returns-2 c).Start in
    let s = c in
    let l = c.loop-j in
    let m : l.j ≤ c.args.children.last = omega arith in
    row_all r {j = l.j + 1} (omega arith) (row_next r m l.invariant (sum_read r m l.invariant (rw c.quarters.ensures at c.part_of.ensures))) ∙ ap (λ h. row_passed s.args.begin s.args.children h s.args.heights.now) (to_z-of_z w32 s.args.height s.ranges.height)
