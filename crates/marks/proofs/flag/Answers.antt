-- `flag` meets its contract. The invariant: the flags are those of the marks passed. Assumes nothing.
use mathlib.Core.Path.{ap, ◌∙◌}
use mathlib.Core.List.{List}
use Prim.Native.Nat.{ℕ}
use native.Mathlib.Omega.{arith}
use lib.ListN.{length, get_or, set}
use Rattle.marks.proofs.Marks.{flagged_none, flagged_more, mark_inside}
use Rattle.marks.proofs.flag.Goals as goal

pub loop-mark-init : goal.loop-mark-init
loop-mark-init c = flagged_none c.args.marks.now c.args.out.now

pub bounds-out-mark : goal.bounds-out-mark
bounds-out-mark c = omega (arith, mark_inside c.requires c.loop-mark.mark-index (omega arith))

pub loop-mark-preserved : goal.loop-mark-preserved
loop-mark-preserved c = let a = c.args in
    let at = c.loop-mark in
    ap (λ (x : List ℕ). set x (get_or a.marks.now at.mark-index 0) 1) at.invariant ∙ flagged_more a.marks.now a.out.now (length a.out.now) at.mark-index (omega arith)
