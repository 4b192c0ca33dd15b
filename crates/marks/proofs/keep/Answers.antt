-- `keep` meets its contract. The invariant: the bytes passed are written, and those ahead are as they were. Assumes nothing.
use mathlib.Core.Path.{refl, ap, ◌∙◌}
use Prim.Native.Nat.{ℕ}
use native.Mathlib.Omega.{arith}
use lib.ListN.{get_or}
use lib.Seq.{get_or-set_other}
use Rattle.facts.proofs.Turns.{tabulate_none, tabulate_more}
use Rattle.marks.specs.Marks.{common, common_at}
use Rattle.marks.proofs.keep.Goals as goal

pub loop-i-init : goal.loop-i-init
loop-i-init c = (tabulate_none c.args.flags.now _, λ x h. refl)

pub loop-i-preserved : goal.loop-i-preserved
loop-i-preserved c = let a = c.args in
    let at = c.loop-i in (
      tabulate_more at.flags (common_at a.flags.now a.table.now) at.i _ (omega arith)
          (c.common_of.ensures ∙ ap (λ (n : ℕ). common n (get_or a.table.now at.i 0)) (at.invariant.1 at.i (omega arith))) at.invariant.0,
      λ x h. get_or-set_other at.flags at.i x _ 0 (omega arith) ∙ at.invariant.1 x (omega arith),
    )
