-- `count_block` meets its contract: in a still block nothing changed; else the count is that of the numbers passed. Assumes nothing.
use mathlib.Core.Path.{sym, ap, ◌∙◌}
use Prim.Native.Nat.{◌+◌}
use native.Mathlib.Omega.{arith}
use lib.ListN.{length}
use Rattle.changes.proofs.Changes.{changed_fixed, changed_short, counted}
use Rattle.changes.proofs.count_block.Goals as goal

pub returns-then-is_still : goal.returns-then-is_still
returns-then-is_still c = let s = c in
    omega (arith, ap length (changed_fixed s.args.old.now s.args.new.now s.args.from s.args.to s.requires.rises (sym c.is_still.ensures ∙ c.if-is_still.true)))

pub overflow_add-n : goal.overflow_add-n
overflow_add-n c = let a = c.args in
    omega (arith, counted a.old.now a.new.now c.loop-i.i _ c.differ.ensures c.from-n.ensures, changed_short a.old.now a.new.now (c.loop-i.i + 1))

pub loop-i-preserved : goal.loop-i-preserved
loop-i-preserved c = omega (arith, counted c.args.old.now c.args.new.now c.loop-i.i _ c.differ.ensures c.from-n.ensures)
