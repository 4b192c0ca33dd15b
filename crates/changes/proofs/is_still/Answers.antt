-- `is_still` meets its contract: equal bytes change nothing; else each number is tested. Assumes nothing.
use mathlib.Core.Path.{sym, ap, ◌∙◌}
use native.Mathlib.Omega.{arith}
use Rattle.changes.proofs.Changes.{changed_same, still_none, still_turn}
use Rattle.changes.proofs.is_still.Goals as goal

pub returns-then-eq : goal.returns-then-eq
returns-then-eq c = let s = c in
    rw (changed_same s.args.old.now s.args.new.now s.args.from s.args.to s.requires.rises (sym c.eq.ensures ∙ c.if-eq.true)) (still_none s.args.old.now s.args.new.now s.args.from)

pub loop-i-init : goal.loop-i-init
loop-i-init c = still_none c.args.old.now c.args.new.now c.args.from

pub loop-i-preserved : goal.loop-i-preserved
loop-i-preserved c = still_turn c.args.old.now c.args.new.now c.args.from c.loop-i.i c.differ.result (omega arith) c.differ.ensures c.loop-i.invariant
