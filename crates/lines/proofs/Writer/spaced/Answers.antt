-- `spaced` meets its contract: whoever writes what is left has written all the items. Assumes nothing.
use mathlib.Core.Path.{◌∙◌}
use Prim.Native.Nat.{◌+◌}
use native.Mathlib.Omega.{arith}
use lib.ListN.{length, get_or, drop}
use Rattle.lines.specs.Writing.{digits, spaced}
use Rattle.lines.proofs.Output.{spaced_end, spaced_next, spaced_longer, room_behind}
use Rattle.facts.proofs.Writing.{writes_none, writes_more}
use Rattle.lines.proofs.Writer.spaced.Goals as goal

pub byte-requires : goal.byte-requires
byte-requires c = omega (arith, spaced_longer c.args.list.now c.loop-item.item-index (omega arith))

pub number-requires : goal.number-requires
number-requires c = let l = c.args.list.now in
    let i = c.loop-item.item-index in
    let b = room_behind (length (digits (get_or l i 0))) (omega (arith, spaced_longer l i (omega arith))) c.byte.ensures.writes in
    omega arith

pub loop-item-preserved : goal.loop-item-preserved
loop-item-preserved c = let at = c.loop-item in
    let l = c.args.list.now in
    let i = at.item-index in
    let d = digits (get_or l i 0) in
    let k = spaced_longer l i (omega arith) in
    let left = spaced (drop (i + 1) l) in
    let b = room_behind (length d + length left) (omega (arith, k, at.invariant.1)) c.byte.ensures.writes in
    let n = room_behind (length left) (omega (arith, b)) c.number.ensures.writes in (
      c.number.ensures.same_buffer ∙ c.byte.ensures.same_buffer ∙ at.invariant.0,
      n,
      λ f new w.
          at.invariant.2 f new (rw (spaced_next l i (omega arith))
          (writes_more (omega (arith, k, at.invariant.1)) c.byte.ensures.writes (writes_more (omega (arith, b)) c.number.ensures.writes w))),
    )

pub returns-clause-writes : goal.returns-clause-writes
returns-clause-writes c = let at = c.loop-item in
    at.invariant.2 _ _ (rw (spaced_end c.args.list.now at.item-index (omega arith)) (writes_none at.self.out.now at.self.at))
