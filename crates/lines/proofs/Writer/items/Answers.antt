-- `items` meets its contract. Assumes nothing.
use native.Mathlib.Omega.{arith}
use lib.ListN.{length, drop}
use Rattle.lines.specs.Writing.{spaced}
use Rattle.lines.proofs.Output.{items_none, items_some, items_longer, rest_is, room_behind}
use Rattle.facts.proofs.Writing.{writes_none, writes_more}
use Rattle.lines.proofs.Writer.items.Goals as goal

pub returns-in_default-clause-writes : goal.returns-in_default-clause-writes
returns-in_default-clause-writes c = rw (items_none c.args.list.now (omega arith)) (writes_none c.args.self.now.out.now c.args.self.now.at)

pub number-requires : goal.number-requires
number-requires c = omega (arith, c.requires, items_longer c.args.list.now (λ e. omega arith))

pub spaced-requires : goal.spaced-requires
spaced-requires c = let l = c.args.list.now in
    rw (rest_is l) (room_behind (length (spaced (drop 1 l))) (omega (arith, c.requires, items_longer l (λ e. omega arith))) c.number.ensures.writes)

pub returns-clause-writes : goal.returns-clause-writes
returns-clause-writes c = let l = c.args.list.now in
    rw (items_some l (λ e. omega arith))
    (writes_more (omega (arith, c.requires, items_longer l (λ e. omega arith))) c.number.ensures.writes (rw (rest_is l) at c.spaced.ensures.writes))
