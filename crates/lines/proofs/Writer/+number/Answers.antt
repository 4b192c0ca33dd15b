-- `number` meets its contract: its tenth has all its digits but the last. Assumes nothing.
use mathlib.Core.Path.{ap}
use native.Mathlib.Omega.{arith}
use lib.ListN.{length}
use Rattle.lines.proofs.Output.{digits_one, digits_more, digits_longer, room_behind}
use Rattle.facts.proofs.Writing.{writes_more}
use Rattle.lines.proofs.Writer.+number.Goals as goal

pub byte-requires : goal.byte-requires
byte-requires t c = omega (arith, c.requires, ap length (digits_one c.args.number (omega arith)))

pub returns-then-number-lt10-clause-writes : goal.returns-then-number-lt10-clause-writes
returns-then-number-lt10-clause-writes t c = rw (digits_one c.args.number (omega arith)) c.byte.ensures.writes

pub number-requires : goal.number-requires
number-requires t c = (omega arith, omega (arith, c.requires, digits_longer c.args.number (omega arith) (omega arith)))

pub byte-requires-2 : goal.byte-requires-2
byte-requires-2 t c = omega (arith, room_behind 1 (omega (arith, c.requires, digits_longer c.args.number (omega arith) (omega arith))) c.number.ensures.writes)

pub returns-clause-writes : goal.returns-clause-writes
returns-clause-writes t c =
    let n = c.args.number in
    rw (digits_more n (omega arith) (omega arith))
    (writes_more (omega (arith, c.requires, digits_longer n (omega arith) (omega arith))) c.number.ensures.writes c.byte-2.ensures.writes)
