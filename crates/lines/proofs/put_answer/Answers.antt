-- `put_answer` meets its contract, part by part. Assumes nothing.
use native.Mathlib.Omega.{arith}
use Rattle.lines.proofs.Output.{room_0, room_1, room_2, room_3, room_4, room_5, wrote_all}
use Rattle.lines.proofs.put_answer.Goals as goal

pub number-requires : goal.number-requires
number-requires c = let a = c.args in omega (arith, room_0 a.number a.cells.now a.functions.now a.out.now c.requires)

pub byte-requires : goal.byte-requires
byte-requires c = let a = c.args in omega (arith, room_1 a.number a.cells.now a.functions.now a.out.now c.requires c.number.ensures.writes)

pub items-requires : goal.items-requires
items-requires c = let a = c.args in omega (arith, room_2 a.number a.cells.now a.functions.now a.out.now c.requires c.number.ensures.writes c.byte.ensures.writes)

pub byte-requires-2 : goal.byte-requires-2
byte-requires-2 c = let a = c.args in omega (arith, room_3 a.number a.cells.now a.functions.now a.out.now c.requires c.number.ensures.writes c.byte.ensures.writes c.items.ensures.writes)

pub items-requires-2 : goal.items-requires-2
items-requires-2 c = let a = c.args in omega (arith, room_4 a.number a.cells.now a.functions.now a.out.now c.requires c.number.ensures.writes c.byte.ensures.writes c.items.ensures.writes c.byte-2.ensures.writes)

pub byte-requires-3 : goal.byte-requires-3
byte-requires-3 c = let a = c.args in omega (arith, room_5 a.number a.cells.now a.functions.now a.out.now c.requires c.number.ensures.writes c.byte.ensures.writes c.items.ensures.writes c.byte-2.ensures.writes c.items-2.ensures.writes)

pub returns : goal.returns
returns c = let a = c.args in
    let w = wrote_all a.number a.cells.now a.functions.now a.out.now c.requires c.number.ensures.writes c.byte.ensures.writes c.items.ensures.writes c.byte-2.ensures.writes c.items-2.ensures.writes c.byte-3.ensures.writes in
    record { end = w.end; bytes = grind (arith, w.bytes) }
