-- `pass_function` meets its contract: row by row. Assumes nothing.
use mathlib.Core.Path.{refl}
use Prim.Native.Nat.{◌+◌}
use native.Mathlib.Omega.{arith}
use Rattle.carry.proofs.Blocks.{height_read, blocks_none, up_room, part_read, block_room, block_next, blocks_all}
use Rattle.carry.proofs.pass_function.Goals as goal

pub loop-row-init : goal.loop-row-init
loop-row-init c = let r = c.requires in blocks_none r (height_read r) _ refl

pub part_of-requires : goal.part_of-requires
part_of-requires c = let r = c.requires in rw c.quarters.ensures (up_room r (height_read r) c.loop-row.row)

pub pass_row-requires : goal.pass_row-requires
pass_row-requires c = let r = c.requires in
    let l = c.loop-row in
    rw (part_read r (height_read r) l.row c.quarters.ensures c.part_of.ensures) (block_room r (height_read r) _ refl (omega arith) l.invariant)

pub loop-row-preserved : goal.loop-row-preserved
loop-row-preserved c = let r = c.requires in
    let l = c.loop-row in
    block_next r (height_read r) _ refl (omega arith) l.invariant (rw (part_read r (height_read r) l.row c.quarters.ensures c.part_of.ensures) at c.pass_row.ensures)

pub returns : goal.returns
returns c = let r = c.requires in blocks_all r (height_read r) _ refl refl (omega arith) c.loop-row.invariant

-- the last row
pub returns-2 : goal.returns-2
returns-2 c = let r = c.requires in
    let l = c.loop-row in
    blocks_all r (height_read r) _ refl {row = l.row + 1} refl (omega arith) (block_next r (height_read r) _ refl (omega arith) l.invariant (rw (part_read r (height_read r) l.row c.quarters.ensures c.part_of.ensures) at c.pass_row.ensures))
