-- `list_changed_between` meets its contract. The invariant: the list starts with the numbers passed that changed, and keeps its entries
-- after them. Assumes nothing.
use native.Mathlib.Omega.{arith}
use Rattle.changes.proofs.Changes.{block_listed, block_more}
use Rattle.changes.proofs.list_changed_between.Goals as goal

pub list_block-listed-requires : goal.list_block-listed-requires
list_block-listed-requires c = let s = c in
    let v = c.loop-at.invariant in record { list_room = record { same = s.requires.list_room.same; small = s.requires.list_room.small; room = omega (arith, s.requires.list_room.room) }; block = record { same = s.requires.list_room.same; rises = omega arith; inside = omega (arith, s.requires.block.inside) }; listed_to = block_listed s.args.old.now s.args.new.now s.args.list.now c.loop-at.at v.3 v.2 }

pub loop-at-preserved : goal.loop-at-preserved
loop-at-preserved c = let s = c in
    let at = c.loop-at in
    let listed = c.list_block-listed.ensures in
    (omega arith, omega arith, listed.value, block_more s.args.old.now s.args.new.now s.args.list.now at.at at.invariant.3 _ (omega arith) listed.list_after)
