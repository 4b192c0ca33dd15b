-- `cover::cover` meets its contract: the room that it lends is large enough. Assumes nothing.
use Rattle.windows.proofs.Rooms.{value_room}
use Rattle.cover.proofs.cover.Goals as goal

pub cover_levels-requires : goal.cover_levels-requires
cover_levels-requires c = let s = c in
    let r = value_room s.args.plan s.requires.in_range.0 s.requires.in_range.1 in
    record { in_range = s.requires.in_range.0; values_len = s.requires.values_len; value_room = (r, r) }
