-- `is_short` meets its contract: a table has room for all of its numbers, else they are counted. Assumes nothing.
use Rattle.changes.proofs.Steps.{room_for_all}
use Rattle.changes.proofs.is_short.Goals as goal

pub returns-then-old-room : goal.returns-then-old-room
returns-then-old-room c = room_for_all _ _ _ _ c.if-old-room.true
