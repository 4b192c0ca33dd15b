-- `is_short_for_labels` meets its contract: a table has room for all of its numbers, else the labels' are counted. Assumes nothing.
use native.Mathlib.Omega.{arith}
use Rattle.changes.proofs.Steps.{room_for_all}
use Rattle.changes.proofs.is_short_for_labels.Goals as goal

pub returns-then-functions-room : goal.returns-then-functions-room
returns-then-functions-room c = room_for_all _ _ _ _ (omega (arith, c.if-functions-room.true, c.requires.rooms.functions_are))
