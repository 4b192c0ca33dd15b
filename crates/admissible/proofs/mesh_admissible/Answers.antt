-- `mesh_admissible` meets its contract. Assumes nothing.
use Rattle.windows.proofs.Rooms.{near_room}
use Rattle.admissible.proofs.mesh_admissible.Goals as goal

pub levels_admissible-requires-clause-near_room : goal.levels_admissible-requires-clause-near_room
levels_admissible-requires-clause-near_room c = let r = near_room c.args.plan c.requires.0.sized.range c.requires.1 in (r, r)
