-- `run` meets its contract. Assumes nothing.
use Rattle.windows.proofs.Rooms.{near_room}
use Rattle.closure.proofs.Table.run.Goals as goal

pub run_levels-requires : goal.run_levels-requires
run_levels-requires c = let t = c.args.self.now in
    let r = near_room t.plan t.size.range t.size.small in
    record { flags_len = c.requires; near_room = (r, r) }
