-- `call` meets its contract: the answer lies within its lists. Assumes nothing.
use Rattle.replies.proofs.Room.{answered}
use Rattle.replies.proofs.call.Goals as goal

pub returns-clause-in_bounds : goal.returns-clause-in_bounds
returns-clause-in_bounds c = answered _ _ _ _ _ _ _ _ _ _ _ _ _ c.change.ensures
