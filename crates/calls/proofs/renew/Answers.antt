-- `renew` meets its contract: each arm is the closure's function of that direction. Assumes nothing.
use Rattle.calls.proofs.renew.Goals as goal

pub refine_marked-requires : goal.refine_marked-requires
refine_marked-requires c = rw c.in-Refine.is at c.requires

pub coarsen_marked-requires : goal.coarsen_marked-requires
coarsen_marked-requires c = rw c.in-Coarsen.is at c.requires

pub returns-in-Refine : goal.returns-in-Refine
returns-in-Refine c = rw c.in-Refine.is c.refine_marked.ensures

pub returns-in-Coarsen : goal.returns-in-Coarsen
returns-in-Coarsen c = rw c.in-Coarsen.is c.coarsen_marked.ensures
