-- `Side::run_end` meets its contract. Assumes nothing.
use Rattle.grid.proofs.SideLaws.{run_plain, run_unit}
use Rattle.grid.proofs.Side.run_end.Goals as goal

pub returns-then-self-eq0 : goal.returns-then-self-eq0
returns-then-self-eq0 c = let s = c in run_plain s.args.self s.requires.side_in.sized c.if-self-eq0.true s.args.x s.requires.x_lt_cells

pub returns : goal.returns
returns c = let s = c in run_unit s.args.self s.requires.side_in.sized s.args.x s.requires.x_lt_cells
