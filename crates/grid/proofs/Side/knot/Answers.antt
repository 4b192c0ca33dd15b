-- `Side::knot` meets its contract. Assumes nothing.
use mathlib.Core.Path.{sym}
use Rattle.grid.proofs.SideLaws.{knot_is}
use Rattle.grid.proofs.Side.knot.Goals as goal

pub returns : goal.returns
returns c = let s = c in
    rw (c.min.ensures, c.columns_before-line.ensures, c.saturating_sub.ensures) (sym (knot_is s.args.self s.requires.side_in.sized s.args.i s.requires.i_bound))
