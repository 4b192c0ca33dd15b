-- `windows::spread_row` meets its contract. Assumes nothing.
use mathlib.Core.Path.{◌∙◌}
use Prim.Native.Nat.{◌+◌}
use native.Mathlib.Omega.{arith}
use Rattle.windows.proofs.Lowered.{lowered_same, slid_first}
use lib.Seq.{get_or-take, length-take-le}
use Rattle.windows.proofs.spread_row.Goals as goal

pub returns : goal.returns
returns c = let a = c.args in
    c.lower.ensures
    ∙ (lowered_same a.columns _ a.from.now _ (length-take-le a.columns a.from.now (omega arith)) (λ i l. get_or-take a.columns a.from.now i 0 l)
    ∙ slid_first a.from.now a.out.now _ a.columns 1 (a.columns + a.across) c.fill.ensures (omega arith))
