-- `size_corners` meets its contract. Assumes nothing.
use mathlib.Core.Path.{sym, ap, ◌∙◌}
use native.Mathlib.Omega.{arith}
use lib.ListN.{length}
use Rattle.codec.proofs.Numbers.{short}
use Rattle.files.proofs.CornerNumbers.{bytes_none, length_both}
use Rattle.files.proofs.size_corners.Goals as goal

pub returns-then-no_corners : goal.returns-then-no_corners
returns-then-no_corners c = let a = c.args in
    sym (ap length (bytes_none a.across a.up (sym c.no_corners.ensures ∙ c.if-no_corners.true)))

pub overflow_add-result : goal.overflow_add-result
overflow_add-result c = let a = c.args in
    omega (arith, c.size.ensures, c.size-2.ensures, short a.across, short a.up)

pub returns : goal.returns
returns c = let a = c.args in
    omega (
      arith,
      c.size.ensures,
      c.size-2.ensures,
      length_both a.across a.up (sym c.no_corners.ensures ∙ c.if-no_corners.false),
    )
