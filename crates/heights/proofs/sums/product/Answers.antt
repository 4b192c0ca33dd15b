-- `product` meets its contract. Assumes nothing.
use native.Mathlib.Nat.{lt_of_le_of_lt, lt_of_lt_of_le}
use lib.Dec.{lit<, lit≤}
use lib.Signed.{nat_abs-le}
use mir.Syntax.{w32}
use mir.ValLaws.{to_z-of_z}
use Rattle.heights.proofs.Turns.{product_exact}
use Rattle.heights.proofs.sums.product.Goals as goal

pub returns : goal.returns
returns c = let s = c in
    rw (c.from-h.ensures, c.from-v.ensures, to_z-of_z w32 s.args.height s.ranges.height)
    (product_exact s.args.part.levels s.args.height s.args.value s.args.part.is_unit (lt_of_le_of_lt (nat_abs-le s.args.height s.ranges.height.sfits) (lit< tt)) (lt_of_lt_of_le s.ranges.value.fits (lit≤ tt)) s.requires.value_bound)
