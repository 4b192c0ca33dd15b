-- `nesting::Below::row` meets its contract: both rows lie in the table. Assumes nothing.
use native.Mathlib.Omega.{arith}
use Rattle.nesting.proofs.Rows.{row_of, row_in, over_in}
use Rattle.nesting.proofs.Below.row.Goals as goal

pub overflow_mul-result : goal.overflow_mul-result
overflow_mul-result c = omega (arith, row_in _ _ _ _ _ (row_of _ _ _ c.requires.is_below c.requires.row_bound))

pub overflow_add-result : goal.overflow_add-result
overflow_add-result c = omega (arith, row_in _ _ _ _ _ (row_of _ _ _ c.requires.is_below c.requires.row_bound))

pub overflow_mul-result-2 : goal.overflow_mul-result-2
overflow_mul-result-2 c = rw c.coarser.ensures (omega (arith, over_in _ _ _ _ _ (row_of _ _ _ c.requires.is_below c.requires.row_bound)))

pub overflow_add-result-2 : goal.overflow_add-result-2
overflow_add-result-2 c = rw c.coarser.ensures (omega (arith, over_in _ _ _ _ _ (row_of _ _ _ c.requires.is_below c.requires.row_bound)))
