-- `tables::area` meets its contract: the product of two widths fits 32 bits. Assumes nothing.
use Prim.Native.Nat.{◌≤◌}
use native.Mathlib.Nat.{mul-le-mul}
use native.Mathlib.Omega.{arith}
use Rattle.grid.proofs.Small.{grown_small}
use Rattle.tables.proofs.area.Goals as goal

pub overflow_mul-result : goal.overflow_mul-result
overflow_mul-result c = let s = c in
    let h : c.rows_at.result ≤ 2048 = rw c.rows_at.ensures (grown_small s.args.plan s.requires.rows≤ (omega (arith, s.requires))) in
    let w : c.columns_at.result ≤ 2048 = rw c.columns_at.ensures (grown_small s.args.plan s.requires.columns≤ (omega (arith, s.requires))) in
    omega (arith, mul-le-mul h w)

pub returns : goal.returns
returns c = rw (c.rows_at.ensures, c.columns_at.ensures)
