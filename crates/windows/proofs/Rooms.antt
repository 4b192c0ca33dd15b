-- How many bytes are enough for tables of windows, of any plan that is not too large. Assumes nothing.
use mathlib.Core.Path.{◌≡◌}
use Prim.Native.Nat.{ℕ, ◌+◌, ◌*◌, ◌≤◌}
use native.Mathlib.Nat.{mul-le-mul, le_trans}
use native.Mathlib.Omega.{arith}
use lib.ListN.{length, take, replicate, length-replicate}
use lib.Seq.{length-take-le}
use Rattle.grid.specs.declared.Plan.{Plan}
use Rattle.grid.specs.Plan.{ratio, columns_at, rows_at, across_at, up_at, cell_total}
use Rattle.grid.specs.Range.{InRange}
use Rattle.grid.proofs.Laws.{across_sized, up_sized}
use Rattle.grid.proofs.Sides.{firsts_most}
use Rattle.grid.proofs.Totals.{spacious, roomier, windows_bound, near_bound}
use Rattle.windows.specs.Level.{wide, high, ValueRoom, NearRoom}
use Rattle.grid.specs.Bounds.{most_cells, most_functions, most_near}

-- twice the degrees are at most 8
wide_le : (p : Plan) → InRange p → (k : ℕ) → wide p k (2 * p.degree_across) ≤ spacious p.columns (columns_at p k)
wide_le p r k = omega (arith, r.across≤, firsts_most (across_at p k) (across_sized p r k) r.across≤)

high_le : (p : Plan) → InRange p → (k : ℕ) → high p k (2 * p.degree_up) ≤ spacious p.rows (rows_at p k)
high_le p r k = omega (arith, r.up≤, firsts_most (up_at p k) (up_sized p r k) r.up≤)

table_le : (p : Plan) → InRange p → (k n : ℕ) → spacious p.rows (rows_at p k) * spacious p.columns (columns_at p k) ≤ n → high p k (2 * p.degree_up) * wide p k (2 * p.degree_across) ≤ n
table_le p r k n b =
    le_trans (mul-le-mul (high_le p r k) (wide_le p r k)) b

-- an array lent whole
pub zeros_length : (n : ℕ) → length {A = ℕ} (take n (replicate n 0)) ≡ n
zeros_length n = length-take-le {A = ℕ} n (replicate n 0) (rw length-replicate (omega arith))

pub value_room : (p : Plan) → InRange p → cell_total p ≤ most_cells → ValueRoom p (length {A = ℕ} (take most_functions (replicate most_functions 0)))
value_room p r s = rw (zeros_length most_functions) (record { enough = λ k l. table_le p r k _ (windows_bound p r s k l) })

pub near_room : (p : Plan) → InRange p → cell_total p ≤ most_cells → NearRoom p (length {A = ℕ} (take most_near (replicate most_near 0)))
unfolding ratio
near_room p r s = rw (zeros_length most_near) (record {
  enough = λ k l.
      let h : high p k (2 * p.degree_up + 1) ≤ roomier p.rows (rows_at p k) = omega (arith, high_le p r k) in
      le_trans (mul-le-mul h (wide_le p r k)) (near_bound p r s k (omega arith));
})
