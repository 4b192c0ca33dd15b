-- `on_mesh` meets its contract. Assumes nothing.
use Prim.Native.Nat.{◌-◌}
use native.Mathlib.Omega.{arith}
use Rattle.heights.specs.Heights.{on_mesh}
use Rattle.grid.proofs.Small.{grown_small}
use Rattle.heights.proofs.on_mesh.Goals as goal

pub overflow_mul-result : goal.overflow_mul-result
overflow_mul-result c = omega (arith, c.columns_at.ensures, grown_small c.args.plan {k = c.args.plan.levels - 1} c.requires.columns≤ (omega (arith, c.requires.levels≤)))

pub overflow_mul-result-2 : goal.overflow_mul-result-2
overflow_mul-result-2 c = omega (arith, c.rows_at.ensures, grown_small c.args.plan {k = c.args.plan.levels - 1} c.requires.rows≤ (omega (arith, c.requires.levels≤)))

pub returns : goal.returns
unfolding on_mesh
returns c = rw (c.columns_at.ensures, c.rows_at.ensures)
