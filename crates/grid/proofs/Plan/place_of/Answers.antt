-- `Plan::place_of` meets its contract. The invariant: what is left of the number is the number less the level's offset. Assumes nothing.
use native.Mathlib.Omega.{arith}
use Rattle.grid.specs.Plan.{widened, columns_at, rows_at}
use Rattle.grid.proofs.Numbering.{place_rest}
use Rattle.grid.proofs.Levels.{offset_zero, offset_next}
use Rattle.grid.proofs.Plan.place_of.Goals as goal

pub loop-level-init : goal.loop-level-init
loop-level-init c = let a = c.args in
    omega (arith, offset_zero (widened (columns_at a.self) a.across) (widened (rows_at a.self) a.up))

pub loop-level-preserved : goal.loop-level-preserved
loop-level-preserved c = let a = c.args in
    omega (arith, offset_next (widened (columns_at a.self) a.across) (widened (rows_at a.self) a.up) c.loop-level.level)

pub returns-then-rest-area : goal.returns-then-rest-area
returns-then-rest-area c = let a = c.args in let l = c.loop-level in
    rw c.wide-columns.ensures
    (place_rest (widened (columns_at a.self) a.across) (widened (rows_at a.self) a.up) a.self.levels a.number l.level l.rest (omega arith) l.invariant (omega (arith, c.area-area.ensures)))
