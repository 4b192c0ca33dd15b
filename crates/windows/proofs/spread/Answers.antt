-- `windows::spread` meets its contract. The invariant: the rows so far. Assumes nothing.
use mathlib.Core.Path.{◌≡◌, refl}
use Prim.Native.Nat.{◌+◌, ◌*◌, ◌≤◌}
use native.Mathlib.Nat.{mul-le-mul_right}
use native.Mathlib.Omega.{arith}
use Rattle.facts.proofs.Mapped.{filled_none, fill_part}
use Rattle.windows.proofs.Slides.{row_slid_lem}
use Rattle.windows.proofs.spread.Goals as goal

pub loop-row-init : goal.loop-row-init
loop-row-init c = let a = c.args in
    let z : 0 * (a.columns + a.across) ≡ 0 = omega arith in rw z (filled_none 0 _ a.out.now)

pub loop-row-preserved : goal.loop-row-preserved
loop-row-preserved c = let a = c.args in
    let l = c.loop-row in
    let h : l.row * (a.columns + a.across) + (a.columns + a.across) ≤ a.rows * (a.columns + a.across) = omega (arith, mul-le-mul_right (a.columns + a.across) c.loop-row-test.true) in
    let n : l.row * (a.columns + a.across) + (a.columns + a.across) ≡ (l.row + 1) * (a.columns + a.across) = omega arith in
    rw n at (fill_part _ _ _ _ l.invariant (a.columns + a.across) _ _ (omega arith) c.spread_row.ensures
    (λ j m. row_slid_lem a.from.now a.columns a.across l.row (l.row * (a.columns + a.across)) (l.row * a.columns) refl refl j m 1))
