-- `windows::slide` meets its contract. The invariant: the shifts so far. Assumes nothing.
use mathlib.Core.Path.{refl, ap, ◌∙◌}
use Prim.Native.Nat.{◌+◌, ◌-◌, ◌*◌, ◌≤◌}
use native.Mathlib.Nat.{mul-le-mul_right}
use native.Mathlib.Omega.{arith}
use borrow.Rule.Slice.PartMut.{put_mid}
use lib.ListN.{length}
use Rattle.windows.proofs.Lowered.{lowered_same, slid_next}
use lib.Seq.{get_or-take, length-take-le}
use Rattle.windows.proofs.slide.Goals as goal

pub loop-d-preserved : goal.loop-d-preserved
loop-d-preserved c = let a = c.args in
    let l = c.loop-d in
    let h : (l.d + 1) * a.step ≤ a.times * a.step = omega (arith, mul-le-mul_right a.step c.loop-d-test.true) in
    let e = ap (put_mid ((l.d + 1) * a.step) (length l.out - (l.d + 1) * a.step) l.out) (c.lower.ensures ∙ lowered_same a.n _ a.from.now _ (length-take-le a.n a.from.now (omega arith)) (λ i m. get_or-take a.n a.from.now i 0 m)) in
    λ xs i. e ∙ slid_next a.from.now xs l.out a.n a.step (l.d + 1) ((l.d + 1) * a.step) (a.n + a.times * a.step) (l.invariant xs i) refl (omega arith) (omega arith)
