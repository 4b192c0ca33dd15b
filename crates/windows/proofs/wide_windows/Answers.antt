-- `windows::wide_windows` meets its contract, as `windows` does. Assumes nothing.
use mathlib.Core.Path.{◌≡◌, ap, ◌∙◌}
use Prim.Native.Nat.{◌+◌, ◌-◌, ◌*◌, ◌≤◌}
use native.Mathlib.Nat.{mul-le-mul_right}
use native.Mathlib.Omega.{arith}
use lib.ListN.{length}
use Rattle.facts.specs.Mapped.{filled}
use Rattle.facts.proofs.Mapped.{filled_same, filled_length}
use Rattle.windows.proofs.Slides.{rows_slid, windows_slid, filled_over}
use Rattle.windows.proofs.wide_windows.Goals as goal

pub returns : goal.returns
returns c byte start e = let a = c.args in
    let o : a.columns + a.across ≤ a.rows * (a.columns + a.across) = omega (arith, mul-le-mul_right (a.columns + a.across) c.requires.0.rows≥) in
    let long : length a.out.now ≡ length start = ap length e ∙ filled_length _ _ _ _ in
    let n : a.rows * (a.columns + a.across) - a.across + a.across * 1 ≡ a.rows * (a.columns + a.across) = omega arith in
    let m : a.rows * (a.columns + a.across) + a.up * (a.columns + a.across) ≡ (a.rows + a.up) * (a.columns + a.across) = omega arith in
    let across = rw n at c.slide_twice.ensures
    ∙ filled_same 0 _ _ _ _ (λ t u v. rows_slid byte start a.out.now a.columns a.rows a.across e (omega arith) t (omega arith)) in
    rw m at c.slide_twice-2.ensures
    ∙ (filled_same 0 _ _ _ _ (λ t u v. windows_slid byte a.out.now _ a.columns a.rows a.across a.up c.requires.0.columns≥ across (omega arith) t)
    ∙ (ap (filled 0 _ _) across ∙ (filled_over _ _ _ _ _ (omega arith) ∙ (ap (filled 0 _ _) e ∙ filled_over _ _ _ _ _ (omega arith)))))
