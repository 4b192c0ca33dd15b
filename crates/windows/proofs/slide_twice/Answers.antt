-- `windows::slide_twice` meets its contract: windows of windows are wider windows. Assumes nothing.
-- both parts make the whole, and the first is not the smaller
use mathlib.Core.Path.{◌≡◌, ap, ◌∙◌}
use Prim.Native.Nat.{ℕ, ◌+◌, ◌-◌, ◌*◌, ◌/◌, ◌%◌, ◌≤◌, ◌<◌}
use native.Mathlib.Nat.{mul-le-mul_right, div-add-mod', mod-lt}
use native.Mathlib.Omega.{arith}
use Rattle.facts.proofs.Mapped.{filled_same}
use Rattle.windows.specs.Windows.{slid}
use Rattle.windows.proofs.Lowered.{slid_twice}
use Rattle.windows.proofs.slide_twice.Goals as goal

parts : (t : ℕ) → 1 ≤ t → (t - t / 2 + t / 2 ≡ t) × (t / 2 ≤ t - t / 2) × (1 ≤ t - t / 2)
parts t l = let e = div-add-mod' t 2 in let m : t % 2 < 2 = mod-lt t (omega arith) in (omega arith, omega arith, omega arith)

-- as many entries
whole : (t step : ℕ) → 1 ≤ t → ((t - t / 2) * step + t / 2 * step ≡ t * step) × (t / 2 * step ≤ (t - t / 2) * step)
whole t step l = let p = parts t l in
    let e = ap (λ (k : ℕ). k * step) p.0 in
    (omega arith, mul-le-mul_right step p.1)

pub returns : goal.returns
returns c = let a = c.args in
    let p = c.requires.0 in
    let d = parts a.times p.times≥ in
    let w = whole a.times a.step p.times≥ in
    let q : a.n + (a.times - a.times / 2) * a.step + 1 * (a.times / 2 * a.step) ≡ a.n + a.times * a.step = omega arith in
    let r : a.times - a.times / 2 + 1 + a.times / 2 ≡ a.times + 1 = omega arith in
    rw q at c.slide-2.ensures
    ∙ filled_same 0 _ _ _ _ (λ t u v. slid_twice a.table.now a.other.now _ a.n a.step (a.times - a.times / 2) (a.times / 2) (omega arith) c.slide.ensures (omega arith) t
    ∙ ap (λ (k : ℕ). slid a.table.now a.n a.step k t) r)
