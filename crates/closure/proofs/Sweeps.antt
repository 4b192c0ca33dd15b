-- Laws of sweeps. Assumes nothing.
use mathlib.Core.Path.{◌≡◌, refl, ap, ◌∙◌}
use mathlib.Core.List.{List}
use Prim.Native.Nat.{ℕ, zero, suc, ◌+◌, ◌-◌, ◌≤◌, ◌<◌}
use native.Mathlib.Omega.{arith}
use Rattle.grid.specs.declared.Place.{Place}
use Rattle.grid.specs.declared.Rectangle.{Rectangle}
use Rattle.grid.proofs.Spans.{InSpan}
use Rattle.closure.specs.Walk.{sweep, at, over}

-- ---- one turn more

pub sweep_none : (f : ℕ → List ℕ → List ℕ) (a : ℕ) (t : List ℕ) → t ≡ sweep f a (a - a) t
unfolding sweep
sweep_none f a t = let e : a - a ≡ 0 = omega arith in rw e refl

pub sweep_more : (f : ℕ → List ℕ → List ℕ) (a k : ℕ) (t : List ℕ) → a ≤ k → f k (sweep f a (k - a) t) ≡ sweep f a (k + 1 - a) t
unfolding sweep
sweep_more f a k t h =
    let e : k + 1 - a ≡ suc (k - a) = omega arith in
    let z : a + (k - a) ≡ k = omega arith in
    rw (e, z) refl

-- ---- what does the same at each turn

sweep_same : (f g : ℕ → List ℕ → List ℕ) (a n : ℕ) (t : List ℕ) → ((i : ℕ) (u : List ℕ) → a ≤ i → i < a + n → f i u ≡ g i u) → sweep f a n t ≡ sweep g a n t
unfolding sweep
sweep_same f g a zero t h = refl
sweep_same f g a (suc n) t h = h (a + n) _ (omega arith) (omega arith) ∙ ap (g (a + n)) (sweep_same f g a n t (λ i u l m. h i u l (omega arith)))

pub over_same : (f g : Place → List ℕ → List ℕ) (r : Rectangle) (t : List ℕ)
    → ((y x : ℕ) (u : List ℕ) → InSpan r.rows y → InSpan r.columns x → f (at r.level y x) u ≡ g (at r.level y x) u) → over f r t ≡ over g r t
unfolding over
over_same f g r t h = sweep_same _ _ _ _ t (λ y u a b. sweep_same _ _ _ _ u (λ x w c d.
    let rows : InSpan r.rows y = omega arith in
    let columns : InSpan r.columns x = omega arith in
    h y x w rows columns))
