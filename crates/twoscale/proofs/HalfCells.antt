-- Document 000, formula 2, in one direction, at a point of a cell's first half and of its second. Assumes nothing.
use mathlib.Core.Path.{◌≡◌, refl, sym, ap, ◌∙◌}
use mathlib.Core.Bool.{Bool, false}
use Prim.Native.Nat.{ℕ, suc, ◌+◌, ◌*◌, ◌≤◌, ◌<◌}
use native.Mathlib.Omega.{arith}
use lib.Dec.{ltb}
use Rattle.facts.specs.Bounded.{sum}
use Rattle.facts.proofs.Sums.{sum_same}
use Rattle.grid.specs.declared.Side.{Side}
use Rattle.grid.specs.Knots.{times, functions, first_over}
use Rattle.grid.proofs.Knots.{first_lt}
use Rattle.splines.specs.Values.{cell_of, value_on}
use Rattle.splines.specs.Local.{full}
use Rattle.splines.proofs.Three.{three}
use Rattle.splines.proofs.Local.{Point}
use Rattle.splines.proofs.Halves.{before_0, before_1, before_2, behind_0, behind_1, behind_2}
use Rattle.twoscale.specs.TwoScale.{quarters}
use Rattle.twoscale.specs.Claims.{Halved}
use Rattle.twoscale.proofs.Finer.{sized', times_even, times_odd}
use Rattle.twoscale.proofs.Rows.{Row, by_degree}
use Rattle.twoscale.proofs.Rows1 as degree1
use Rattle.twoscale.proofs.Rows2 as degree2
use Rattle.twoscale.proofs.Found.{quarters_row, first_before, first_behind}
use Rattle.twoscale.proofs.Points.{At, value_1, value_2, weighed, combine}

module _ (s s' : Side) (half : Halved s s') (h x i : ℕ) (known : i < functions s) where
  abbrev k : ℕ → ℕ
  k = quarters s s' i

  abbrev Formula : Type 0
  Formula = value_on s (2 * h) i x ≡ sum (functions s') (λ j. quarters s s' i j * value_on s' h j x)

  -- the functions of the next level at the point: three, or two at degree 1
  fine : (c g u v p q r : ℕ) → At s' h x c g u v → (s.degree ≡ 1 → r ≡ 0) → ((j : ℕ) → j < functions s' → value_on s' h j x ≡ three g p q r j)
      → sum (functions s') (λ j. quarters s s' i j * value_on s' h j x) ≡ k g * p + k (g + 1) * q + k (g + 2) * r
  fine c g u v p q r a z e =
      let last = first_lt s' a.sized c a.inside in
      sum_same (functions s') _ (λ j. k j * three g p q r j) (λ j l. ap (λ y. k j * y) (e j l))
      ∙ weighed (functions s') g p q r k (omega (arith, a.first, half.degree, half.sized.degree≥)) (λ y. z (omega (arith, a.first, half.degree, half.sized.degree≥)))

  -- from the function's own three numbers w there and the rows of these
  join : (f g w w' w'' p q r a a' a'' b b' b'' d d' d'' : ℕ) → value_on s (2 * h) i x ≡ three f w w' w'' i
      → sum (functions s') (λ j. quarters s s' i j * value_on s' h j x) ≡ k g * p + k (g + 1) * q + k (g + 2) * r
      → k g ≡ three f a a' a'' i → k (g + 1) ≡ three f b b' b'' i → k (g + 2) * r ≡ three f d d' d'' i * r
      → w ≡ a * p + b * q + d * r → w' ≡ a' * p + b' * q + d' * r → w'' ≡ a'' * p + b'' * q + d'' * r → Formula
  join f g w w' w'' p q r a a' a'' b b' b'' d d' d'' own sums e₀ e₁ e₂ y y' y'' =
      own ∙ combine f i w w' w'' a a' a'' b b' b'' d d' d'' p q r y y' y'' ∙ rw (← e₀, ← e₁, ← e₂) (sym sums)

  module _ (c : ℕ) (inside : c < s.cells) where
    abbrev f : ℕ
    f = first_over s c

    abbrev l : Bool
    l = full (times s) c

    abbrev r : Bool
    r = full (times s) (suc c)

    row : (j a b d : ℕ) → Row s s' f j a b d → k j ≡ three f a b d i
    row j a b d e = quarters_row s s' half f i j a b d e known

    row_times : (j a b d y : ℕ) → Row s s' f j a b d → k j * y ≡ three f a b d i * y
    row_times j a b d y e = ap (λ z. z * y) (row j a b d e)

    same_full : (j : ℕ) → j ≤ s.cells → full (times s') (2 * j) ≡ full (times s) j
    same_full j b = ap (λ z. ltb 1 z) (times_even s s' half j b)

    middle_full : full (times s') (suc (2 * c)) ≡ false
    middle_full = ap (λ z. ltb 1 z) (times_odd s s' half c inside)

    right_full : full (times s') (suc (suc (2 * c))) ≡ r
    right_full = let twice : suc (suc (2 * c)) ≡ 2 * suc c = omega arith in ap (full (times s')) twice ∙ same_full (suc c) inside

    -- ---- the first half

    module _ (u v : ℕ) (own : At s (2 * h) x c f u (u + 2 * v)) (at : At s' h x (2 * c) (f + c) u v) where
      before_1d : s.degree ≡ 1 → Formula
      before_1d e =
          join f (f + c) _ _ _ _ _ _ 4 0 0 2 2 0 0 0 0
          (value_1 s (2 * h) x c f u (u + 2 * v) own e i known)
          (fine (2 * c) (f + c) u v _ _ _ at (λ z. refl) (value_1 s' h x (2 * c) (f + c) u v at (half.degree ∙ e)))
          (row (f + c) 4 0 0 (degree1.row_0 s s' half e c inside (f + c) refl))
          (row (f + c + 1) 2 2 0 (degree1.row_1 s s' half e c inside (f + c + 1) refl))
          (omega arith) (omega arith) (omega arith) (omega arith)

      before_2d : s.degree ≡ 2 → Formula
      before_2d e =
          join f (f + c) _ _ _ _ _ _ _ _ _ _ _ _ _ _ _
          (value_2 s (2 * h) x c f u (u + 2 * v) own e l r refl refl i known)
          (fine (2 * c) (f + c) u v _ _ _ at (λ z. absurd (omega arith)) (value_2 s' h x (2 * c) (f + c) u v at (half.degree ∙ e) l false (same_full c (omega arith)) middle_full))
          (row (f + c) _ _ _ (degree2.row_0 s s' half e c inside (f + c) refl))
          (row (f + c + 1) _ _ _ (degree2.row_1 s s' half e c inside (f + c + 1) refl))
          (row_times (f + c + 2) _ _ _ _ (degree2.row_2 s s' half e c inside (f + c + 2) refl))
          (before_0 l u v ∙ omega arith) (before_1 l r u v) (before_2 r u v ∙ omega arith)

    -- ---- the second half

    module _ (u v : ℕ) (own : At s (2 * h) x c f (2 * u + v) v) (at : At s' h x (suc (2 * c)) (f + c + 1) u v) where
      behind_1d : s.degree ≡ 1 → Formula
      behind_1d e =
          join f (f + c + 1) _ _ _ _ _ _ 2 2 0 0 4 0 0 0 0
          (value_1 s (2 * h) x c f (2 * u + v) v own e i known)
          (fine (suc (2 * c)) (f + c + 1) u v _ _ _ at (λ z. refl) (value_1 s' h x (suc (2 * c)) (f + c + 1) u v at (half.degree ∙ e)))
          (row (f + c + 1) 2 2 0 (degree1.row_1 s s' half e c inside (f + c + 1) refl))
          (row (f + c + 1 + 1) 0 4 0 (degree1.row_2 s s' half e c inside (f + c + 1 + 1) (omega arith)))
          (omega arith) (omega arith) (omega arith) (omega arith)

      behind_2d : s.degree ≡ 2 → Formula
      behind_2d e =
          join f (f + c + 1) _ _ _ _ _ _ _ _ _ _ _ _ _ _ _
          (value_2 s (2 * h) x c f (2 * u + v) v own e l r refl refl i known)
          (fine (suc (2 * c)) (f + c + 1) u v _ _ _ at (λ z. absurd (omega arith)) (value_2 s' h x (suc (2 * c)) (f + c + 1) u v at (half.degree ∙ e) false r middle_full right_full))
          (row (f + c + 1) _ _ _ (degree2.row_1 s s' half e c inside (f + c + 1) refl))
          (row (f + c + 1 + 1) _ _ _ (degree2.row_2 s s' half e c inside (f + c + 1 + 1) (omega arith)))
          (row_times (f + c + 1 + 2) _ _ _ _ (degree2.row_3 s s' half e c inside (f + c + 1 + 2) (omega arith)))
          (behind_0 l u v ∙ omega arith) (behind_1 l r u v) (behind_2 r u v ∙ omega arith)

    -- ---- both, where x lies u parts behind the half's first line and v before its second

    module _ (some : 1 ≤ h) (over : cell_of (2 * h) s.cells x ≡ c) (u v : ℕ) where
      own : (u v : ℕ) → Point (2 * h) c x u v → At s (2 * h) x c f u v
      own u v p = record { sized = half.sized; parts≥ = omega arith; cell = over; inside = inside; first = refl; point = p }

      pub before_half : cell_of h s'.cells x ≡ 2 * c → Point h (2 * c) x u v → Formula
      before_half e p =
          let o = own u (u + 2 * v) (record { place = omega (arith, p.place); parts = omega (arith, p.parts) }) in
          let at : At s' h x (2 * c) (f + c) u v = record { sized = sized' s s' half; parts≥ = some; cell = e; inside = omega (arith, half.cells); first = first_before s s' half c inside; point = p } in
          by_degree s s' half (before_1d u v o at) (before_2d u v o at)

      pub behind_half : cell_of h s'.cells x ≡ suc (2 * c) → Point h (suc (2 * c)) x u v → Formula
      behind_half e p =
          let o = own (2 * u + v) v (record { place = omega (arith, p.place, p.parts); parts = omega (arith, p.parts) }) in
          let at : At s' h x (suc (2 * c)) (f + c + 1) u v = record { sized = sized' s s' half; parts≥ = some; cell = e; inside = omega (arith, half.cells); first = first_behind s s' half c inside; point = p } in
          by_degree s s' half (behind_1d u v o at) (behind_2d u v o at)
