-- A function that passes its height on changes no point's height, where those of all functions are summed. Assumes nothing.
use mathlib.Core.Path.{◌≡◌, refl, sym, ap, subst, ◌∙◌}
use mathlib.Core.Logic.{◌≢◌}
use mathlib.Core.Bool.{Bool, true, false, cond}
use mathlib.Core.List.{List}
use Prim.Native.Nat.{ℕ, zero, suc, ◌-◌, ◌*◌, ◌≤◌, ◌<◌}
use native.Mathlib.Nat.{le_refl, zero-mul}
use native.Mathlib.Omega.{arith}
use lib.Dec.{T, ltb, ltb→lt, nltb→le}
use lib.IntN.{ℤ, pos, ◌+ℤ◌, ◌-ℤ◌, ◌*ℤ◌, +ℤ_idl, +ℤ_idr, *ℤ-zero, zero-*ℤ, +ℤ-neg_ℤ_cancel}
use Rattle.facts.proofs.Tests.{cases}
use Rattle.exact.specs.Sums.{sumℤ}
use Rattle.exact.proofs.Integers.{swap, add_times, times_times}
use Rattle.exact.proofs.Sums.{sum_one, sum_times}
use Rattle.grid.specs.declared.Plan.{Plan}
use Rattle.grid.specs.Plan.{function_offset, function_total, function_place, function_level}
use Rattle.mesh.specs.Mesh.{deactivated}
use Rattle.heights.specs.Heights.{on_mesh, value_at}
use Rattle.carry.specs.Carry.{share, at, pass_on, carried}
use Rattle.carry.specs.Steps.{Allowed, Scales, NoneLast}
use Rattle.carry.proofs.Shares.{share_later, two_scale, before}
use Rattle.carry.proofs.OnePass.{passed_own, passed_other}

sum_add : (n : ℕ) (f g : ℕ → ℤ) → sumℤ n (λ k. f k +ℤ g k) ≡ sumℤ n f +ℤ sumℤ n g
unfolding sumℤ
sum_add zero f g = refl
sum_add (suc n) f g = ap (λ z. z +ℤ (f n +ℤ g n)) (sum_add n f g) ∙ swap (sumℤ n f) (sumℤ n g) (f n) (g n)

cancel : (a b c : ℤ) → a +ℤ c ≡ b +ℤ c → a ≡ b
cancel a b c e = sym (+ℤ-neg_ℤ_cancel a c) ∙ ap (λ z. z -ℤ c) e ∙ +ℤ-neg_ℤ_cancel b c

-- what all functions add at a point, active or not
unfoldable pub whole : Plan → List ℤ → ℕ → ℕ → ℤ
whole p hs x y = sumℤ (function_total p) (λ g. at hs g *ℤ pos (value_at p x y (function_place p g)))

module _ (p : Plan) (allowed : Allowed p) (scales : Scales p) (x y : ℕ) (on : T (on_mesh p x y)) where
  abbrev v : ℕ → ℕ
  v g = value_at p x y (function_place p g)

  module _ (f : ℕ) (b : f < function_total p) (l : suc (function_level p f) < p.levels) (hs : List ℤ) where
    abbrev h : ℤ
    h = at hs f

    -- with what each gets, and f has not given yet
    abbrev more : ℕ → ℤ
    more g = at hs g *ℤ pos (v g) +ℤ h *ℤ pos (share p f g * v g)

    more_sum : sumℤ (function_total p) more ≡ whole p hs x y +ℤ h *ℤ pos (v f)
    unfolding whole
    more_sum =
        sum_add (function_total p) _ _
        ∙ ap (λ z. whole p hs x y +ℤ z) (sum_times (function_total p) h (λ g. share p f g * v g) ∙ ap (λ n. h *ℤ pos n) (sym (two_scale p allowed scales x y on f b l)))

    own : more f ≡ at (pass_on p f hs) f *ℤ pos (v f) +ℤ h *ℤ pos (v f)
    own =
        ap (λ s. h *ℤ pos (v f) +ℤ h *ℤ pos (s * v f)) (share_later p allowed scales f f b (le_refl f))
        ∙ ap (λ n. h *ℤ pos (v f) +ℤ h *ℤ pos n) (zero-mul (v f))
        ∙ ap (λ z. h *ℤ pos (v f) +ℤ z) (*ℤ-zero h)
        ∙ +ℤ_idr (h *ℤ pos (v f))
        ∙ sym (ap (λ z. z *ℤ pos (v f) +ℤ h *ℤ pos (v f)) (passed_own p f hs b) ∙ ap (λ z. z +ℤ h *ℤ pos (v f)) (zero-*ℤ (pos (v f))) ∙ +ℤ_idl (h *ℤ pos (v f)))

    others : (g : ℕ) → g < function_total p → g ≢ f → more g ≡ at (pass_on p f hs) g *ℤ pos (v g)
    others g m n =
        sym (ap (λ z. z *ℤ pos (v g)) (passed_other p f hs g m n)
        ∙ add_times (at hs g) (h *ℤ pos (share p f g)) (v g)
        ∙ ap (λ z. at hs g *ℤ pos (v g) +ℤ z) (times_times h (share p f g) (v g)))

    pass_keeps : whole p (pass_on p f hs) x y ≡ whole p hs x y
    unfolding whole
    pass_keeps = cancel _ _ (h *ℤ pos (v f)) (sym (sum_one (function_total p) f more _ (h *ℤ pos (v f)) b others own) ∙ more_sum)

  -- a deactivated function has a next level
  deeper : (fs : List ℕ) → NoneLast p fs → (n : ℕ) → n < function_total p → T (deactivated fs n) → suc (function_level p n) < p.levels
  deeper fs none n l t =
      cases (ltb n (function_offset p (p.levels - 1)))
      (λ m. omega (arith, before p allowed.range n l (p.levels - 1) (ltb→lt n _ m)))
      (λ m. absurd (subst T (none n (nltb→le n _ m)) t))

  pub carried_keeps : (fs : List ℕ) → NoneLast p fs → (n : ℕ) → n ≤ function_total p → (hs : List ℤ) → whole p (carried p fs n hs) x y ≡ whole p hs x y
  unfolding carried
  carried_keeps fs none zero l hs = refl
  carried_keeps fs none (suc n) l hs = go (deactivated fs n) (deeper fs none n l) (carried_keeps fs none n (omega arith) hs)
    where
      go : (d : Bool) → (T d → suc (function_level p n) < p.levels) → whole p (carried p fs n hs) x y ≡ whole p hs x y
          → whole p (cond d (pass_on p n (carried p fs n hs)) (carried p fs n hs)) x y ≡ whole p hs x y
      go true t e = pass_keeps n l (t tt) (carried p fs n hs) ∙ e
      go false t e = e
