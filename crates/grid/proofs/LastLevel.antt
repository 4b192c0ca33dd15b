-- The numbers of the last level begin at its offset. Assumes nothing.
use mathlib.Core.Path.{◌≡◌, subst}
use Prim.Native.Nat.{ℕ, zero, suc, ◌+◌, ◌-◌, ◌<◌}
use native.Mathlib.Omega.{arith}
use lib.Dec.{eqb, eqb→eq, ltb, leb, ltb→lt, leb→le, le→leb, nltb→le}
use Rattle.facts.proofs.Tests.{T_true, T_false, eqb_of, cases, same, not_e}
use Rattle.grid.specs.declared.Plan.{Plan}
use Rattle.grid.specs.Numbering.{offset, level_of, place_on, place}
use Rattle.grid.specs.Plan.{cell_total, function_total, cell_offset, function_offset, cell_level, function_level, last_level}
use Rattle.grid.specs.Range.{InRange}

module _ (w h : ℕ → ℕ) where
  level_below : (k n : ℕ) → n < offset w h k → level_of w h k n < k
  unfolding level_of offset
  level_below zero n b = absurd (omega arith)
  level_below (suc k) n b = cases (ltb n (offset w h k))
      (λ t. rw (T_true (ltb n (offset w h k)) t) (let i = level_below k n (ltb→lt _ _ t) in omega arith))
      (λ t. rw (T_false (ltb n (offset w h k)) (not_e (ltb n (offset w h k)) t)) (omega arith))

  last_is : (k n : ℕ) → n < offset w h (suc k) → eqb (level_of w h (suc k) n + 1) (suc k) ≡ leb (offset w h k) n
  unfolding level_of
  last_is k n b = same _ _
      (λ t. cases (ltb n (offset w h k))
      (λ u. absurd (let e : level_of w h k n + 1 ≡ suc k = rw (T_true (ltb n (offset w h k)) u) at (eqb→eq (level_of w h (suc k) n + 1) (suc k) t) in omega (arith, level_below k n (ltb→lt _ _ u))))
      (λ u. le→leb (offset w h k) n (nltb→le n (offset w h k) u)))
      (λ t. rw (T_false (ltb n (offset w h k)) (λ u. absurd (omega (arith, ltb→lt n (offset w h k) u, leb→le (offset w h k) n t)))) (eqb_of (k + 1) (suc k) (omega arith)))

module _ (p : Plan) (range : InRange p) where
  levels_suc : suc (p.levels - 1) ≡ p.levels
  levels_suc = omega (arith, range.levels≥)

  last_level_lem : (w h : ℕ → ℕ) (n : ℕ) → n < offset w h p.levels → last_level p (level_of w h p.levels n) ≡ leb (offset w h (p.levels - 1)) n
  unfolding last_level
  last_level_lem w h n b =
      subst (λ L. n < offset w h L → eqb (level_of w h L n + 1) L ≡ leb (offset w h (p.levels - 1)) n) levels_suc (last_is w h (p.levels - 1) n) b

  pub cell_last : (c : ℕ) → c < cell_total p → last_level p (cell_level p c) ≡ leb (cell_offset p (p.levels - 1)) c
  unfolding place place_on
  cell_last c i = last_level_lem _ _ c i

  pub function_last : (f : ℕ) → f < function_total p → last_level p (function_level p f) ≡ leb (function_offset p (p.levels - 1)) f
  unfolding place place_on
  function_last f i = last_level_lem _ _ f i
