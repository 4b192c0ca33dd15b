-- Low heights: a test of the size, one function more, and levels one by one. Assumes nothing.
use mathlib.Core.Path.{◌≡◌, refl, sym, ap, ◌∙◌}
use mathlib.Core.Bool.{Bool, not, ◌&&◌, ◌||◌, and-true}
use mathlib.Core.List.{List}
use Prim.Native.Nat.{ℕ, zero, suc, ◌+◌, ◌-◌, ◌*◌, ◌%◌, ◌^◌, ◌≤◌, ◌<◌}
use native.Mathlib.Omega.{arith}
use lib.Dec.{eqb, leb, leb-suc-suc}
use lib.IntN.{ℤ, pos, negsuc, nat_abs}
use lib.ListN.{get_or}
use lib.Signed.{le_z}
use Rattle.facts.specs.Bounded.{implies}
use Rattle.facts.specs.Ranges.{every_from}
use Rattle.facts.proofs.Tests.{or_implies}
use Rattle.facts.proofs.Ranges.{every_from_lem, from_same}
use Rattle.facts.proofs.Rows.{from_next}
use Rattle.grid.specs.declared.Plan.{Plan}
use Rattle.grid.specs.Plan.{function_columns_at, function_rows_at, function_offset, function_total, function_level}
use Rattle.grid.specs.Range.{InRange}
use Rattle.grid.proofs.Laws.{function_inside, function_number_place}
use Rattle.grid.proofs.Levels.{offset_next, offset_mono, level_before, level_from}
use Rattle.mesh.specs.Mesh.{active}
use Rattle.heights.specs.Heights.{low, low_at, all_low, low_on}

-- ---- one height

-- two signed tests, of the least and the most, are one of the size
within : (m : ℕ) (h : ℤ) → (le_z (negsuc m) h && le_z h (pos (suc m))) ≡ leb (nat_abs h) (suc m)
within m (pos a) = refl
within m (negsuc a) = and-true (leb a m) ∙ sym (leb-suc-suc a m)

-- no bit of the shift is lost
pub most_is : (k : ℕ) → k < 4 → (65536 * 2 ^ (4 * k)) % 2 ^ 32 ≡ 65536 * 16 ^ k
most_is zero l = refl
most_is (suc zero) l = refl
most_is (suc (suc zero)) l = refl
most_is (suc (suc (suc zero))) l = refl
most_is (suc (suc (suc (suc k)))) l = absurd (omega arith)

-- ---- a run of functions

module _ (k : ℕ) (functions : List ℕ) (heights : List ℤ) where
  -- the test that code makes
  on_test : (i : ℕ) → (not (eqb (get_or functions i 0) 1) || leb (nat_abs (get_or heights i (pos 0))) (65536 * 16 ^ k)) ≡ low_on k functions heights i
  unfolding low_on low active
  on_test i = or_implies (eqb (get_or functions i 0) 1) (leb (nat_abs (get_or heights i (pos 0))) (65536 * 16 ^ k))

  pub run_turn : (from i : ℕ) {ok : Bool} {size most : ℕ} → from ≤ i → size ≡ nat_abs (get_or heights i (pos 0)) → most ≡ 65536 * 16 ^ k
      → ok ≡ every_from from (i - from) (low_on k functions heights) → (ok && (not (eqb (get_or functions i 0) 1) || leb size most)) ≡ every_from from (i + 1 - from) (low_on k functions heights)
  run_turn from i l m e q =
      let n : i + 1 - from ≡ i - from + 1 = omega arith in
      let a : i ≡ from + (i - from) = omega arith in
      rw (q, m, e, on_test i, n) (ap (λ z. every_from from (i - from) (low_on k functions heights) && low_on k functions heights z) a ∙ from_next from (low_on k functions heights) (i - from))

-- ---- a level

module _ (p : Plan) (range : InRange p) (functions : List ℕ) (heights : List ℤ) (k : ℕ) (l : k < p.levels) where
  level_is : (f : ℕ) → function_offset p k ≤ f → f < function_offset p (k + 1) → function_level p f ≡ k
  level_is f a b =
      let t : f < function_total p = omega (arith, offset_mono (function_columns_at p) (function_rows_at p) (k + 1) p.levels (omega arith)) in
      let i = function_inside p range f t in
      let n = function_number_place p range f t in
      omega (arith, level_before (function_columns_at p) (function_rows_at p) p.levels f i n (k + 1) b, level_from (function_columns_at p) (function_rows_at p) p.levels f i n k a)

  pub level_low : {r : Bool} {from to : ℕ} → from ≡ function_offset p k → to ≡ function_offset p (k + 1) → r ≡ every_from from (to - from) (low_on k functions heights)
      → r ≡ every_from (function_offset p k) (function_rows_at p k * function_columns_at p k) (low_at p functions heights)
  unfolding low_on
  level_low a b e =
      let n = offset_next (function_columns_at p) (function_rows_at p) k in
      let m : function_offset p (k + 1) - function_offset p k ≡ function_rows_at p k * function_columns_at p k = omega arith in
      e ∙ rw (a, b, m) (from_same _ _ _ _ (λ f x y. ap (λ z. implies (active functions f) (low z (get_or heights f (pos 0)))) (sym (level_is f x (omega arith)))))

pub all_low_lem : (p : Plan) (functions : List ℕ) (heights : List ℤ) → every_from 0 (function_total p) (low_at p functions heights) ≡ all_low p functions heights
unfolding all_low
all_low_lem p functions heights = every_from_lem (function_total p) (low_at p functions heights)
