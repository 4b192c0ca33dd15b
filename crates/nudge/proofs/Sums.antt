-- What the sum over the functions gains when heights change. Assumes nothing.
use mathlib.Core.Path.{◌≡◌, refl, ap, ap₂, ◌∙◌}
use mathlib.Core.Logic.{◌≢◌}
use mathlib.Core.Bool.{Bool, true, false, cond}
use mathlib.Core.List.{List}
use Prim.Native.Nat.{ℕ, zero, suc, ◌+◌, ◌*◌, ◌≤◌, ◌<◌, zero-le}
use native.Mathlib.Nat.{le_refl, le_trans, le_of_eq, mul-le-mul_right}
use native.Mathlib.Omega.{arith}
use lib.Dec.{T}
use lib.IntN.{ℤ, pos, nat_abs, ◌+ℤ◌, ◌-ℤ◌, ◌*ℤ◌}
use lib.ListN.{length, get_or}
use lib.Seq.{get_or-set_same, get_or-set_other}
use Rattle.facts.specs.Bounded.{sum}
use Rattle.facts.proofs.Sums as sums
use Rattle.exact.proofs.Integers.{add_times, less_times}
use Rattle.exact.proofs.Dyadic.{abs_mul}
use Rattle.exact.proofs.Sums.{sum_one, sum_apart}
use Rattle.grid.specs.declared.Plan.{Plan}
use Rattle.grid.specs.Numbering.{offset}
use Rattle.grid.specs.Plan.{function_columns_at, function_rows_at, function_offset, function_total, function_place, function_level}
use Rattle.grid.proofs.Laws.{function_inside, function_number_place}
use Rattle.grid.proofs.Levels.{offset_next, offset_mono, level_before, level_from}
use Rattle.mesh.specs.Mesh.{active}
use Rattle.heights.specs.Heights.{value_at, one_at, product_of, product_at, height_sum}
use Rattle.heights.specs.Steps.{Point}
use Rattle.heights.proofs.Values.{value_one}
use Rattle.nudge.specs.Nudge.{nudged}
use Rattle.nudge.specs.Demands.{Moved}

-- ---- one height

module _ (p : Plan) (functions : List ℕ) (heights : List ℤ) (f : ℕ) (d : ℤ) (x y : ℕ) (is_active : get_or functions f 0 ≡ 1) (in_heights : f < length heights) where
  abbrev v : ℕ → ℕ
  v g = value_at p x y (function_place p g)

  here : product_at p functions (nudged f d heights) x y f ≡ product_at p functions heights x y f +ℤ d *ℤ pos (v f)
  unfolding product_of nudged active
  here =
      rw (is_active, get_or-set_same heights f (get_or heights f (pos 0) +ℤ d) (pos 0) in_heights)
      (add_times (get_or heights f (pos 0)) d (v f))

  elsewhere : (g : ℕ) → g ≢ f → product_at p functions (nudged f d heights) x y g ≡ product_at p functions heights x y g
  unfolding product_of nudged
  elsewhere g n = rw (get_or-set_other heights f g (get_or heights f (pos 0) +ℤ d) (pos 0) n)

  pub nudged_sum : f < function_total p → height_sum p functions (nudged f d heights) x y ≡ height_sum p functions heights x y +ℤ d *ℤ pos (v f)
  unfolding height_sum
  nudged_sum l = sum_one (function_total p) f _ _ (d *ℤ pos (v f)) l (λ g m n. elsewhere g n) here

-- ---- any heights

module _ (p : Plan) (functions : List ℕ) (before after : List ℤ) (d : ℕ → ℕ) (x y : ℕ) (s : Point p x y) (moved : Moved p functions d before after) where
  abbrev w : ℕ → ℕ
  w f = value_at p x y (function_place p f)

  product_moved : (f : ℕ) → nat_abs (product_at p functions after x y f -ℤ product_at p functions before x y f) ≤ d (function_level p f) * w f
  unfolding product_of
  product_moved f = go (active functions f) (moved f)
    where
      go : (b : Bool) → (T b → nat_abs (get_or after f (pos 0) -ℤ get_or before f (pos 0)) ≤ d (function_level p f))
          → nat_abs (cond b (get_or after f (pos 0) *ℤ pos (w f)) (pos 0) -ℤ cond b (get_or before f (pos 0) *ℤ pos (w f)) (pos 0)) ≤ d (function_level p f) * w f
      go true m = rw (← less_times (get_or after f (pos 0)) (get_or before f (pos 0)) (w f), abs_mul (get_or after f (pos 0) -ℤ get_or before f (pos 0)) (pos (w f))) (mul-le-mul_right (w f) (m tt))
      go false m = zero-le

  -- the functions of level k
  level_is : (k i : ℕ) → k < p.levels → i < function_rows_at p k * function_columns_at p k → function_level p (function_offset p k + i) ≡ k
  level_is k i l b =
      let W = function_columns_at p in
      let R = function_rows_at p in
      let n : function_offset p k + i < function_offset p (k + 1) = omega (arith, offset_next W R k) in
      let t : function_offset p k + i < function_total p = omega (arith, offset_mono W R (k + 1) p.levels (omega arith)) in
      let at = function_inside p s.range (function_offset p k + i) t in
      let is = function_number_place p s.range (function_offset p k + i) t in
      omega (arith, level_from W R p.levels (function_offset p k + i) at is k (omega arith), level_before W R p.levels (function_offset p k + i) at is (k + 1) n)

  by_levels : (k : ℕ) → k ≤ p.levels → sum (function_offset p k) (λ f. d (function_level p f) * w f) ≡ sum k (λ j. d j * one_at p j)
  unfolding sum offset
  by_levels zero l = refl
  by_levels (suc k) l =
      let n = function_rows_at p k * function_columns_at p k in
      let g : ℕ → ℕ = λ f. d (function_level p f) * w f in
      sums.sum_split (function_offset p k) n g
      ∙ ap₂ ◌+◌ (by_levels k (omega arith))
      (sums.sum_same n (λ i. g (function_offset p k + i)) (λ i. d k * w (function_offset p k + i)) (λ i b. ap (λ j. d j * w (function_offset p k + i)) (level_is k i (omega arith) b))
      ∙ sums.sum_mul n (d k) (λ i. w (function_offset p k + i))
      ∙ ap (λ m. d k * m) (value_one p x y s k (omega arith)))

  pub moved_sum : nat_abs (height_sum p functions after x y -ℤ height_sum p functions before x y) ≤ sum p.levels (λ k. d k * one_at p k)
  unfolding height_sum
  moved_sum =
      le_trans (sum_apart (function_total p) (product_at p functions after x y) (product_at p functions before x y))
      (le_trans (sums.sum_le (function_total p) _ (λ f. d (function_level p f) * w f) (λ f l. product_moved f)) (le_of_eq (by_levels p.levels (le_refl _))))
