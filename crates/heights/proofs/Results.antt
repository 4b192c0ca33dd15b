-- What is claimed of heights holds. Assumes nothing.
use mathlib.Core.Path.{◌≡◌, refl, sym, ap, ◌∙◌}
use mathlib.Core.Bool.{Bool, true, false, not, cond}
use mathlib.Core.List.{List}
use Prim.Native.Nat.{ℕ, zero, suc, ◌*◌, ◌^◌, ◌≤◌}
use native.Mathlib.Nat.{le_refl, le_trans, lt_of_le_of_lt, mul-le-mul_right}
use native.Mathlib.Omega.{arith}
use lib.Dec.{T, eqb, eqb-suc-zero, lit<}
use lib.IntN.{ℤ, pos, neg_ℤ, nat_abs, ◌-ℤ◌, ◌*ℤ◌}
use lib.Ieee.{Float}
use lib.Ieee.Exact.{HasValue}
use lib.ListN.{length, get_or}
use Rattle.facts.specs.Bounded.{implies}
use Rattle.facts.proofs.Bounded.{every_same}
use Rattle.facts.proofs.Tests.{true_T}
use Rattle.exact.specs.Dyadic.{negative, dyadic}
use Rattle.exact.proofs.Integers.{abs_neg}
use Rattle.exact.proofs.Dyadic.{dyadic_value, subtract}
use Rattle.exact.proofs.Sums.{abs_add, sum_same}
use Rattle.grid.specs.declared.Plan.{Plan}
use Rattle.grid.specs.Plan.{function_total, function_place, function_level}
use Rattle.grid.proofs.Laws.{in_range_lem}
use Rattle.mesh.specs.Mesh.{active, check}
use Rattle.heights.specs.Height.{At, Refused}
use Rattle.heights.specs.Heights.{on_mesh, value_at, product_of, height_sum, places, low, low_on, all_low, heights_refusal, refusal, answer, number_of, height_of}
use Rattle.heights.specs.Demands.{Answered, Subtracted, Demands}
use Rattle.heights.specs.Steps.{OnSurface, most}
use Rattle.heights.proofs.Turns.{up_size, up_all}
use Rattle.heights.proofs.Refusals.{few, point, on_surface}
use Rattle.heights.proofs.Values.{valued}
use Rattle.heights.proofs.Flat.{flat}

-- ---- the answer

-- a refusal that is 0 is passed
skip : (a b : ℕ) → cond (not (eqb a 0)) a b ≡ 0 → (a ≡ 0) × (b ≡ 0)
skip zero b e = (refl, e)
skip (suc a) b e = absurd (let z : suc a ≡ 0 = rw (eqb-suc-zero a) at e in omega arith)

last : (b : Bool) → cond {A = ℕ} b 0 15 ≡ 0 → b ≡ true
last true e = refl
last false e = absurd (omega arith)

number_of_lem : (n : ℕ) (h : Float) → number_of (cond (eqb n 0) (At h) (Refused n)) ≡ n
number_of_lem zero h = refl
number_of_lem (suc n) h = rw (eqb-suc-zero n)

told_of : (n : ℕ) (h : Float) → let a = cond (eqb n 0) (At h) (Refused n) in a ≡ cond (eqb (number_of a) 0) (At (height_of a)) (Refused (number_of a))
told_of zero h = refl
told_of (suc n) h = rw (eqb-suc-zero n) (rw (eqb-suc-zero n) refl)

module _ (p : Plan) (cells functions : List ℕ) (heights : List ℤ) (x y : ℕ) where
  pub answer_is : refusal p cells functions heights x y ≡ 0 → answer p cells functions heights x y ≡ At (dyadic (places p.levels) (height_sum p functions heights x y))
  unfolding answer
  answer_is e = rw e

  -- what an accepted call had to pass
  pub accepted : refusal p cells functions heights x y ≡ 0 → OnSurface p functions heights x y
  unfolding refusal
  accepted e =
      let (c, r) = skip (check p cells functions) _ e in
      let (h, o) = skip (heights_refusal p functions heights) _ r in
      on_surface p cells functions heights x y c h (last (on_mesh p x y) o)

  -- in the parts of the sum
  pub small : OnSurface p functions heights x y → nat_abs (height_sum p functions heights x y) ≤ 36 * most
  small s = le_trans (rw (up_all s) at (up_size s p.levels (le_refl _))) (mul-le-mul_right (9 * most) s.point.levels≤)

  number_is : number_of (answer p cells functions heights x y) ≡ refusal p cells functions heights x y
  unfolding answer
  number_is = number_of_lem (refusal p cells functions heights x y) _

  pub answered : Answered p cells functions heights x y
  answered = record {
    number = number_is;
    value = λ e. rw (answer_is (sym number_is ∙ e)) (dyadic_value (places p.levels) (height_sum p functions heights x y));
    bits = λ e. lt_of_le_of_lt (small (accepted (sym number_is ∙ e))) (lit< tt);
    told = unfold answer in told_of (refusal p cells functions heights x y) _;
  }

-- ---- what an answer says

module _ (p : Plan) (cells functions : List ℕ) (heights : List ℤ) (x y : ℕ) (is : number_of (answer p cells functions heights x y) ≡ 0) where
  abbrev h : Float
  h = height_of (answer p cells functions heights x y)

  none : refusal p cells functions heights x y ≡ 0
  none = sym (number_is p cells functions heights x y) ∙ is

  pub surface : OnSurface p functions heights x y
  surface = accepted p cells functions heights x y none

  pub float : h ≡ dyadic (places p.levels) (height_sum p functions heights x y)
  float = ap height_of (answer_is p cells functions heights x y none)

  pub exact_value : HasValue h (negative (height_sum p functions heights x y)) (nat_abs (height_sum p functions heights x y)) (2 ^ places p.levels)
  exact_value = rw float (dyadic_value (places p.levels) (height_sum p functions heights x y))

-- one less another
pub differences : Subtracted
differences p cells functions heights x y cells' functions' heights' x' y' old new =
    let a = height_sum p functions heights x y in
    let b = height_sum p functions' heights' x' y' in
    let s = surface p cells functions heights x y old in
    let s' = surface p cells' functions' heights' x' y' new in
    let m : nat_abs (b -ℤ a) ≤ 72 * most = omega (arith, abs_add b (neg_ℤ a), abs_neg a, small p cells functions heights x y s, small p cells' functions' heights' x' y' s') in
    rw (float p cells functions heights x y old, float p cells' functions' heights' x' y' new)
    (subtract (places p.levels) b a (omega (arith, s.point.levels≤)) (lt_of_le_of_lt m (lit< tt)))

-- ---- heights that are ignored

module _ (p : Plan) (cells functions : List ℕ) (heights others : List ℤ) (x y : ℕ) (sized : length others ≡ length heights)
    (agree : (f : ℕ) → T (active functions f) → get_or others f (pos 0) ≡ get_or heights f (pos 0)) where
  -- what depends on a height only where the function is active
  same_where : {A : Type 0} (f : ℕ) (g : Bool → ℤ → A) → ((h h' : ℤ) → g false h ≡ g false h')
      → g (active functions f) (get_or others f (pos 0)) ≡ g (active functions f) (get_or heights f (pos 0))
  same_where {A} f g rest = go (active functions f) (agree f)
    where
      go : (b : Bool) → (T b → get_or others f (pos 0) ≡ get_or heights f (pos 0)) → g b (get_or others f (pos 0)) ≡ g b (get_or heights f (pos 0))
      go true e = ap (g true) (e tt)
      go false e = rest (get_or others f (pos 0)) (get_or heights f (pos 0))

  same_low : all_low p functions others ≡ all_low p functions heights
  unfolding all_low low_on
  same_low = every_same (function_total p) _ _ (λ f l. same_where f (λ b h. implies b (low (function_level p f) h)) (λ h h'. refl))

  same_sum : height_sum p functions others x y ≡ height_sum p functions heights x y
  unfolding height_sum product_of
  same_sum = sum_same (function_total p) _ _ (λ f l. same_where f (λ b h. cond b (h *ℤ pos (value_at p x y (function_place p f))) (pos 0)) (λ h h'. refl))

  ignored : answer p cells functions others x y ≡ answer p cells functions heights x y
  unfolding answer refusal heights_refusal
  ignored = rw (sized, same_low, same_sum) refl

-- ---- all of it

pub demands : Demands
demands = record {
  answered = answered;
  ignored = ignored;
  subtracted = differences;
  valued = λ p r e x y t. valued p x y (point p (in_range_lem p (true_T _ r)) (few p e) x y t);
  flat = flat;
}
