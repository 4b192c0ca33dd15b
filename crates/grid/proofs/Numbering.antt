-- The numbering is right: number and place undo each other, for any widths and heights. Assumes nothing.
use Prim.Native.Nat.{ℕ, zero, suc, ◌+◌, ◌-◌, ◌*◌, ◌/◌, ◌%◌, ◌<◌, ◌≤◌}
use native.Mathlib.Nat.{mod-lt, div-add-mod', div-lt_iff_lt-mul, eq-or-lt_of_le, le_of_suc-le-suc, le_refl}
use mathlib.Core.Logic.{◌⊎◌, inl, inr}
use native.Mathlib.Omega.{arith}
use mathlib.Core.Bool.{Bool, true, false, cond}
use mathlib.Core.Path.{◌≡◌, refl, ap, sym, ◌∙◌}
use lib.Dec.{ltb}
use lib.Arith.{digits_lt, digits_div, digits_mod}
use borrow.Author.Tests.{ltb-true, ltb-false}
use Rattle.grid.specs.declared.Place.{Place}
pub use Rattle.grid.specs.Numbering.{Inside}
use Rattle.grid.specs.Numbering.{offset, number, level_of, place_on, place}

module _ (w h : ℕ → ℕ) where
  -- n stands on level k, below L
  pub record On (L n k : ℕ) : Type 0 where
    pub below : k < L
    pub from : offset w h k ≤ n
    pub to : n < offset w h k + h k * w k

  level_of_on : (L n : ℕ) → n < offset w h L → On L n (level_of w h L n)
  unfolding offset level_of
  level_of_on zero n b = absurd (omega arith)
  level_of_on (suc k) n b = go (ltb n (offset w h k)) refl (level_of_on k n)
    where
      go : (t : Bool) → ltb n (offset w h k) ≡ t → (n < offset w h k → On k n (level_of w h k n)) → On (suc k) n (cond t (level_of w h k n) k)
      go true e ih = let i = ih (ltb-true _ _ e) in omega arith
      go false e ih = omega (arith, ltb-false)

  pub level_ends : (j k : ℕ) → j < k → offset w h j + h j * w j ≤ offset w h k
  unfolding offset
  level_ends j zero b = absurd (omega arith)
  level_ends j (suc k) b = go (eq-or-lt_of_le (le_of_suc-le-suc b)) (level_ends j k)
    where
      go : (j ≡ k) ⊎ (j < k) → (j < k → offset w h j + h j * w j ≤ offset w h k) → offset w h j + h j * w j ≤ offset w h k + h k * w k
      go (inl e) ih = rw e (le_refl _)
      go (inr l) ih = let i = ih l in omega arith

  on_least : (L n : ℕ) {j k : ℕ} → On L n j → On L n k → ¬ (j < k)
  on_least L n {j} {k} a b l = let s = level_ends j k l in omega arith

  on_one : (L n : ℕ) {j k : ℕ} → On L n j → On L n k → j ≡ k
  on_one L n a b = omega (arith, on_least L n a b, on_least L n b a)

  -- a place's number is on its level
  number_on : (L : ℕ) (x : Place) → Inside w h L x → On L (number w h x) x.level
  unfolding number
  number_on L x i = omega (arith, i.level<, digits_lt i.row< i.column<)

  pub number_lt : (L : ℕ) (x : Place) → Inside w h L x → number w h x < offset w h L
  number_lt L x i = omega (arith, (number_on L x i).to, level_ends x.level L i.level<)

  place_on_number : (x : Place) → x.column < w x.level → place_on w h (number w h x) x.level ≡ x
  unfolding place_on number
  place_on_number x c = λ i. record { level = x.level; row = (ap (λ (m : ℕ). m / w x.level) e ∙ digits_div x.row c) i; column = (ap (λ (m : ℕ). m % w x.level) e ∙ digits_mod x.row c) i }
    where
      e : offset w h x.level + x.row * w x.level + x.column - offset w h x.level ≡ x.row * w x.level + x.column
      e = omega arith

  pub place_on_lem : (L n k : ℕ) → On L n k → n < offset w h L → place w h L n ≡ place_on w h n k
  unfolding place
  place_on_lem L n k o b = ap (place_on w h n) (on_one L n (level_of_on L n b) o)

  -- a number found by taking the levels below off it: the level k, and what is left of the number
  pub place_rest : (L n k rest : ℕ) → k < L → rest + offset w h k ≡ n → rest < h k * w k → record { level = k; row = rest / w k; column = rest % w k } ≡ place w h L n
  unfolding place_on
  place_rest L n k rest l e m =
      let q : n - offset w h k ≡ rest = omega arith in
      let o : On L n k = omega arith in
      let b : n < offset w h L = omega (arith, level_ends k L l) in
      sym (place_on_lem L n k o b ∙ (λ i. record { level = k; row = q i / w k; column = q i % w k }))

  pub place_number : (L : ℕ) (x : Place) → Inside w h L x → place w h L (number w h x) ≡ x
  place_number L x i = place_on_lem L (number w h x) x.level (number_on L x i) (number_lt L x i) ∙ place_on_number x i.column<

  module _ (wide : (k : ℕ) → 0 < w k) where
    pub place_inside : (L n : ℕ) → n < offset w h L → Inside w h L (place w h L n)
    unfolding place place_on
    place_inside L n b =
        let o = level_of_on L n b in
        record {
          level< = o.below;
          row< = (div-lt_iff_lt-mul (wide _)).1 (omega arith);
          column< = mod-lt _ (wide _);
        }

    pub number_place : (L n : ℕ) → n < offset w h L → number w h (place w h L n) ≡ n
    unfolding place place_on number
    number_place L n b = let o = level_of_on L n b in omega (arith, div-add-mod' (n - offset w h (level_of w h L n)) (w (level_of w h L n)))
