-- The heights of the active functions, written from the first on. Assumes nothing.
use mathlib.Core.Path.{◌≡◌, ◌∙◌}
use mathlib.Core.Bool.{cond}
use mathlib.Core.List.{List}
use Prim.Native.Nat.{ℕ, ◌+◌, ◌^◌, ◌≤◌, ◌<◌}
use native.Mathlib.Omega.{arith}
use lib.Dec.{eqb, eqb→eq}
use lib.IntN.{ℤ, pos}
use lib.ListN.{length, get_or, set, length-set}
use lib.Signed.{mag}
use lib.Seq.{get_or-set_same, get_or-set_other}
use mir.Syntax.{w32}
use mir.Val.{to_z, of_z}
use borrow.Author.Tests.{eq-eqb, ne_eqb}
use Rattle.facts.proofs.Tests.{cases, differ}
use Rattle.mesh.specs.Mesh.{active}
use Rattle.carry.specs.Carry.{at, only_active}
use Rattle.carry.proofs.Lists.{heights_is}
use Rattle.heights.proofs.Turns.{element}

-- what function g has
abbrev pub active_height : List ℕ → List ℤ → ℕ → ℤ
active_height functions heights g = cond (active functions g) (at heights g) (pos 0)

-- those below i are written
pub record ActiveTo (functions : List ℕ) (heights : List ℤ) (i : ℕ) (out : List ℤ) : Type 0 where
  pub size : length out ≡ length heights
  pub done : (g : ℕ) → g < i → at out g ≡ active_height functions heights g

-- ---- what is written, by way of a word

module _ (functions : List ℕ) (heights : List ℤ) (i : ℕ) {z : ℤ} where
  pub active_yes : get_or functions i 0 ≡ 1 → mag (at heights i) < 2 ^ 31 → z ≡ to_z w32 (of_z w32 (at heights i)) → z ≡ active_height functions heights i
  unfolding active
  active_yes y m e = rw (e, eq-eqb (get_or functions i 0) 1 y) (element (at heights i) m)

  pub active_no : (get_or functions i 0 ≡ 1 → ⊥) → z ≡ pos 0 → z ≡ active_height functions heights i
  unfolding active
  active_no n e = rw (e, ne_eqb (get_or functions i 0) 1 n)

-- ---- one after the other

module _ (functions : List ℕ) (heights : List ℤ) where
  pub active_none : {out : List ℤ} → length out ≡ length heights → ActiveTo functions heights 0 out
  active_none e = record { size = e; done = λ g l. absurd (omega arith) }

  pub active_next : {i : ℕ} {out : List ℤ} {v : ℤ} → ActiveTo functions heights i out → i < length heights → v ≡ active_height functions heights i → ActiveTo functions heights (i + 1) (set out i v)
  active_next {i} {out} {v} s l e = record {
    size = length-set out i v ∙ s.size;
    done = λ g m. cases (eqb g i)
        (λ t. rw (eqb→eq g i t) (get_or-set_same out i v (pos 0) (omega (arith, s.size)) ∙ e))
        (λ t. get_or-set_other out i g v (pos 0) (differ g i t) ∙ s.done g (omega (arith, differ g i t)));
  }

  pub active_all : {i : ℕ} {out : List ℤ} → length heights ≤ i → ActiveTo functions heights i out → out ≡ only_active functions heights
  unfolding only_active
  active_all l s = heights_is (length heights) _ _ s.size (λ g m. s.done g (omega arith))
