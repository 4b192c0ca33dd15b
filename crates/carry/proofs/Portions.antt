-- Heights passed on in the order of their numbers: those below some number have got their part, the others not yet. Assumes nothing.
use mathlib.Core.Path.{◌≡◌, refl, sym, ap, ◌∙◌}
use mathlib.Core.List.{List}
use Prim.Native.Nat.{ℕ, ◌+◌, ◌≤◌, ◌<◌}
use native.Mathlib.Omega.{arith}
use lib.Dec.{ltb, ltb→lt, nltb→le, eqb, eqb→eq}
use lib.IntN.{ℤ, pos, ◌+ℤ◌, ◌*ℤ◌, +ℤ_idr, *ℤ-zero}
use lib.ListN.{length, set, length-set}
use lib.Seq.{get_or-set_same, get_or-set_other}
use Rattle.facts.proofs.Tests.{cases, differ}
use Rattle.carry.specs.Carry.{at}

-- of a height h, function g gets q g
pub record PassedTo (q : ℕ → ℕ) (h : ℤ) (b : ℕ) (old new : List ℤ) : Type 0 where
  pub size : length new ≡ length old
  pub done : (g : ℕ) → g < b → at new g ≡ at old g +ℤ h *ℤ pos (q g)
  pub left : (g : ℕ) → b ≤ g → at new g ≡ at old g

-- who gets nothing keeps its height
pub nothing : (y h : ℤ) (n : ℕ) → n ≡ 0 → y ≡ y +ℤ h *ℤ pos n
nothing y h n e = rw (e, *ℤ-zero h) (sym (+ℤ_idr y))

module _ (q : ℕ → ℕ) (h : ℤ) where
  pub passed_none : (b : ℕ) (old : List ℤ) → ((g : ℕ) → g < b → q g ≡ 0) → PassedTo q h b old old
  passed_none b old none = record { size = refl; done = λ g l. nothing (at old g) h (q g) (none g l); left = λ g l. refl }

  -- one more
  pub passed_set : {b : ℕ} {old new : List ℤ} {v : ℤ} → PassedTo q h b old new → b < length old → v ≡ at new b +ℤ h *ℤ pos (q b) → PassedTo q h (b + 1) old (set new b v)
  passed_set {b} {old} {new} {v} s l e = record {
    size = length-set new b v ∙ s.size;
    done = λ g m. cases (eqb g b)
        (λ t. rw (eqb→eq g b t) (get_or-set_same new b v (pos 0) (omega (arith, s.size)) ∙ (e ∙ ap (λ y. y +ℤ h *ℤ pos (q b)) (s.left b (omega arith)))))
        (λ t. get_or-set_other new b g v (pos 0) (differ g b t) ∙ s.done g (omega (arith, differ g b t)));
    left = λ g m. get_or-set_other new b g v (pos 0) (omega arith) ∙ s.left g (omega arith);
  }

  -- all
  pub passed_all : {b : ℕ} {old new : List ℤ} → PassedTo q h b old new → ((g : ℕ) → b ≤ g → q g ≡ 0) → (g : ℕ) → at new g ≡ at old g +ℤ h *ℤ pos (q g)
  passed_all {b} {old} s none g = cases (ltb g b) (λ t. s.done g (ltb→lt g b t)) (λ t. s.left g (nltb→le g b t) ∙ nothing (at old g) h (q g) (none g (nltb→le g b t)))
