-- The two directions, over sets of cells, as one: what each settles, what it changed, and that the opposite takes it back.
-- Assumes nothing.
use mathlib.Core.Path.{◌≡◌, refl, ap, ◌∙◌}
use mathlib.Core.Bool.{Bool, true, false, not, ◌&&◌, beq}
use Prim.Native.Nat.{ℕ, ◌+◌, ◌<◌}
use lib.Dec.{T}
use Rattle.hierarchy.specs.Hierarchy.{Hierarchy, Cells, closure}
use Rattle.hierarchy.proofs.Sets.{Lawful, ◌∪◌, ◌∖◌, MeshSet, Admissible, active, reactivable}
use Rattle.hierarchy.proofs.Closure.{closure_has}
use Rattle.hierarchy.proofs.Undo as undo
use Rattle.outcomes.specs.Calls.{Direction, refine, coarsen}
use Rattle.outcomes.specs.Runs.{opposite}

-- the set that a call settles, and what it changed, where S was refined before and R is after
abbrev pub put : Direction → Cells → Cells → Cells
put refine S M = S ∪ M
put coarsen S M = S ∖ M

abbrev pub difference : Direction → Cells → Cells → Cells
difference refine S R = R ∖ S
difference coarsen S R = S ∖ R

-- what grew differs where it was added
pub differs : (s r : Bool) → (T s → T r) → not (beq s r) ≡ r && not s
differs true true f = refl
differs true false f = absurd (f tt)
differs false true f = refl
differs false false f = refl

pub beq_sym : (s r : Bool) → beq s r ≡ beq r s
beq_sym true true = refl
beq_sym true false = refl
beq_sym false true = refl
beq_sym false false = refl

-- what a cell must be so that it may be selected
abbrev pub May : Direction → Hierarchy → Cells → ℕ → Type 0
May refine H S c = T (active H S c) × (H.level c + 1 < H.depth)
May coarsen H S c = T (reactivable H S c)

module _ (H : Hierarchy) (L : Lawful H) (S M : Cells) (G : Admissible H S) (W : MeshSet H S) where
  pub result_mesh : (d : Direction) → ((c : ℕ) → c < H.size → T (M c) → May d H S c) → MeshSet H (closure H (put d S M))
  result_mesh refine a = undo.refine_mesh H L S M G W a
  result_mesh coarsen a = undo.coarsen_mesh H L S M G W a

  -- what changed may be selected by the opposite call
  pub changed_may : (d : Direction) → ((c : ℕ) → c < H.size → T (M c) → May d H S c) → (c : ℕ) → c < H.size
      → T (difference d S (closure H (put d S M)) c) → May (opposite d) H (closure H (put d S M)) c
  changed_may refine a c i t = (undo.refine_added H L S M G W a c i t).1
  changed_may coarsen a c i t = undo.coarsen_taken H L S M G W a c i t

  -- and the opposite call gives S again
  pub put_back : (d : Direction) → ((c : ℕ) → c < H.size → T (M c) → May d H S c) → (c : ℕ) → c < H.size
      → closure H (put (opposite d) (closure H (put d S M)) (difference d S (closure H (put d S M)))) c ≡ S c
  put_back refine a = undo.refine_undone H L S M G W a
  put_back coarsen a = undo.coarsen_undone H L S M G W a

  -- refining only adds, coarsening only takes away, so a cell that differs is one that was added, or taken
  pub difference_is : (d : Direction) → ((c : ℕ) → c < H.size → T (M c) → May d H S c) → (c : ℕ) → c < H.size
      → not (beq (S c) (closure H (put d S M) c)) ≡ difference d S (closure H (put d S M)) c
  difference_is refine a c i = differs (S c) (closure H (S ∪ M) c) (undo.refine_keeps H L S M G W a c i)
  difference_is coarsen a c i = ap not (beq_sym (S c) (closure H (S ∖ M) c)) ∙ differs (closure H (S ∖ M) c) (S c) (undo.coarsen_within H L S M G W a c)

  -- what the call was to have, it has; and each admissible set with the same has its cells
  pub put_has : (d : Direction) (c : ℕ) → c < H.size → T (put d S M c) → T (closure H (put d S M) c)
  put_has refine = closure_has H L (S ∪ M)
  put_has coarsen = closure_has H L (S ∖ M)
