-- Refining is undone by coarsening the cells that it added, and coarsening by refining the cells that it took.
-- Assumes nothing.
use mathlib.Core.Path.{◌≡◌, refl}
use mathlib.Core.Bool.{Bool, true, false, not, ◌&&◌, ◌||◌}
use Prim.Native.Nat.{ℕ, ◌+◌, ◌≤◌, ◌<◌}
use native.Mathlib.Omega.{arith}
use lib.Dec.{T, eqb, eqb→eq, eqb_refl, leb, leb→le, le→leb}
use Rattle.facts.specs.Bounded.{some}
use Rattle.facts.proofs.Bounded.{some_i, some_e}
use Rattle.facts.proofs.Tests.{and_i, and_l, and_r, or_l, or_r, or_e, not_i, not_e, cases, positive}
use Rattle.hierarchy.specs.Hierarchy.{Hierarchy, Cells, closure}
use Rattle.hierarchy.proofs.Sets.{Lawful, ◌∪◌, ◌∖◌, MeshSet, Admissible, Within, active, child, reactivable}
use Rattle.hierarchy.proofs.Closure.{needs_level, needs_parent, closure→, closure_has, closure_mesh, closure_least, closure_is, admissible_needs}

-- ---- active and reactivable, said in words

module _ (H : Hierarchy) (S : Cells) (c : ℕ) where
  pub active_out : T (active H S c) → T (S c) → ⊥
  unfolding active
  active_out t = not_e (S c) (search (and_l))

  pub active_up : T (active H S c) → 1 ≤ H.level c → T (S (H.parent c))
  unfolding active
  active_up t l = or_e (eqb (H.level c) 0) (S (H.parent c)) (search (and_r)) (λ e. absurd (omega (arith, eqb→eq (H.level c) 0 e))) (λ u. u)

  pub →active : (T (S c) → ⊥) → (1 ≤ H.level c → T (S (H.parent c))) → T (active H S c)
  unfolding active
  →active f g =
      let p : T (not (S c)) = not_i (S c) f in
      let q : T (eqb (H.level c) 0 || S (H.parent c)) =
      cases (eqb (H.level c) 0) (λ e. search or_l) (λ e. let l = g (positive (H.level c) e) in search or_r) in
      search and_i

  pub reactivable_in : T (reactivable H S c) → T (S c)
  unfolding reactivable
  reactivable_in t = search (and_l)

  pub reactivable_leaf : T (reactivable H S c) → (d : ℕ) → d < H.size → 1 ≤ H.level d → H.parent d ≡ c → T (S d) → ⊥
  unfolding reactivable child
  reactivable_leaf t d i l e u =
      let k : T (eqb (H.parent d) c) = rw e (eqb_refl c) in
      let n : T (leb 1 (H.level d)) = le→leb 1 (H.level d) l in
      not_e (some H.size (λ x. child H c x && S x)) (search and_r) (search (some_i, and_i))

  pub →reactivable : T (S c) → ((d : ℕ) → d < H.size → 1 ≤ H.level d → H.parent d ≡ c → T (S d) → ⊥) → T (reactivable H S c)
  unfolding reactivable child
  →reactivable t f =
      let p : Cells = λ d. child H c d && S d in
      let n : T (not (some H.size p)) = not_i (some H.size p) (λ s. let (d, i, u) = some_e H.size p s in
      f d i (leb→le 1 (H.level d) (search (and_l, and_r))) (eqb→eq (H.parent d) c (search (and_l, and_r))) (search and_r)) in
      search and_i

-- ---- refining

kept : (r s : Bool) → T (r && not (r && not s)) → T s
kept true true t = tt
kept true false t = t
kept false s t = absurd t

keep : (r s : Bool) → T r → T s → T (r && not (r && not s))
keep true true p q = tt
keep true false p q = q
keep false s p q = p

module _ (H : Hierarchy) (L : Lawful H) (S M : Cells) (G : Admissible H S) (W : MeshSet H S)
    (may : (c : ℕ) → c < H.size → T (M c) → T (active H S c) × (H.level c + 1 < H.depth)) where
  refine_base : MeshSet H (S ∪ M)
  refine_base = record {
    closed = λ c i t l. or_e (S c) (M c) t (λ s. search (or_l, W.closed)) (λ m. search (or_l, active_up H S c, may c i m));
    shallow = λ c i t. or_e (S c) (M c) t (W.shallow c i) (λ m. (may c i m).1);
  }

  -- a cell that is refined afterwards has a parent that was refined before
  pub refine_parent : (c : ℕ) → T (closure H (S ∪ M) c) → 1 ≤ H.level c → T (S (H.parent c))
  refine_parent c t l =
      let (x, i, u, r) = closure→ H L (S ∪ M) c t in
      let k : 1 ≤ H.level x = omega (arith, needs_level H L i r) in
      let p : T (S (H.parent x)) = or_e (S x) (M x) u (λ s. W.closed x i s k) (λ m. active_up H S x (may x i m).0 k) in
      admissible_needs H L S G (L.parent_in x i k) p (needs_parent H L i r l)

  pub refine_mesh : MeshSet H (closure H (S ∪ M))
  refine_mesh = closure_mesh H L (S ∪ M) refine_base

  pub refine_keeps : Within H S (closure H (S ∪ M))
  refine_keeps c i s = closure_has H L (S ∪ M) c i (or_l (S c) (M c) s)

  -- what refining adds was active, and is reactivable
  pub refine_added : (c : ℕ) → c < H.size → T ((closure H (S ∪ M) ∖ S) c) → T (active H S c) × T (reactivable H (closure H (S ∪ M)) c)
  refine_added c i t =
      let r : T (closure H (S ∪ M) c) = and_l (closure H (S ∪ M) c) _ t in
      let n : T (S c) → ⊥ = not_e (S c) (and_r (closure H (S ∪ M) c) _ t) in (
        →active H S c n (refine_parent c r),
        →reactivable H (closure H (S ∪ M)) c r (λ d j l e u. n (rw e at (refine_parent d u l))),
      )

  -- coarsening all that it added gives S again
  pub refine_undone : (c : ℕ) → c < H.size → closure H (closure H (S ∪ M) ∖ (closure H (S ∪ M) ∖ S)) c ≡ S c
  refine_undone =
      closure_is H L (closure H (S ∪ M) ∖ (closure H (S ∪ M) ∖ S)) S G
      (λ c i t. kept (closure H (S ∪ M) c) (S c) t)
      (λ c i s. keep (closure H (S ∪ M) c) (S c) (refine_keeps c i s) s)

-- ---- coarsening

module _ (H : Hierarchy) (L : Lawful H) (S M : Cells) (G : Admissible H S) (W : MeshSet H S)
    (may : (c : ℕ) → c < H.size → T (M c) → T (reactivable H S c)) where
  pub coarsen_parent : (c : ℕ) → c < H.size → T (S c) → 1 ≤ H.level c → T ((S ∖ M) (H.parent c))
  coarsen_parent c i t l =
      let p : T (S (H.parent c)) = W.closed c i t l in
      let n : T (not (M (H.parent c))) = not_i (M (H.parent c)) (λ m.
      reactivable_leaf H S (H.parent c) (may (H.parent c) (L.parent_in c i l) m) c i l refl t) in
      search and_i

  coarsen_base : MeshSet H (S ∖ M)
  coarsen_base = record { closed = λ c i t l. coarsen_parent c i (and_l (S c) _ t) l; shallow = λ c i t. W.shallow c i (and_l (S c) _ t) }

  pub coarsen_mesh : MeshSet H (closure H (S ∖ M))
  coarsen_mesh = closure_mesh H L (S ∖ M) coarsen_base

  pub coarsen_within : (c : ℕ) → T (closure H (S ∖ M) c) → T (S c)
  coarsen_within = closure_least H L (S ∖ M) S G (λ c i t. and_l (S c) (not (M c)) t)

  -- what coarsening takes is active afterwards, and can be refined
  pub coarsen_taken : (c : ℕ) → c < H.size → T ((S ∖ closure H (S ∖ M)) c) → T (active H (closure H (S ∖ M)) c) × (H.level c + 1 < H.depth)
  coarsen_taken c i t =
      let s : T (S c) = and_l (S c) _ t in
      let n : T (closure H (S ∖ M) c) → ⊥ = not_e (closure H (S ∖ M) c) (and_r (S c) _ t) in (
        →active H (closure H (S ∖ M)) c n (λ l. closure_has H L (S ∖ M) (H.parent c) (L.parent_in c i l) (coarsen_parent c i s l)),
        W.shallow c i s,
      )

  -- refining all that it took gives S again
  pub coarsen_undone : (c : ℕ) → c < H.size → closure H (closure H (S ∖ M) ∪ (S ∖ closure H (S ∖ M))) c ≡ S c
  coarsen_undone =
      closure_is H L (closure H (S ∖ M) ∪ (S ∖ closure H (S ∖ M))) S G
      (λ c i t. or_e (closure H (S ∖ M) c) ((S ∖ closure H (S ∖ M)) c) t (coarsen_within c) (λ u. and_l (S c) _ u))
      (λ c i s. cases (closure H (S ∖ M) c) (λ r. search or_l) (λ n. search (or_r, and_i)))
