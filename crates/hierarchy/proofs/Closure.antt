-- The closure of X is the smallest admissible set that has X, and the refined cells of a mesh where X are those of one.
-- Assumes nothing.
use mathlib.Core.Path.{◌≡◌, subst}
use mathlib.Core.Bool.{◌&&◌}
use Prim.Native.Nat.{ℕ, zero, suc, ◌≤◌, ◌<◌}
use native.Mathlib.Omega.{arith}
use native.Mathlib.Nat.{le_refl}
use lib.Dec.{T, eqb, eqb→eq, eqb_refl}
use Rattle.facts.specs.Bounded.{some}
use Rattle.facts.proofs.Bounded.{some_i, some_e}
use Rattle.facts.proofs.Tests.{and_i, and_l, and_r, or_l, or_r, or_e, same}
use Rattle.hierarchy.specs.Hierarchy.{Hierarchy, Cells, reach, needs, closure}
use Rattle.hierarchy.proofs.Sets.{Lawful, ◌∪◌, MeshSet, Admissible, Within}

-- x's need of c, as the steps that lead there
pub data Needs (H : Hierarchy) : ℕ → ℕ → Type 0 where
  here : {c : ℕ} → Needs H c c
  step : {x y c : ℕ} → T (H.near x y) → Needs H y c → Needs H x c

module _ (H : Hierarchy) where
  reach→ : (f x c : ℕ) → T (reach H f x c) → Needs H x c
  unfolding reach
  reach→ zero x c t = subst (Needs H x) (eqb→eq x c t) here
  reach→ (suc f) x c t =
      let p : Cells = λ y. H.near x y && reach H f y c in
      or_e (eqb x c) (some H.size p) t (λ e. subst (Needs H x) (eqb→eq x c e) here)
      (λ s. let r = some_e H.size p s in step (search (and_l, r.2)) (reach→ f r.0 c (search (and_r, r.2))))

  reach_here : (f c : ℕ) → T (reach H f c c)
  unfolding reach
  reach_here zero c = eqb_refl c
  reach_here (suc f) c = search (or_l, eqb_refl)

module _ (H : Hierarchy) (L : Lawful H) where
  pub needs_in : {x c : ℕ} → x < H.size → Needs H x c → c < H.size
  needs_in i here = i
  needs_in {x} i (step {y = y} n r) = needs_in (L.near_in x y i n) r

  pub needs_level : {x c : ℕ} → x < H.size → Needs H x c → H.level c ≤ H.level x
  needs_level {x} i here = le_refl (H.level x)
  needs_level {x} i (step {y = y} n r) = omega (arith, L.near_level x y i n, needs_level (L.near_in x y i n) r)

  -- the parents need one another as the cells do
  pub needs_parent : {x c : ℕ} → x < H.size → Needs H x c → 1 ≤ H.level c → Needs H (H.parent x) (H.parent c)
  needs_parent i here l = here
  needs_parent {x} i (step {y = y} n r) l =
      let j : y < H.size = L.near_in x y i n in
      step (L.near_parent x y i n (omega (arith, needs_level j r))) (needs_parent j r l)

  pub needs_near : {x q c : ℕ} → Needs H x q → T (H.near q c) → Needs H x c
  needs_near here n = step n here
  needs_near (step m r) n = step m (needs_near r n)

  →reach : (f : ℕ) {x c : ℕ} → x < H.size → H.level x ≤ f → Needs H x c → T (reach H f x c)
  unfolding reach
  →reach f {x} i l here = reach_here H f x
  →reach zero {x} i l (step {y = y} n r) = absurd (omega (arith, L.near_level x y i n))
  →reach (suc f) {x} {c} i l (step {y = y} n r) =
      let j : y < H.size = L.near_in x y i n in
      let h : T (reach H f y c) = →reach f j (omega (arith, L.near_level x y i n)) r in
      search (or_r, some_i, and_i)

  -- the closure, said without fuel
  pub closure→ : (X : Cells) (c : ℕ) → T (closure H X c) → (x : ℕ) × (x < H.size) × T (X x) × Needs H x c
  unfolding closure needs
  closure→ X c t =
      let p : Cells = λ x. X x && needs H x c in
      let r = some_e H.size p t in
      (r.0, r.1, search (and_l, r.2), reach→ H (H.level r.0) r.0 c (search (and_r, r.2)))

  pub →closure : (X : Cells) {x c : ℕ} → x < H.size → T (X x) → Needs H x c → T (closure H X c)
  unfolding closure needs
  →closure X {x} {c} i t r =
      let h : T (needs H x c) = →reach (H.level x) i (le_refl (H.level x)) r in
      search (some_i, and_i)

  pub closure_in : (X : Cells) (c : ℕ) → T (closure H X c) → c < H.size
  closure_in X c t = let (x, i, m, r) = closure→ X c t in needs_in i r

  pub closure_has : (X : Cells) → Within H X (closure H X)
  closure_has X c i t = →closure X i t here

  pub closure_admissible : (X : Cells) → Admissible H (closure H X)
  closure_admissible X q c _ t n = let (x, i, m, r) = closure→ X q t in →closure X i m (needs_near r n)

  pub closure_mesh : (X : Cells) → MeshSet H X → MeshSet H (closure H X)
  closure_mesh X W = record {
    closed = λ c _ t l. let (x, i, m, r) = closure→ X c t in
        let up : 1 ≤ H.level x = omega (arith, needs_level i r) in
        →closure X (L.parent_in x i up) (W.closed x i m up) (needs_parent i r l);
    shallow = λ c _ t. let (x, i, m, r) = closure→ X c t in omega (arith, needs_level i r, W.shallow x i m);
  }

  -- a admissible set has what its cells need
  pub admissible_needs : (S : Cells) → Admissible H S → {x c : ℕ} → x < H.size → T (S x) → Needs H x c → T (S c)
  admissible_needs S G i t here = t
  admissible_needs S G {x} i t (step {y = y} n r) = admissible_needs S G (L.near_in x y i n) (G x y i t n) r

  pub closure_least : (X S : Cells) → Admissible H S → Within H X S → (c : ℕ) → T (closure H X c) → T (S c)
  closure_least X S G W c t = let (x, i, m, r) = closure→ X c t in admissible_needs S G i (W x i m) r

  -- the closure of X is S, if S is admissible and has the same cells
  pub closure_is : (X S : Cells) → Admissible H S → Within H X S → Within H S X → (c : ℕ) → c < H.size → closure H X c ≡ S c
  closure_is X S G a b c i = same _ _ (closure_least X S G a c) (λ t. closure_has X c i (b c i t))

  pub closure_same : (S : Cells) → Admissible H S → (c : ℕ) → c < H.size → closure H S c ≡ S c
  closure_same S G = closure_is S S G (λ d _ t. t) (λ d _ t. t)

  -- what the closure of S and M has besides S, which is admissible, some cell of M needs
  pub closure_added : (S M : Cells) → Admissible H S → (c : ℕ) → T (closure H (S ∪ M) c) → (T (S c) → ⊥) → (x : ℕ) × (x < H.size) × T (M x) × Needs H x c
  closure_added S M G c t n =
      let (x, i, u, r) = closure→ (S ∪ M) c t in
      or_e (S x) (M x) u (λ s. absurd (n (admissible_needs S G i s r))) (λ m. (x, i, m, r))
