-- What a walk does to a set of cells, by a table for each set: it adds cells of an allowed set, each with its neighbourhood.
-- Assumes nothing.
use mathlib.Core.Path.{◌≡◌, refl, ap, subst, ◌∙◌}
use mathlib.Core.List.{List}
use Prim.Native.Nat.{ℕ, zero, suc, ◌+◌, ◌≤◌, ◌<◌}
use native.Mathlib.Omega.{arith}
use lib.Dec.{T, eqb, eqb→eq}
use Rattle.facts.proofs.Tests.{cases, not_e, differ}
use Rattle.hierarchy.specs.Hierarchy.{Hierarchy, Cells}
use Rattle.hierarchy.proofs.Sets.{Admissible, Within}
use Rattle.closure.specs.Walk.{sweep}

module _ (H : Hierarchy) where
  -- K may be walked from A: it has A and the neighbourhoods of its cells, none of its cells is of the last level, and their parents
  -- are in A, so each of them is present in the table of A
  pub record Allowed (A K : Cells) : Type 0 where
    pub has : Within H A K
    pub near : Admissible H K
    pub rooted : (c : ℕ) → c < H.size → T (K c) → 1 ≤ H.level c → T (A (H.parent c))
    pub shallow : (c : ℕ) → c < H.size → T (K c) → H.level c + 1 < H.depth

  pub record Between (A K S : Cells) : Type 0 where
    pub low : Within H A S
    pub high : Within H S K

  -- S' is S with cells of K of level below l, each with its neighbourhood
  pub record Grows (K : Cells) (l : ℕ) (S S' : Cells) : Type 0 where
    pub keeps : (c : ℕ) → T (S c) → T (S' c)
    pub high : Within H S' K
    pub near : (q c : ℕ) → q < H.size → T (S' q) → (T (S q) → ⊥) → T (H.near q c) → T (S' c)
    pub level : (q : ℕ) → q < H.size → T (S' q) → (T (S q) → ⊥) → H.level q < l

module _ (H : Hierarchy) (K : Cells) where
  pub grows_none : (l : ℕ) (S : Cells) → Within H S K → Grows H K l S S
  grows_none l S h = record { keeps = λ c t. t; high = h; near = λ q c i t n. absurd (n t); level = λ q i t n. absurd (n t) }

  pub grows_more : {l : ℕ} {S S' S'' : Cells} → Grows H K l S S' → Grows H K l S' S'' → Grows H K l S S''
  grows_more {l} {S} {S'} {S''} a b = record {
    keeps = λ c t. b.keeps c (a.keeps c t);
    high = b.high;
    near = λ q c i t n m. cases (S' q) (λ u. b.keeps c (a.near q c i u n m)) (λ u. b.near q c i t (not_e (S' q) u) m);
    level = λ q i t n. cases (S' q) (λ u. a.level q i u n) (λ u. b.level q i t (not_e (S' q) u));
  }

  pub grows_up : {l m : ℕ} {S S' : Cells} → l ≤ m → Grows H K l S S' → Grows H K m S S'
  grows_up h a = record { keeps = a.keeps; high = a.high; near = a.near; level = λ q i t n. omega (arith, a.level q i t n) }

-- what a sweep of walks has
abbrev pub Swept : (ℕ → ℕ → Type 0) → ℕ → ℕ → ℕ → Type 0
Swept D a n d = (i : ℕ) × (a ≤ i) × (i < a + n) × D i d

-- ---- what f makes of the table of a set between A and K: the table of a set that grew from it, and has D

module _ (H : Hierarchy) (table : Cells → List ℕ) (A K : Cells) where
  pub record Reaches (l : ℕ) (f : List ℕ → List ℕ) (D : ℕ → Type 0) (S : Cells) : Type 0 where
    pub set : Cells
    pub made : f (table S) ≡ table set
    pub grows : Grows H K l S set
    pub has : (d : ℕ) → D d → T (set d)

  abbrev pub Walks : ℕ → (List ℕ → List ℕ) → (ℕ → Type 0) → Type 0
  Walks l f D = (S : Cells) → Between H A K S → Reaches l f D S

  pub between_more : {l : ℕ} {S S' : Cells} → Between H A K S → Grows H K l S S' → Between H A K S'
  between_more b g = record { low = λ c i t. g.keeps c (b.low c i t); high = g.high }

  pub walks_none : (l : ℕ) (D : ℕ → Type 0) → ((d : ℕ) → D d → ⊥) → Walks l (λ t. t) D
  walks_none l D none S b =
      record { set = S; made = refl; grows = grows_none H K l S b.high; has = λ d h. absurd (none d h) }

  pub walks_sweep : (l : ℕ) (f : ℕ → List ℕ → List ℕ) (D : ℕ → ℕ → Type 0) (a n : ℕ)
      → ((i : ℕ) → a ≤ i → i < a + n → Walks l (f i) (D i)) → Walks l (sweep f a n) (Swept D a n)
  unfolding sweep
  walks_sweep l f D a zero w S b = walks_none l (Swept D a zero) (λ d s. omega (arith, s.1, s.2)) S b
  walks_sweep l f D a (suc n) w S b =
      let one : Reaches l (sweep f a n) (Swept D a n) S = walks_sweep l f D a n (λ i h k. w i h (omega arith)) S b in
      let two : Reaches l (f (a + n)) (D (a + n)) one.set = w (a + n) (omega arith) (omega arith) one.set (between_more b one.grows) in
      record {
        set = two.set;
        made = ap (f (a + n)) one.made ∙ two.made;
        grows = grows_more H K one.grows two.grows;
        has = λ d s. cases (eqb s.0 (a + n))
            (λ e. two.has d (subst (λ (i : ℕ). D i d) (eqb→eq s.0 (a + n) e) s.3))
            (λ e. two.grows.keeps d (one.has d (s.0, s.1, omega (arith, s.2, differ s.0 (a + n) e), s.3)));
      }

  -- the same walk said otherwise
  pub walks_is : (l : ℕ) (f g : List ℕ → List ℕ) (D : ℕ → Type 0) → ((t : List ℕ) → f t ≡ g t) → Walks l g D → Walks l f D
  walks_is l f g D e w S b = let r = w S b in record { set = r.set; made = e (table S) ∙ r.made; grows = r.grows; has = r.has }

  pub walks_has : (l : ℕ) (f : List ℕ → List ℕ) (D E : ℕ → Type 0) → ((d : ℕ) → E d → D d) → Walks l f D → Walks l f E
  walks_has l f D E h w S b = let r = w S b in record { set = r.set; made = r.made; grows = r.grows; has = λ d e. r.has d (h d e) }

  pub walks_up : (l m : ℕ) (f : List ℕ → List ℕ) (D : ℕ → Type 0) → l ≤ m → Walks l f D → Walks m f D
  walks_up l m f D h w S b = let r = w S b in record { set = r.set; made = r.made; grows = grows_up H K h r.grows; has = r.has }
