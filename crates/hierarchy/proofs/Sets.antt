-- Sets of cells of a hierarchy, as the theory sees them, and the laws that a hierarchy must obey. Assumes nothing.
use mathlib.Core.Path.{◌≡◌}
use mathlib.Core.Bool.{Bool, not, ◌&&◌, ◌||◌}
use Prim.Native.Nat.{ℕ, ◌+◌, ◌≤◌, ◌<◌}
use lib.Dec.{T, eqb, leb}
use Rattle.facts.specs.Bounded.{some}
use Rattle.hierarchy.specs.Hierarchy.{Hierarchy, Cells}

-- the only things that the theory knows of a grid
pub record Lawful (H : Hierarchy) : Type 0 where
  pub parent_in : (c : ℕ) → c < H.size → 1 ≤ H.level c → H.parent c < H.size
  pub parent_level : (c : ℕ) → c < H.size → 1 ≤ H.level c → H.level (H.parent c) + 1 ≡ H.level c
  pub near_in : (q c : ℕ) → q < H.size → T (H.near q c) → c < H.size
  pub near_level : (q c : ℕ) → q < H.size → T (H.near q c) → H.level c < H.level q
  pub near_parent : (q c : ℕ) → q < H.size → T (H.near q c) → 1 ≤ H.level c → T (H.near (H.parent q) (H.parent c))

infixl 40 ◌∪◌
abbrev pub ◌∪◌ : Cells → Cells → Cells
(S ∪ M) c = S c || M c

infixl 40 ◌∖◌
abbrev pub ◌∖◌ : Cells → Cells → Cells
(S ∖ M) c = S c && not (M c)

module _ (H : Hierarchy) where
  abbrev pub ParentClosed : Cells → Type 0
  ParentClosed S = (c : ℕ) → c < H.size → T (S c) → 1 ≤ H.level c → T (S (H.parent c))

  pub record MeshSet (S : Cells) : Type 0 where
    pub closed : ParentClosed S
    pub shallow : (c : ℕ) → c < H.size → T (S c) → H.level c + 1 < H.depth

  abbrev pub Admissible : Cells → Type 0
  Admissible S = (q c : ℕ) → q < H.size → T (S q) → T (H.near q c) → T (S c)

  -- every cell of X is one of S
  abbrev pub Within : Cells → Cells → Type 0
  Within X S = (c : ℕ) → c < H.size → T (X c) → T (S c)

  -- S has no number that is no cell
  abbrev pub Inside : Cells → Type 0
  Inside S = (c : ℕ) → T (S c) → c < H.size

  unfoldable pub active : Cells → ℕ → Bool
  active S c = not (S c) && (eqb (H.level c) 0 || S (H.parent c))

  unfoldable pub child : ℕ → ℕ → Bool
  child c d = leb 1 (H.level d) && eqb (H.parent d) c

  unfoldable pub reactivable : Cells → ℕ → Bool
  reactivable S c = S c && not (some H.size (λ d. child c d && S d))
