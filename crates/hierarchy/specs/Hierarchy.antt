-- A hierarchy of cells and the closure of a set of cells under neighbourhoods. Definitions only.
use Rattle.std.specs.Prelude.{Bool, ◌&&◌, ◌||◌, ℕ, zero, suc, eqb}
use Rattle.facts.specs.Bounded.{some}

-- what refining and coarsening see of a grid: its cells are the numbers below `size`
pub record Hierarchy : Type 0 where
  pub size : ℕ
  pub depth : ℕ
  pub level : ℕ → ℕ
  pub parent : ℕ → ℕ
  -- near q c: c is in the neighbourhood of q
  pub near : ℕ → ℕ → Bool

-- a set of cells
abbrev pub Cells : Type 0
Cells = ℕ → Bool

module _ (H : Hierarchy) where
  -- c is reached from x by at most f steps, each into a neighbourhood
  unfoldable pub reach : ℕ → ℕ → ℕ → Bool
  reach zero x c = eqb x c
  reach (suc f) x c = eqb x c || some H.size (λ y. H.near x y && reach f y c)

  -- x needs c: document 01, "a cell is split only after its neighbourhood, and each of those after its own".
  -- Each step goes to a lower level, so there are no more steps than x's level.
  unfoldable pub needs : ℕ → ℕ → Bool
  needs x c = reach (H.level x) x c

  -- the cells that X needs, itself among them. It is the smallest admissible set that has X (Closure, in proofs/)
  unfoldable pub closure : Cells → Cells
  closure X c = some H.size (λ x. X x && needs x c)
