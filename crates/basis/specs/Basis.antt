-- Document 000, definitions 1 and 2: the regions that a mesh refines, and the hierarchical basis over them, as the recursion over
-- levels that is published. Definitions only.
use Rattle.std.specs.Prelude.{Bool, true, not, ◌&&◌, ◌||◌, List, ◌↔◌, ◌≡◌, ℕ, zero, suc, ◌-◌, ◌<◌, ◌≤◌, T, eqb}
use Rattle.facts.specs.Bounded.{implies, every}
use Rattle.grid.specs.declared.Plan.{Plan}
use Rattle.grid.specs.declared.Place.{Place}
use Rattle.grid.specs.Plan.{columns_at, rows_at, cell_number, function_place, function_level, supported_at, ancestor}
use Rattle.mesh.specs.Mesh.{refined}

-- Regions and supports are made of whole cells of different levels, so they are compared by points: a point is a cell of the last
-- level's grid, at row y and column x. It lies in just one cell of each level.

-- the last level: L-1
unfoldable pub finest : Plan → ℕ
finest p = p.levels - 1

-- the cell of level k that the point lies in
unfoldable pub cell_over : Plan → ℕ → ℕ → ℕ → Place
cell_over p k y x = record { level = k; row = ancestor p (finest p - k) y; column = ancestor p (finest p - k) x }

-- the point lies in the support of the function f, which is made of cells of f's own level
unfoldable pub in_support : Plan → ℕ → ℕ → ℕ → Bool
in_support p f y x = supported_at p (function_place p f) (cell_over p (function_level p f) y x)

module _ (p : Plan) (cells : List ℕ) where
  -- the point lies in Ω_k (definition 1): Ω_0 is the whole domain, and Ω_(k+1) the union of the refined cells of level k
  unfoldable pub in_region : ℕ → ℕ → ℕ → Bool
  in_region zero y x = true
  in_region (suc k) y x = refined cells (cell_number p (cell_over p k y x))

  -- supp f ⊂ Ω_k: each point of the one lies in the other
  unfoldable pub inside_region : ℕ → ℕ → Bool
  inside_region f k =
      every (rows_at p (finest p)) (λ y. every (columns_at p (finest p)) (λ x. implies (in_support p f y x) (in_region k y x)))

  -- f is in H_k (definition 2): H_0 is B_0, the functions of level 0. H_(k+1) keeps the functions of H_k whose support does not lie
  -- in Ω_(k+1), and has the functions of B_(k+1) whose support does
  unfoldable pub member : ℕ → ℕ → Bool
  member zero f = eqb (function_level p f) 0
  member (suc k) f =
      member k f && not (inside_region f (suc k))
      || eqb (function_level p f) (suc k) && inside_region f (suc k)

  -- "β is an active function if β ∈ H": H is H_(n-1), for the depth n of the regions. Here n is L, since a level left empty stays in
  -- the table; with any n from which on the regions are empty H is the same (`any_depth`, in proofs/)
  unfoldable pub active_function : ℕ → Bool
  active_function f = member (finest p) f

  -- "a deactivated function of level l if β ∈ H_l \ H_(l+1)"
  unfoldable pub deactivated_function : ℕ → Bool
  deactivated_function f = member (function_level p f) f && not (member (suc (function_level p f)) f)

  -- "Basis functions of level l whose support is not contained in Ω_l .. passive functions": those of level l that are not in H_l
  unfoldable pub passive_function : ℕ → Bool
  passive_function f = not (member (function_level p f) f)

-- Ω_k = ∅
abbrev pub Empty : Plan → List ℕ → ℕ → Type 0
Empty p cells k = (y x : ℕ) → y < rows_at p (finest p) → x < columns_at p (finest p) → ¬ T (in_region p cells k y x)

-- What definition 1 asks of the regions: Ω_0 ⊃ Ω_1 ⊃ .. ⊃ Ω_L, which is empty
pub record Subdomains (p : Plan) (cells : List ℕ) : Type 0 where
  pub nested : (k y x : ℕ) → k < p.levels → y < rows_at p (finest p) → x < columns_at p (finest p)
      → T (in_region p cells (suc k) y x) → T (in_region p cells k y x)
  pub empty : Empty p cells p.levels

-- The byte of f says what f is in the published basis over the cells: 1 active, 2 deactivated, 0 passive, and it is no other
pub record Published (p : Plan) (cells : List ℕ) (f byte : ℕ) : Type 0 where
  pub active : (byte ≡ 1) ↔ T (active_function p cells f)
  pub deactivated : (byte ≡ 2) ↔ T (deactivated_function p cells f)
  pub passive : (byte ≡ 0) ↔ T (passive_function p cells f)
  pub no_other : byte ≤ 2
