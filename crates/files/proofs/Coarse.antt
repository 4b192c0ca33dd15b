-- The cells before the last level: no other cell of a mesh is refined. Assumes nothing.
use mathlib.Core.Path.{◌≡◌, sym, subst, ◌∙◌}
use mathlib.Core.Bool.{Bool, false}
use mathlib.Core.List.{List}
use Prim.Native.Nat.{ℕ, zero, suc, ◌+◌, ◌-◌, ◌≤◌, ◌<◌}
use native.Mathlib.Omega.{arith}
use lib.Dec.{T, eqb, eqb→eq, le→leb}
use Rattle.facts.specs.Numbers.{listed}
use Rattle.facts.proofs.Tests.{T_false}
use Rattle.facts.proofs.Turns.{listed_no}
use Rattle.grid.specs.declared.Plan.{Plan}
use Rattle.grid.specs.Plan.{columns_at, rows_at, cell_offset, cell_total, cell_level, last_level}
use Rattle.grid.specs.Range.{InRange}
use Rattle.grid.proofs.Levels.{offset_mono}
use Rattle.grid.proofs.LastLevel.{cell_last}
use Rattle.mesh.specs.Mesh.{refined, is_mesh}
use Rattle.mesh.proofs.Bridge.{mesh_fits}

-- how many there are
abbrev pub coarser : Plan → ℕ
coarser p = cell_offset p (p.levels - 1)

pub coarser_le : (p : Plan) → coarser p ≤ cell_total p
coarser_le p = offset_mono (columns_at p) (rows_at p) (p.levels - 1) p.levels (omega arith)

listed_above : (p : ℕ → Bool) (n d : ℕ) → ((c : ℕ) → n ≤ c → c < n + d → p c ≡ false) → listed (n + d) p ≡ listed n p
listed_above p n zero h = let e : n + 0 ≡ n = omega arith in rw e
listed_above p n (suc d) h =
    let e : n + suc d ≡ n + d + 1 = omega arith in
    rw e (listed_no p (n + d) (h (n + d) (omega arith) (omega arith)) ∙ listed_above p n d (λ c l m. h c l (omega arith)))

module _ (p : Plan) (cells : List ℕ) (range : InRange p) (mesh : T (is_mesh p cells)) where
  not_refined : (c : ℕ) → coarser p ≤ c → c < cell_total p → refined cells c ≡ false
  unfolding last_level
  not_refined c l m = T_false (refined cells c) (λ r.
      let last : T (eqb (cell_level p c + 1) p.levels) = subst T (sym (cell_last p range c m)) (le→leb (coarser p) c l) in
      (mesh_fits p cells mesh c m).shallow r (eqb→eq _ _ last))

  pub listed_coarser : listed (cell_total p) (refined cells) ≡ listed (coarser p) (refined cells)
  listed_coarser =
      let e : coarser p + (cell_total p - coarser p) ≡ cell_total p = omega (arith, coarser_le p) in
      rw e at (listed_above (refined cells) (coarser p) (cell_total p - coarser p) (λ c l m. not_refined c l (omega arith)))
