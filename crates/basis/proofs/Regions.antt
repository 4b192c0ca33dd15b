-- The regions of a mesh: Ω_k is the union of its cells of level k, so the regions shrink and the last one is empty (document 000,
-- definition 1); a function's support lies in a region where its cells do. Assumes nothing.
use Prim.Native.Nat.{ℕ, zero, suc, ◌<◌, ◌≤◌}
use native.Mathlib.Nat.{eq-or-lt_of_le, le_of_suc-le-suc}
use native.Mathlib.Omega.{arith}
use mathlib.Core.Bool.{Bool, not}
use mathlib.Core.List.{List}
use mathlib.Core.Logic.{⊎_elim}
use mathlib.Core.Path.{◌≡◌, refl, ap, sym}
use lib.Dec.{T, eqb, eqb→eq, eqb-suc-zero}
use lib.ListN.{get_or}
use Rattle.facts.specs.Bounded.{implies, every}
use Rattle.facts.proofs.Tests.{implies_i, implies_e, T_true}
use Rattle.facts.proofs.Bounded.{every_i, every_e}
use Rattle.grid.specs.declared.Plan.{Plan}
use Rattle.grid.specs.declared.Place.{Place}
use Rattle.grid.specs.Plan.{columns_at, rows_at, cell_total, function_total, cell_place, cell_number, cell_level, function_level, parent, supported}
use Rattle.grid.specs.Range.{InRange}
use Rattle.grid.proofs.Laws.{cell_inside, function_inside, cell_number_place, cell_place_number, cell_number_lt, parent_lt, parent_level, is_child}
use Rattle.grid.proofs.Spans.{supported_places, support_some}
use Rattle.mesh.specs.Mesh.{absent, refined, is_mesh}
use Rattle.mesh.proofs.Bridge.{mesh_fits}
use Rattle.basis.specs.Basis.{finest, cell_over, in_support, in_region, inside_region}
use Rattle.basis.proofs.Points.{Point, over_in, over_above, point_of}

-- a cell whose byte is not 0 is present
pub byte_present : (cells : List ℕ) (c b : ℕ) → T (eqb (get_or cells c 0) (suc b)) → T (not (absent cells c))
unfolding absent
byte_present cells c b t = rw (eqb→eq (get_or cells c 0) (suc b) t, eqb-suc-zero b) tt

module _ (p : Plan) (range : InRange p) (cells : List ℕ) (mesh : T (is_mesh p cells)) where
  -- a cell is there just where its parent is refined
  present_is : (c : ℕ) → c < cell_total p → 0 < cell_level p c → not (absent cells c) ≡ refined cells (parent p c)
  present_is c b z =
      let l : suc (cell_level p (parent p c)) < p.levels = omega (arith, parent_level p range c b z, (cell_inside p range c b).level<) in
      let k = is_child p range c b z in
      rw k.4 at ((mesh_fits p cells mesh (parent p c) (parent_lt p range c b z)).below l k.0 k.1 k.2 k.3)

  -- ---- regions

  module _ (y x : ℕ) (pt : Point p y x) where
    abbrev cell : ℕ → ℕ
    cell k = cell_number p (cell_over p k y x)

    pub cell_lt : (k : ℕ) → k < p.levels → cell k < cell_total p
    cell_lt k b = cell_number_lt p range _ (over_in p k b y x pt)

    pub cell_place_lem : (k : ℕ) → k < p.levels → cell_place p (cell k) ≡ cell_over p k y x
    cell_place_lem k b = cell_place_number p range _ (over_in p k b y x pt)

    pub cell_level_lem : (k : ℕ) → k < p.levels → cell_level p (cell k) ≡ k
    unfolding cell_over
    cell_level_lem k b = ap (λ (c : Place). c.level) (cell_place_lem k b)

    cell_parent : (k : ℕ) → suc k < p.levels → parent p (cell (suc k)) ≡ cell k
    unfolding parent
    cell_parent k b = rw (cell_place_lem (suc k) b, over_above p k y x b)

    -- Ω_k is made of the cells of level k that are there, and Ω_(k+1) of the refined ones
    pub region_present : (k : ℕ) → k < p.levels → in_region p cells k y x ≡ not (absent cells (cell k))
    unfolding in_region
    region_present zero b = sym (T_true _ ((mesh_fits p cells mesh (cell 0) (cell_lt 0 b)).first (cell_level_lem 0 b)))
    region_present (suc k) b =
        let z : 0 < cell_level p (cell (suc k)) = omega (arith, cell_level_lem (suc k) b) in
        rw (present_is (cell (suc k)) (cell_lt (suc k) b) z, cell_parent k b)

    pub region_refined : (k : ℕ) → in_region p cells (suc k) y x ≡ refined cells (cell k)
    unfolding in_region
    region_refined k = refl

    -- Ω_(k+1) ⊂ Ω_k
    pub region_shrinks : (k : ℕ) → k < p.levels → T (in_region p cells (suc k) y x) → T (in_region p cells k y x)
    unfolding refined
    region_shrinks k b t = rw (region_present k b) (byte_present cells (cell k) 1 (rw (region_refined k) at t))

    pub region_within : (n k : ℕ) → n ≤ k → k ≤ p.levels → T (in_region p cells k y x) → T (in_region p cells n y x)
    region_within n zero l b t = let e : n ≡ 0 = omega arith in rw e t
    region_within n (suc k) l b t = ⊎_elim (λ e. rw e t)
        (λ h. region_within n k (le_of_suc-le-suc h) (omega arith) (region_shrinks k b t)) (eq-or-lt_of_le l)

    -- Ω_L = ∅
    pub region_empty : (k : ℕ) → suc k ≡ p.levels → ¬ T (in_region p cells (suc k) y x)
    region_empty k e t =
        let b : k < p.levels = omega arith in
        (mesh_fits p cells mesh (cell k) (cell_lt k b)).shallow (rw (region_refined k) at t) (omega (arith, cell_level_lem k b))

  -- ---- supports

  module _ (f : ℕ) (b : f < function_total p) where
    abbrev own : ℕ
    own = function_level p f

    own_lt : own < p.levels
    own_lt = (function_inside p range f b).level<

    pub inside_e : (k : ℕ) → T (inside_region p cells f k) → (y x : ℕ) → Point p y x → T (in_support p f y x) → T (in_region p cells k y x)
    unfolding inside_region
    inside_e k t y x pt s =
        implies_e (in_support p f y x) _
        (every_e (columns_at p (finest p)) (λ x. implies (in_support p f y x) (in_region p cells k y x))
        (every_e (rows_at p (finest p)) (λ y. every (columns_at p (finest p)) (λ x. implies (in_support p f y x) (in_region p cells k y x))) t y pt.row<)
        x pt.column<) s

    pub inside_i : (k : ℕ) → ((y x : ℕ) → Point p y x → T (in_support p f y x) → T (in_region p cells k y x)) → T (inside_region p cells f k)
    unfolding inside_region
    inside_i k h =
        every_i _ _ (λ y l. every_i _ _ (λ x m. implies_i (in_support p f y x) _ (h y x (record { row< = l; column< = m }))))

    pub inside_within : (n k : ℕ) → n ≤ k → k < p.levels → T (inside_region p cells f (suc k)) → T (inside_region p cells f (suc n))
    inside_within n k l m t = inside_i (suc n) (λ y x pt s. region_within y x pt (suc n) (suc k) (omega arith) m (inside_e (suc k) t y x pt s))

    -- no support lies in an empty region
    pub never_inside : (k : ℕ) → ((y x : ℕ) → Point p y x → ¬ T (in_region p cells k y x)) → ¬ T (inside_region p cells f k)
    unfolding in_support supported
    never_inside k e t =
        let (c, l, s) = support_some p range f b in
        let w = point_of p (cell_place p c) (cell_inside p range c l) in
        let o : cell_over p own w.row w.column ≡ cell_place p c = rw (supported_places p range f c l s).level w.over in
        e w.row w.column w.point (inside_e k t w.row w.column w.point (rw o s))

    -- where the region is told by a test of the cells of f's level, f lies inside if the cells of its support pass, and only then
    module _ (k : ℕ) (test : ℕ → Bool)
        (told : (y x : ℕ) → Point p y x → in_region p cells k y x ≡ test (cell_number p (cell_over p own y x))) where
      pub inside_cells : T (inside_region p cells f k) → (c : ℕ) → c < cell_total p → T (supported p f c) → T (test c)
      unfolding supported in_support
      inside_cells t c l s =
          let w = point_of p (cell_place p c) (cell_inside p range c l) in
          let o : cell_over p own w.row w.column ≡ cell_place p c = rw (supported_places p range f c l s).level w.over in
          let r = inside_e k t w.row w.column w.point (rw o s) in
          rw (told w.row w.column w.point, o, cell_number_place p range c l) at r

      pub cells_inside : ((c : ℕ) → c < cell_total p → T (supported p f c) → T (test c)) → T (inside_region p cells f k)
      unfolding supported in_support
      cells_inside h = inside_i k (λ y x pt s. rw (told y x pt) (h _ (cell_lt y x pt own own_lt) (rw (cell_place_lem y x pt own own_lt) s)))
