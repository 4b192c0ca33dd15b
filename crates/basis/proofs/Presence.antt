-- Document 02, Req 12: in an admissible mesh of class m no function of a level up to k-m+1 over an active cell of level k is passive.
-- Of neighbourhoods this uses `near_of_common` alone. Assumes nothing.
use Prim.Native.Nat.{ℕ, suc, ◌+◌, ◌-◌, ◌<◌, ◌≤◌}
use native.Mathlib.Omega.{arith}
use mathlib.Core.Bool.{not, ◌&&◌, ◌||◌}
use mathlib.Core.List.{List}
use mathlib.Core.Logic.{◌≢◌}
use mathlib.Core.Path.{◌≡◌, sym, ap, subst, ◌∙◌}
use lib.Dec.{T, eqb, eqb→eq}
use lib.ListN.{get_or}
use Rattle.facts.specs.Bounded.{some}
use Rattle.facts.proofs.Tests.{and_l, and_r, or_l, or_r, cases, positive, differ, eqb_of}
use Rattle.facts.proofs.Bounded.{some_e}
use Rattle.grid.specs.declared.Plan.{Plan}
use Rattle.grid.specs.Plan.{columns_at, rows_at, cell_total, function_total, cell_place, cell_number, cell_level, function_level, parent, supported}
use Rattle.grid.specs.Range.{InRange, HasNeighbourhood}
use Rattle.grid.specs.Spans.{ancestor_level, ancestor_of}
use Rattle.grid.proofs.Laws.{cell_inside, function_inside}
use Rattle.grid.proofs.First.{supported_under, near_of_common}
use Rattle.mesh.specs.Mesh.{absent, active, refined, deactivated, is_mesh, label_of, check}
use Rattle.mesh.proofs.Bridge.{Good, check_good, get_d_labels, is_mesh_lem, apart_bytes, present_of_lem, passive_i, present_i}
use Rattle.basis.specs.Basis.{finest, cell_over, in_support, in_region}
use Rattle.basis.specs.Levels.{in_cell, over, OverActive, Present}
use Rattle.basis.proofs.Points.{Point, over_ancestor}
use Rattle.basis.proofs.Regions.{byte_present, cell_lt, cell_place_lem, cell_level_lem, region_present, region_refined, region_within}

-- a point that the support of f and the cell c have in common
record Common (p : Plan) (f c : ℕ) : Type 0 where
  row : ℕ
  column : ℕ
  point : Point p row column
  in_cell : cell_number p (cell_over p (cell_level p c) row column) ≡ c
  in_support : T (in_support p f row column)

common : (p : Plan) (f c : ℕ) → T (over p f c) → Common p f c
unfolding over in_cell
common p f c t =
    let (y, l, u) = some_e (rows_at p (finest p)) (λ y. some (columns_at p (finest p)) (λ x. in_cell p c y x && in_support p f y x)) t in
    let (x, m, v) = some_e (columns_at p (finest p)) (λ x. in_cell p c y x && in_support p f y x) u in
    record {
      row = y;
      column = x;
      point = record { row< = l; column< = m };
      in_cell = eqb→eq (cell_number p (cell_over p (cell_level p c) y x)) c (and_l (in_cell p c y x) _ v);
      in_support = and_r (in_cell p c y x) _ v;
    }

-- ---- the label of a function over an active cell, where its level is another

module _ (p : Plan) (cells : List ℕ) (G : Good p cells) (c f : ℕ) (h : OverActive p cells c f) where
  abbrev range : InRange p
  range = G.range

  abbrev mesh : T (is_mesh p cells)
  mesh = is_mesh_lem p cells G

  abbrev o : Common p f c
  o = common p f c h.is_over

  abbrev y : ℕ
  y = o.row

  abbrev x : ℕ
  x = o.column

  abbrev k : ℕ
  k = cell_level p c

  abbrev own : ℕ
  own = function_level p f

  k_lt : k < p.levels
  k_lt = (cell_inside p range c h.cell<).level<

  own_lt : own < p.levels
  own_lt = (function_inside p range f h.function<).level<

  -- the cell of a level at the point
  abbrev cell : ℕ → ℕ
  cell n = cell_number p (cell_over p n y x)

  own_supported : T (supported p f (cell own))
  unfolding supported in_support
  own_supported = rw (cell_place_lem p range cells mesh y x o.point own own_lt) o.in_support

  -- the point lies in Ω_k and not in Ω_(k+1)
  here : T (in_region p cells k y x)
  unfolding active
  here = rw (region_present p range cells mesh y x o.point k k_lt, o.in_cell) (byte_present cells c 0 h.is_active)

  no_further : ¬ T (in_region p cells (suc k) y x)
  no_further t = apart_bytes p cells G c h.is_active (rw (region_refined p range cells mesh y x o.point k, o.in_cell) at t)

  -- a finer function has no cell there
  finer_passive : k < own → label_of p cells f ≡ 0
  finer_passive l = passive_i p cells f (cell own) (cell_lt p range cells mesh y x o.point own own_lt) own_supported
      (cases (absent cells (cell own)) (λ t. t) (λ n. absurd (no_further
      (region_within p range cells mesh y x o.point (suc k) own l (omega (arith, own_lt))
      (rw (region_present p range cells mesh y x o.point own own_lt) n)))))

  -- q is the cell at the point whose ancestor is on the level of f. It is refined, and so are the parents of f's cells, which are near it
  module _ (graded : 0 < p.class) (below : own + p.class ≤ k + 1) where
    abbrev level : ℕ
    level = own + p.class - 2

    many : 2 ≤ p.class
    many = omega (arith, graded, range.class≢)

    -- a cell of f's is rooted
    module _ (d : ℕ) (l : d < cell_total p) (t : T (supported p f d)) where
      d_level : own ≡ cell_level p d
      d_level = (supported_under p range f d l t).level

      module _ (z : 0 < own) where
        level_lt : level < p.levels
        level_lt = omega (arith, below, k_lt, many)

        abbrev q : ℕ
        q = cell level

        q_lt : q < cell_total p
        q_lt = cell_lt p range cells mesh y x o.point level level_lt

        q_refined : T (refined cells q)
        q_refined = rw (region_refined p range cells mesh y x o.point level) at
            (region_within p range cells mesh y x o.point (suc level) k (omega (arith, below, many)) (omega (arith, k_lt)) here)

        has : HasNeighbourhood p level
        has = record { class≢ = omega (arith, graded); level≥ = omega (arith, z, many) }

        has_q : HasNeighbourhood p (cell_level p q)
        has_q = subst (HasNeighbourhood p) (sym (cell_level_lem p range cells mesh y x o.point level level_lt)) has

        under_ancestor : T (supported p f (cell_number p (ancestor_of p (cell_place p q))))
        under_ancestor =
            let e : ancestor_level p level ≡ own = omega (arith, many) in
            rw (cell_place_lem p range cells mesh y x o.point level level_lt, over_ancestor p level y x level_lt has, e) own_supported

        parent_refined : T (refined cells (parent p d))
        parent_refined = G.admissible q (parent p d) q_lt q_refined (near_of_common p range f q d q_lt l has_q under_ancestor t)

      d_present : T (not (absent cells d))
      d_present = subst T (sym (present_of_lem p cells G d l)) (cases (eqb (cell_level p d) 0)
          (λ z. or_l (eqb (cell_level p d) 0) _ z)
          (λ z. or_r (eqb (cell_level p d) 0) _ (parent_refined (omega (arith, d_level, positive (cell_level p d) z)))))

    coarser_present : (1 ≤ label_of p cells f) × (label_of p cells f ≤ 2)
    coarser_present = present_i p cells f d_present

-- ---- of tables that check passes

module _ (p : Plan) (cells functions : List ℕ) (checked : check p cells functions ≡ 0) (classed : p.class ≢ 0) where
  good : Good p cells
  good = (check_good p cells functions checked).0

  graded : 0 < p.class
  graded = omega (arith, classed)

  label : (f : ℕ) → f < function_total p → get_or functions f 0 ≡ label_of p cells f
  label f j = ap (λ (fs : List ℕ). get_or fs f 0) (check_good p cells functions checked).1 ∙ get_d_labels p cells f j

  -- a byte that is 1 or 2
  one_or_two : (n : ℕ) → 1 ≤ n → n ≤ 2 → T (eqb n 1 || eqb n 2)
  one_or_two n a b = cases (eqb n 1)
      (λ t. or_l (eqb n 1) _ t)
      (λ t. or_r (eqb n 1) (eqb n 2) (eqb_of n 2 (omega (arith, differ n 1 t))))

  module _ (c f : ℕ) (h : OverActive p cells c f) where
    finer : cell_level p c < function_level p f → get_or functions f 0 ≡ 0
    finer l = label f h.function< ∙ finer_passive p cells good c f h l

    coarser : function_level p f + p.class ≤ cell_level p c + 1 → T (active functions f || deactivated functions f)
    unfolding active refined
    coarser l =
        let (a, b) = coarser_present p cells good c f h graded l in
        rw (label f h.function<) (one_or_two (label_of p cells f) a b)

  pub present : Present p cells functions
  present = record { level = λ c f h k e. coarser c f h (omega (arith, e)); coarser = coarser; finer = finer }
